use Rattle.std.proofs.lemmas.Result.{err_from_is_err_and}
use Rattle.mr_shell.proofs.StopLemmas.{taken_line, within_line, within_short}
use Rattle.mr_shell.proofs.pieces.run_byte.Goals as goal

pub returns-in-Err-clause-stops : goal.returns-in-Err-clause-stops
returns-in-Err-clause-stops g c =
    λ report taken h. within_short (g.R.Runner.has_run report) (g.R.Runner.stops_at report) taken c.args.runner.now c.args.pending.now.items (g.K.Sink.written c.args.sink.now) c.args.byte c.if-byte-ne10.true h

pub returns-in_err-run_next-clause-stops : goal.returns-in_err-run_next-clause-stops
returns-in_err-run_next-clause-stops g c =
    let p = err_from_is_err_and c.from_residual.result c.from_residual.ensures.1 in
    rw (p.1, p.2)
    (λ report taken h.
    within_line (g.R.Runner.has_run report) (g.R.Runner.stops_at report) c.in_err-run_next.field-0.0 taken h.lines c.args.byte c.as_slice.result.now c.args.pending.now.items c.content.result.now c.run_next.new.self (g.K.Sink.written c.run_next.new.sink) c.if-byte-ne10.false c.as_slice.ensures.value c.content.ensures h.cut (c.in_err-run_next.ensures.stops report h.lines h.run))

pub returns-clause-runs : goal.returns-clause-runs
returns-clause-runs g c =
    λ report taken h.
    taken_line (g.R.Runner.has_run report) taken h.lines c.args.byte c.as_slice.result.now c.args.pending.now.items c.content.result.now c.clear.new.self.items c.run_next.new.self (g.K.Sink.written c.run_next.new.sink) c.if-byte-ne10.false c.as_slice.ensures.value c.clear.ensures.items c.content.ensures h.cut (c.in_ok-run_next.ensures.runs report h.lines h.run)
