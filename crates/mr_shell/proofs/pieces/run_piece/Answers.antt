use Rattle.std.proofs.Common.{arith, take, ◌++◌}
use Rattle.std.proofs.lemmas.Result.{err_from_is_err_and}
use Rattle.mr_shell.proofs.StopLemmas.{taken_byte, within_piece}
use Rattle.mr_shell.proofs.pieces.run_piece.Goals as goal

pub returns-in_err-run_byte-clause-stops : goal.returns-in_err-run_byte-clause-stops
returns-in_err-run_byte-clause-stops g c =
    let p = err_from_is_err_and c.from_residual.result c.from_residual.ensures.1 in
    rw (p.1, p.2)
    (λ report taken h.
    within_piece (g.R.Runner.has_run report) (g.R.Runner.stops_at report) c.in_err-run_byte.field-0.0 taken c.args.piece.now c.loop-byte.byte-index c.run_byte.new.runner (g.K.Sink.written c.run_byte.new.sink) c.loop-byte-test.true
    (c.in_err-run_byte.ensures.stops report (taken ++ take c.loop-byte.byte-index c.args.piece.now) (c.loop-byte.invariant.runs report taken h)))

pub loop-byte-preserved : goal.loop-byte-preserved
loop-byte-preserved g c =
    record {
      ready = c.in_ok-run_byte.ensures.ready;
      runs = λ report taken h.
          taken_byte (g.R.Runner.has_run report) taken c.args.piece.now c.loop-byte.byte-index c.run_byte.new.runner c.run_byte.new.pending.items (g.K.Sink.written c.run_byte.new.sink) c.loop-byte-test.true
          (c.in_ok-run_byte.ensures.runs report (taken ++ take c.loop-byte.byte-index c.args.piece.now) (c.loop-byte.invariant.runs report taken h));
      never_falls = omega (arith, c.loop-byte.invariant.never_falls, c.in_ok-run_byte.ensures.never_falls);
    }
