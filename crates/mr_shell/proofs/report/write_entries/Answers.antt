use Rattle.std.proofs.lemmas.Result.{err_from_is_err_and}
use Rattle.std.proofs.Common.{◌∙◌}
use Rattle.mr_shell.proofs.TextLemmas.{some_entries, some_text}
use Rattle.mr_shell.proofs.report.write_entries.Goals as goal

pub returns-in_err-text-clause-stops : goal.returns-in_err-text-clause-stops
returns-in_err-text-clause-stops g c =
    let p = err_from_is_err_and c.from_residual.result c.from_residual.ensures.1 in
    rw (p.1, p.2) (some_entries c.args.mode c.args.names.now c.args.entries.now c.loop-entry.entry-index (g.K.Sink.written c.args.sink.now) (g.K.Sink.written c.loop-entry.sink) c.loop-entry.invariant.written)

pub returns-in_err-write_text-clause-stops : goal.returns-in_err-write_text-clause-stops
returns-in_err-write_text-clause-stops g c =
    let p = err_from_is_err_and c.from_residual-in_err-write_text.result c.from_residual-in_err-write_text.ensures.1 in
    rw (p.1, p.2, c.in_err-write_text.ensures.ends)
    (some_text c.args.mode c.args.names.now c.args.entries.now c.loop-entry.entry-index c.entry-item.result c.as_slice.result.now (g.K.Sink.written c.args.sink.now) (g.K.Sink.written c.loop-entry.sink) (g.K.Sink.written c.write_text.new.sink) c.loop-entry-test.true c.entry-item.is (c.as_slice.ensures ∙ c.in_ok-text.ensures.text) c.loop-entry.invariant.written c.in_err-write_text.ensures.part)
