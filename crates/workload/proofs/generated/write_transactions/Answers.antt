use Rattle.std.proofs.Common.{◌+◌, ◌∙◌, arith}
use Rattle.std.proofs.lemmas.Result.{err_from_is_err_and}
use Rattle.workload.proofs.Prefixes.{prefix_before_next, prefix_in_next, words_more, written_more}
use Rattle.workload.proofs.generated.write_transactions.Goals as goal

pub returns-in_err-lines-clause-part : goal.returns-in_err-lines-clause-part
returns-in_err-lines-clause-part g c =
    let l = c.loop-done in
    let old = g.K.Sink.written c.args.sink.now in
    let held = g.K.Sink.written l.sink in
    rw (err_from_is_err_and c.from_residual.result c.from_residual.ensures.1).1
    (prefix_before_next old held c.args.seed l.done c.args.size c.loop-done-test.true l.invariant.written)

pub returns-in_err-write_all-clause-part : goal.returns-in_err-write_all-clause-part
returns-in_err-write_all-clause-part g c =
    let l = c.loop-done in
    rw (err_from_is_err_and c.from_residual-in_err-write_all.result c.from_residual-in_err-write_all.ensures.1).1
    (prefix_in_next c.args.seed l.done (l.done + 1) c.args.size l.words (g.K.Sink.written c.args.sink.now) (g.K.Sink.written l.sink) (g.K.Sink.written c.write_all.new.sink) c.as_bytes.result.now (omega arith) c.loop-done-test.true l.invariant.words l.invariant.written (c.as_bytes.ensures.value ∙ c.in_ok-lines.ensures.lines) c.in_err-write_all.ensures.part)

pub loop-done-preserved : goal.loop-done-preserved
loop-done-preserved g c =
    let l = c.loop-done in
    record {
      words = words_more c.args.seed l.done (l.done + 1) l.words c.next_lines.new.words (omega arith) l.invariant.words c.in_ok-lines.ensures.moved;
      written = written_more c.args.seed l.done (l.done + 1) l.words (g.K.Sink.written c.args.sink.now) (g.K.Sink.written l.sink) (g.K.Sink.written c.write_all.new.sink) c.as_bytes.result.now (omega arith) l.invariant.words l.invariant.written (c.as_bytes.ensures.value ∙ c.in_ok-lines.ensures.lines) c.in_ok-write_all.ensures.all;
      counted = omega (arith, c.in_ok-write_all.ensures.never_falls, l.invariant.counted);
    }
