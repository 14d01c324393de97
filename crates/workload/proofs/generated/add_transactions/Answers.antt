use Rattle.std.proofs.Common.{◌+◌, ◌∙◌, arith}
use Rattle.workload.proofs.Prefixes.{added_more, words_more}
use Rattle.workload.proofs.generated.add_transactions.Goals as goal

pub loop-done-preserved : goal.loop-done-preserved
loop-done-preserved c =
    let l = c.loop-done in
    record {
      words = words_more c.args.seed l.done (l.done + 1) l.words c.next_lines.new.words (omega arith) l.invariant.words c.in_ok-lines.ensures.moved;
      added = c.in_ok-extend_from_slice.ensures.items ∙ added_more c.args.seed l.done (l.done + 1) l.words c.args.text.now.items l.text.items c.as_bytes.result.now (omega arith) l.invariant.words l.invariant.added (c.as_bytes.ensures.value ∙ c.in_ok-lines.ensures.lines);
    }
