use Rattle.std.proofs.Common.{List, [], refl, subst, sym, ◌∙◌}
use Rattle.mr_base.specs.declared.spans.Pair.{Pair}
use Rattle.mvcc_range.proofs.KeyOrder.{no_keys, not_lt_key}
use Rattle.mvcc_range.proofs.ReadWalk.{read_walked}
use Rattle.mvcc_range.specs.KeyView.{as_read}
use Rattle.mvcc_range.specs.ReadAnswers.{IsReadAnswer}
use Rattle.mvcc_range.specs.declared.answers.ReadAnswer.TheVariants.{Rows}
use Rattle.mvcc_range.proofs.reads.read_keys.Goals as goal

pub returns-else-lt : goal.returns-else-lt
returns-else-lt c = λ entries stand.
    let read = as_read c.args.read.now in
    subst (λ (rows : List Pair). IsReadAnswer entries read (Rows rows)) (sym c.new.ensures)
    (read_walked entries read c.args.keys.now.entries [] (Rows []) stand
    (no_keys c.args.keys.now.entries c.args.read.now.span.now (not_lt_key c.args.read.now.span.now.lo c.args.read.now.span.now.hi (sym c.lt.ensures ∙ c.if-lt.false))) refl)
