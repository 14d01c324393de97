use Rattle.std.proofs.Common.{◌∙◌, arith, sym, true≢false}
use Rattle.zone_compile.proofs.Formed.{at_home_of, texts_of}
use Rattle.zone_compile.proofs.forming.is_at_home.Goals as goal

pub returns-then-not-are_texts : goal.returns-then-not-are_texts
returns-then-not-are_texts c = (λ yes. absurd (true≢false (sym yes)), λ home. sym c.if-not-are_texts.true ∙ c.are_texts.ensures.1 (texts_of c.args.counts.now home.text))

pub returns : goal.returns
returns c = (
  λ yes. at_home_of c.args.goal c.args.counts.now c.args.home.now (c.are_texts.ensures.0 c.if-not-are_texts.false) (omega arith) (c.are_distinct.ensures.0 c.if-not-are_distinct.false) (c.has_region.ensures.0 yes) (c.are_enough.ensures.0 c.if-not-are_enough.false),
  λ home. c.has_region.ensures.1 home.at_home,
)
