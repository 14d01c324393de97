use Rattle.std.proofs.Common.{None, Some}
use Rattle.mvcc_range.proofs.RangeLemmas.{last_of, none_below}
use Rattle.mvcc_range.specs.KeyFacts.{IsLastBelow}
use Rattle.mvcc_range.specs.KeyValue.{KeyValue}
use Rattle.mvcc_range.proofs.key_state.KeyState.last_below.Goals as goal
use Rattle.std.proofs.Common.{subst}

pub returns : goal.returns
returns c =
    subst (λ (s : KeyValue). IsLastBelow s c.args.at (Some (c.in-Some.ts.now, c.in-Some.value))) c.self.view_is
    (last_of c.self.inside.versions c.self.inside.intent c.args.at c.in-Some.ts.now c.in-Some.value c.range.result c.next_back.new.self c.in-Some.ensures.steps (c.range.ensures.in_range tt))

pub returns-in_default : goal.returns-in_default
returns-in_default c =
    subst (λ (s : KeyValue). IsLastBelow s c.args.at None) c.self.view_is
    (none_below c.self.inside.versions c.self.inside.intent c.args.at c.range.result c.in_default.ensures.steps.0 (c.range.ensures.in_range tt))
