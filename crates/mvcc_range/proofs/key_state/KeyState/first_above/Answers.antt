use Rattle.std.proofs.Common.{None, Some}
use Rattle.mvcc_range.proofs.RangeLemmas.{first_of, none_above}
use Rattle.mvcc_range.specs.KeyFacts.{IsFirstAbove}
use Rattle.mvcc_range.specs.KeyValue.{KeyValue}
use Rattle.mvcc_range.proofs.key_state.KeyState.first_above.Goals as goal
use Rattle.std.proofs.Common.{subst}

pub returns : goal.returns
returns c =
    subst (λ (s : KeyValue). IsFirstAbove s c.args.at (Some c.in-Some.ts.now)) c.self.view_is
    (first_of c.self.inside.versions c.self.inside.intent c.args.at c.in-Some.ts.now c.in-Some.field-0-1.now c.range.result c.next.new.self c.in-Some.ensures.steps (c.range.ensures.in_range tt))

pub returns-in_default : goal.returns-in_default
returns-in_default c =
    subst (λ (s : KeyValue). IsFirstAbove s c.args.at None) c.self.view_is
    (none_above c.self.inside.versions c.self.inside.intent c.args.at c.range.result c.in_default.ensures.steps.0 (c.range.ensures.in_range tt))
