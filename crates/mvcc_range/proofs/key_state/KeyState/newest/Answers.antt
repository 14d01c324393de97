use Rattle.std.proofs.Common.{Some}
use Rattle.mvcc_range.proofs.RangeLemmas.{greatest_of}
use Rattle.mvcc_range.specs.KeyFacts.{IsGreatestOf}
use Rattle.mvcc_range.specs.KeyValue.{KeyValue}
use Rattle.mvcc_range.proofs.key_state.KeyState.newest.Goals as goal
use Rattle.std.proofs.Common.{subst}

pub returns : goal.returns
returns c =
    subst (λ (s : KeyValue). IsGreatestOf s (Some c.in-Some.ts.now)) c.self.view_is
    (greatest_of c.self.inside.versions c.self.inside.intent c.in-Some.ts.now c.in-Some.ts.now _ c.in-Some.ensures.value c.in-Some.ensures.greatest)
