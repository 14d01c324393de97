use Rattle.std.proofs.Common.{ℕ, List, refl, ap, subst}
use Rattle.std.specs.Prelude.{Contains}
use Rattle.scenario.specs.FirstSeen.{Seen}
use Rattle.scenario.proofs.NoLine.{no_transaction, used, not_taken}
use Rattle.scenario.proofs.Names.{refuted}
use Rattle.scenario.proofs.first_path.FirstPath.transaction.Goals as goal

pub returns-then-is_used : goal.returns-then-is_used
returns-then-is_used c =
    let has : Contains c.args.self.now.names c.in-Some.name.now =
    subst (λ (ns : List (List ℕ)). Contains ns c.in-Some.name.now) (ap (λ (s : Seen). s.names) c.self.view_is) (c.is_used.ensures.used.0 c.if-is_used.true) in
    (refl, refl, no_transaction _ _ c.requires.expected c.requires.counts (used c.args.self.now _ _ _ c.in-Some.ensures.found has))

pub returns-then-not-is_taken : goal.returns-then-not-is_taken
returns-then-not-is_taken c = (
  refl,
  refl,
  no_transaction _ _ c.requires.expected c.requires.counts
      (not_taken c.args.self.now _ _ _ c.in-Some.ensures.found (refuted _ _ c.is_taken.ensures c.if-not-is_taken.true)),
)
