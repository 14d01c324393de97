use Rattle.std.specs.Prelude.{◌≡◌, ◌⊎◌, ◌++◌, ℕ, List, All, take}
use Rattle.mr_base.specs.declared.ids.AttemptId.{AttemptId}
use Rattle.mr_base.specs.declared.messages.Fate.{Fate}
use Rattle.mvcc_range.specs.Follows.{Follows}
use Rattle.range_log.specs.Facts.{lease_of}
use Rattle.range_log.specs.LogValue.{LogValue}
use Rattle.range_log.specs.declared.entries.Entry.TheVariants as log
use Rattle.range_rules.specs.Added.{AreLicensed, added_to}
use Rattle.range_rules.specs.Resolves.{HasIntentOf}
use Rattle.range_server.specs.Resolves.{IsResolveOf}
use Rattle.range_server.specs.Steps.{IsAppended}
use Rattle.range_server.specs.declared.standing.Standing.{Standing}

-- How intents are resolved one after the other. No public clause cites this.

-- the intent of an attempt at a key is resolved, if it stands there
abbrev pub IsResolvedAt : AttemptId → List ℕ → Fate → (before after : LogValue) → (old new : Standing) → Type 0
IsResolvedAt attempt key fate before after old new =
    ((¬ HasIntentOf attempt key before.entries) × (after ≡ before) × (new ≡ old))
    ⊎ (HasIntentOf attempt key before.entries × IsAppended (log.Resolve attempt key fate) before after old new)

-- the intents of an attempt at the first of these keys are resolved
pub record AreResolvedTo (attempt : AttemptId) (keys : List (List ℕ)) (n : ℕ) (fate : Fate) (before after : LogValue) (old new : Standing) : Type 0 where
  pub grown : after.entries ≡ added_to before.entries after.entries ++ before.entries
  pub licensed : AreLicensed (IsResolveOf attempt keys fate) (added_to before.entries after.entries) before.entries
  pub none : All (λ key. ¬ HasIntentOf attempt key after.entries) (take n keys)
  pub last : lease_of after.entries ≡ lease_of before.entries
  pub voters : after.voters ≡ before.voters
  pub follows : Follows new.replica after.entries
  pub kept : new ≡ record old { replica = new.replica }
