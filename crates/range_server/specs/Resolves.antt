use Rattle.std.specs.Prelude.{◌≡◌, ℕ, List, [], All, Contains}
use Rattle.mr_base.specs.declared.ids.AttemptId.{AttemptId}
use Rattle.mr_base.specs.declared.messages.Fate.{Fate}
use Rattle.range_log.specs.declared.entries.Entry.{Entry}
use Rattle.range_log.specs.declared.entries.Entry.TheVariants as log
use Rattle.range_rules.specs.Resolves.{HasIntentOf}
use Rattle.range_server.specs.Refusals.{CanAppend, IsByHolder}
use Rattle.range_server.specs.Scene.{Scene}

-- How intents are resolved. (Taft et al., SIGMOD 2020, on intents.)

-- Where the server can append, the attempt has no intent left at these keys; else nothing is done.
pub record AreResolved (sc : Scene) (attempt : AttemptId) (keys : List (List ℕ)) (entries added : List Entry) : Type 0 where
  pub resolved : CanAppend sc → All (λ key. ¬ HasIntentOf attempt key entries) keys
  pub refused : ¬ CanAppend sc → added ≡ []
  pub held : IsByHolder sc added

-- A resolve is of an intent of the attempt that stands at one of these keys, and tells the attempt's fate.
abbrev pub IsResolveOf : AttemptId → List (List ℕ) → Fate → Entry → List Entry → Type 0
IsResolveOf attempt keys fate (log.Resolve a key f) before =
    (a ≡ attempt) × Contains keys key × (f ≡ fate) × HasIntentOf attempt key before
IsResolveOf attempt keys fate e before = ⊥
