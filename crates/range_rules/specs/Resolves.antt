use Rattle.std.specs.Prelude.{◌≡◌, ⊤, ℕ, List, Option, Some}
use Rattle.mr_base.specs.declared.ids.AttemptId.{AttemptId}
use Rattle.mr_base.specs.declared.messages.Fate.{Fate}
use Rattle.mr_base.specs.declared.messages.Fate.TheVariants as fates
use Rattle.range_log.specs.Facts.{HasIntent, Laid}
use Rattle.range_log.specs.declared.entries.Entry.{Entry}
use Rattle.range_log.specs.declared.entries.TxnState.{TxnState}
use Rattle.range_log.specs.declared.entries.TxnState.TheVariants.{Committed, Aborted}

-- How an intent is resolved. (Taft et al., SIGMOD 2020, on intents.)

-- An attempt has an intent at a key.
abbrev pub HasIntentOf : AttemptId → List ℕ → List Entry → Type 0
HasIntentOf a key entries = (i : Laid) × HasIntent key i entries × (i.attempt ≡ a)

-- A fate settles an intent for good: committed or aborted.
abbrev pub Decides : Fate → Type 0
Decides (fates.Committed ts) = ⊤
Decides fates.Aborted = ⊤
Decides (fates.Pushed ts) = ⊥

-- A fate repeats a decided record.
abbrev pub Repeats : Option TxnState → Fate → Type 0
Repeats (Some (Committed ts)) (fates.Committed at) = ts ≡ at
Repeats (Some (Aborted by)) fates.Aborted = ⊤
Repeats _ fate = ⊥
