use Rattle.std.specs.Prelude.{None, Option, Some, [], ℕ, ⊤, ◌<◌, ◌≡◌, ◌≢◌, ◌≤◌}
use Rattle.journal.specs.declared.events.Event.TheVariants as events
use Rattle.mr_base.specs.declared.ids.NodeId.{NodeId}
use Rattle.mr_base.specs.declared.ids.RangeId.{RangeId}
use Rattle.run_laws.specs.RangeLines.{reached}
use Rattle.run_words.specs.History.{History}
use Rattle.run_words.specs.Logs.{applied, log_of}
use Rattle.run_words.specs.Setup.{Setup}
use Rattle.run_words.specs.Steps.{event_of}

-- How far the ranges are made, in the order of their numbers.

-- Of ranges with further numbers nothing was appended or applied.
abbrev pub AreUnmade : Setup → History → ℕ → Type 0
AreUnmade setup h upto = (j : RangeId) → upto < j.0 → (log_of setup h j ≡ []) × ((n : NodeId) → applied setup h n j ≡ 0)

abbrev pub IsReachedTo : Option RangeId → ℕ → Type 0
IsReachedTo None upto = ⊤
IsReachedTo (Some r) upto = r.0 ≤ upto

-- Those up to a number have begun.
abbrev pub AreMade : Setup → History → ℕ → Type 0
AreMade setup h upto = (j : RangeId) → 1 ≤ j.0 → j.0 ≤ upto → log_of setup h j ≢ []

-- Behind the `begin` line the ranges are made up to a number.
pub record IsMaking (setup : Setup) (h : History) (upto : ℕ) : Type 0 where
  pub line : event_of h ≡ Some events.Begin
  pub unmade : AreUnmade setup h upto
  pub reached_to : IsReachedTo (reached h) upto
  pub made : AreMade setup h upto
