use Rattle.std.specs.Prelude.{◌≡◌, ℕ, ◌<◌, ◌⊎◌, List, [], ⊤, length, slice_get, Option, Some, None}
use Rattle.mr_base.specs.declared.script.Need.{Need}
use Rattle.mr_base.specs.declared.script.Need.TheVariants as need
use Rattle.mr_base.specs.declared.script.Fed.{Fed}
use Rattle.mr_base.specs.declared.spans.Ask.{Ask}
use Rattle.mr_base.specs.declared.spans.Pair.{Pair}
use Rattle.mr_base.specs.declared.spans.Write.{Write}
use Rattle.mr_base.specs.declared.results.StatementResult.{StatementResult}

-- What a script was made with, as three functions of what it was fed, first things first: what it needs
-- next, and, once it needs nothing, what it writes and what its statements answer, one by one.
pub record Program : Type 0 where
  pub need_after : List Fed → Need
  pub writes_after : List Fed → List Write
  pub answers_after : List Fed → List StatementResult

abbrev pub IsDone : Need → Type 0
IsDone need.Done = ⊤
IsDone (need.Ask a) = ⊥
IsDone (need.Fault s) = ⊥

abbrev pub AsksFor : Need → Type 0
AsksFor need.Done = ⊥
AsksFor (need.Ask a) = ⊤
AsksFor (need.Fault s) = ⊥

-- A span with the rows that it was fed.
abbrev pub fed_with : Ask → List Pair → Fed
fed_with ask rows = record { ask = ask; rows = rows }

-- Fewer phases are to come, or as many and fewer asks in the present one.
abbrev pub IsNearer : (old_phases old_asks new_phases new_asks : ℕ) → Type 0
IsNearer old_phases old_asks new_phases new_asks = (new_phases < old_phases) ⊎ ((new_phases ≡ old_phases) × (new_asks < old_asks))

-- The fixed asks one after the other, then nothing.
abbrev pub next_of : Option Ask → Need
next_of None = need.Done
next_of (Some a) = need.Ask a

abbrev pub fixed : List Ask → List Write → Program
fixed asks writes = record { need_after = λ fed. next_of (slice_get asks (length fed)); writes_after = λ fed. writes; answers_after = λ fed. [] }
