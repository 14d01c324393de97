-- Plain databases that agree with what was fed, and what changes from one to another. (This project's
-- profile.)
use Rattle.std.specs.Prelude.{◌≡◌, ◌≢◌, ◌↔◌, ℕ, List, map, All, Contains, Option}
use Rattle.std.specs.FinMap.Entries.{find, where_key}
use Rattle.mr_base.specs.declared.ids.RangeId.{RangeId}
use Rattle.mr_base.specs.declared.script.Fed.{Fed}
use Rattle.mr_base.specs.declared.spans.Write.{Write}
use Rattle.row_locality.specs.Pairs.{bytes_cmp, key_value}
use Rattle.row_locality.specs.Plain.{Layout, PlainDatabase, range_pairs}
use Rattle.row_locality.specs.Spans.{is_in}

-- What a database holds in a span that was fed are the rows that were fed.
abbrev pub AgreesOn : Layout → PlainDatabase → Fed → Type 0
AgreesOn l d fed = where_key bytes_cmp (is_in fed.ask.span) (range_pairs l d fed.ask.range) ≡ map key_value fed.rows

-- A database agrees with all that was fed.
abbrev pub Agrees : Layout → PlainDatabase → List Fed → Type 0
Agrees l d fed = All (AgreesOn l d) fed

-- What a database holds at a key of a range.
abbrev pub range_value : Layout → PlainDatabase → RangeId → List ℕ → Option (List ℕ)
range_value l d range key = find bytes_cmp key (range_pairs l d range)

-- From one database to another a key gets this value, another than it had, or loses its value.
pub record IsChange (l : Layout) (old new : PlainDatabase) (w : Write) : Type 0 where
  pub becomes : range_value l new w.range w.key ≡ w.value
  pub was_other : range_value l old w.range w.key ≢ w.value

-- These writes are exactly what changes.
abbrev pub AreChanges : Layout → (old new : PlainDatabase) → List Write → Type 0
AreChanges l old new writes = (w : Write) → IsChange l old new w ↔ Contains writes w
