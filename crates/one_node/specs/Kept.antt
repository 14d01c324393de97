use Rattle.std.specs.Prelude.{◌≡◌, ◌↔◌, ◌⊎◌, ℕ, ℤ, ◌+◌, ◌*◌, ◌≤◌, ⊤, List, [], ◌∷◌, Some, None, length}
use Rattle.mr_base.specs.Timestamps.{of_reading}
use Rattle.mr_base.specs.declared.ids.AttemptId.{AttemptId}
use Rattle.mr_base.specs.declared.messages.Fate.TheVariants as fates
use Rattle.mr_base.specs.declared.settings.Settings.{Settings}
use Rattle.mr_base.specs.declared.timestamps.Reading.{Reading}
use Rattle.mr_base.specs.declared.timestamps.Ts.{Ts}
use Rattle.range_log.specs.declared.entries.Entry.{Entry}
use Rattle.range_log.specs.declared.entries.Entry.TheVariants as log
use Rattle.range_log.specs.declared.entries.Lease.{Lease}
use Rattle.range_log.specs.declared.entries.TxnState.TheVariants as records
use Rattle.row_locality.specs.OneColumnDatabases.{AreRising, AreInts, HasId, IsInt}
use Rattle.row_locality.specs.OneColumnRows.{int_key, int_value}
use Rattle.one_node_laws.specs.Words.{log_of, the_range, attempts_of, greatest_start}
use Rattle.journal.specs.declared.entries.JournalEntry.{JournalEntry}
use Rattle.journal.specs.declared.entries.JournalEntry.TheVariants as entry
use Rattle.one_node.specs.Bounds.{IsBehind}
use Rattle.one_node.specs.Steps.{first_lease}
use Rattle.one_node.specs.declared.range.Range.{Range}

abbrev pub nothing_kept : Ts
nothing_kept = record { wall = 0; logical = 0; owner = 0 }

-- A row that an attempt put, committed and resolved.
pub record HeldRow : Type 0 where
  pub id : ℤ
  pub attempt : AttemptId
  pub ts : Ts

-- The log of a range whose rows were put one after the other, the newest first, under a first lease.
abbrev pub tidy_log : ℕ → List HeldRow → List Entry
tidy_log expiration [] = log.Lease (first_lease expiration) ∷ []
tidy_log expiration (h ∷ hs) =
    log.Resolve h.attempt (int_key h.id) (fates.Committed h.ts)
    ∷ log.State h.attempt (records.Committed h.ts)
    ∷ log.Put h.attempt h.ts the_range h.ts (int_key h.id) (Some (int_value h.id)) ∷ tidy_log expiration hs

-- One of the rows has this id.
abbrev pub HasRowOf : ℤ → List HeldRow → Type 0
HasRowOf n [] = ⊥
HasRowOf n (h ∷ hs) = (h.id ≡ n) ⊎ HasRowOf n hs

-- The rows have different ids, and none is ahead of the clock or the number of attempts.
abbrev pub AreRows : Reading → ℕ → List HeldRow → Type 0
AreRows kept count [] = ⊤
AreRows kept count (h ∷ hs) =
    IsBehind kept count h.ts × (h.attempt.0 ≤ count) × IsInt h.id × (¬ HasRowOf h.id hs) × AreRows kept count hs

-- An entry's attempt was begun, and its reads aren't ahead of the clock.
abbrev pub IsWithin : Reading → ℕ → JournalEntry → Type 0
IsWithin kept count (entry.Begin txn attempt gateway start limit) = attempt.0 ≤ count
IsWithin kept count (entry.Serve attempt node range span at limit length by known) = (attempt.0 ≤ count) × IsBehind kept count at
IsWithin kept count (entry.Append range index (log.Put attempt start anchor ts key value)) = attempt.0 ≤ count
IsWithin kept count (entry.Append range index (log.State attempt state)) = attempt.0 ≤ count
IsWithin kept count (entry.Append range index (log.Resolve attempt key fate)) = attempt.0 ≤ count
IsWithin kept count e = ⊤

abbrev pub AreWithin : Reading → ℕ → List JournalEntry → Type 0
AreWithin kept count [] = ⊤
AreWithin kept count (e ∷ es) = IsWithin kept count e × AreWithin kept count es

-- The range that is kept is that of the journal, where it is made.
pub record IsKept (kept : Reading) (count : ℕ) (range : Range) (journal : List JournalEntry) : Type 0 where
  pub expiration : ℕ
  pub rows : List HeldRow
  pub lease : range.lease ≡ Some (first_lease expiration)
  pub log_is : log_of the_range journal ≡ tidy_log expiration rows
  pub length_is : range.length ≡ length (tidy_log expiration rows)
  pub are_rows : AreRows kept count rows
  pub same : (n : ℤ) → (HasId n range.ids.keys ↔ HasRowOf n rows)
  pub rising : AreRising range.ids.keys
  pub ints : AreInts range.ids.keys

-- Nothing was run yet.
pub record IsUnmade (range : Range) (journal : List JournalEntry) : Type 0 where
  pub journal_is : journal ≡ []
  pub lease : range.lease ≡ None
  pub ids : range.ids.keys ≡ []

-- The journal is known by what is kept of it. The floor is the start of the last attempt, at which it read.
pub record IsKnown (kept : Reading) (count : ℕ) (range : Range) (journal : List JournalEntry) : Type 0 where
  pub attempts : attempts_of journal ≡ count
  pub starts : greatest_start journal ≡ kept
  pub within : AreWithin kept count journal
  pub floor : IsBehind kept count range.floor
  pub floor_is : range.floor ≡ of_reading kept count
  pub small : range.length ≤ 1 + 3 * count
  pub state : IsUnmade range journal ⊎ IsKept kept count range journal

-- The lease that is kept ends no sooner than a whole lease after the node's clock.
abbrev pub IsLasting : Settings → ℕ → Range → Type 0
IsLasting settings physical range = (lease : Lease) → range.lease ≡ Some lease → physical + settings.lease ≤ lease.expiration
