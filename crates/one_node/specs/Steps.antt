use Rattle.std.specs.Prelude.{ℕ, ℤ, ◌+◌, List, [], ◌∷◌, ◌++◌, Some, length, map}
use Rattle.mr_base.specs.declared.ids.NodeId.{NodeId}
use Rattle.mr_base.specs.declared.ids.RangeId.{RangeId}
use Rattle.mr_base.specs.declared.messages.Fate.TheVariants as fates
use Rattle.mr_base.specs.declared.spans.Span.{Span}
use Rattle.mr_base.specs.declared.states.SqlState.TheVariants as states
use Rattle.mr_base.specs.declared.timestamps.Ts.{Ts}
use Rattle.range_log.specs.declared.entries.Entry.{Entry}
use Rattle.range_log.specs.declared.entries.Entry.TheVariants as log
use Rattle.range_log.specs.declared.entries.Lease.{Lease}
use Rattle.range_log.specs.declared.entries.TxnState.TheVariants as records
use Rattle.row_locality.specs.OneColumnDatabases.{row_with}
use Rattle.row_locality.specs.OneColumnRows.{int_key, int_value, point_of, the_primary_keys}
use Rattle.journal.specs.declared.entries.How.TheVariants as how
use Rattle.journal.specs.declared.entries.JournalEntry.{JournalEntry}
use Rattle.journal.specs.declared.entries.JournalEntry.TheVariants as entry
use Rattle.mr_base.specs.declared.results.Verb.TheVariants as verb
use Rattle.journal.specs.declared.entries.Why.TheVariants as why
use Rattle.one_node.specs.declared.courses.Course.{Course}
use Rattle.one_node.specs.declared.courses.Course.TheVariants as courses
use Rattle.one_node.specs.declared.transaction.Begun.{Begun}

abbrev pub node : NodeId
node = record { 0 = 1 }

abbrev pub range : RangeId
range = record { 0 = 1 }

abbrev pub begin_step : Begun → JournalEntry
begin_step b = entry.Begin b.txn b.attempt node b.start (Some b.limit)

abbrev pub serve_step : Begun → Span → ℕ → JournalEntry
serve_step b span count = entry.Serve b.attempt node range span b.start (Some b.limit) count how.Lease []

abbrev pub append_step : ℕ → Entry → JournalEntry
append_step index e = entry.Append range index e

-- A row is put, committed and resolved, first things first.
abbrev pub insert_steps : Begun → ℤ → ℕ → Ts → List JournalEntry
insert_steps b n count at =
    append_step (count + 1) (log.Put b.attempt b.start range at (int_key n) (Some (int_value n)))
    ∷ append_step (count + 2) (log.State b.attempt (records.Committed at))
    ∷ append_step (count + 3) (log.Resolve b.attempt (int_key n) (fates.Committed at)) ∷ []

abbrev pub ack_insert : Begun → Ts → JournalEntry
ack_insert b at = entry.Ack b.txn at (record { verb = verb.Insert; count = 1; rows = [] } ∷ [])

abbrev pub ack_select : Begun → List ℤ → JournalEntry
ack_select b ids = entry.Ack b.txn b.start (record { verb = verb.Select; count = length ids; rows = map row_with ids } ∷ [])

abbrev pub duplicate : Begun → JournalEntry
duplicate b = entry.Fault b.txn b.start states.S23505

abbrev pub no_lease : Begun → JournalEntry
no_lease b = entry.Refuse b.txn (why.NoLease range)

abbrev pub first_lease : ℕ → Lease
first_lease expiration = record { seq = 1; holder = node; boot = 1; expiration = expiration; low = record { wall = 0; logical = 0; owner = 0 } }

-- The entries of a transaction behind its beginning, where the log has so many entries and the rows these
-- ids.
abbrev pub course_steps : Begun → Course → ℕ → List ℤ → List JournalEntry
course_steps b courses.Unserved count ids = no_lease b ∷ []
course_steps b (courses.Duplicate n) count ids = serve_step b (point_of n) count ∷ duplicate b ∷ []
course_steps b (courses.Inserts n) count ids =
    serve_step b (point_of n) count ∷ (insert_steps b n count b.start ++ ack_insert b b.start ∷ [])
course_steps b courses.Selects count ids = serve_step b the_primary_keys count ∷ ack_select b ids ∷ []

-- The entries of a transaction's line.
abbrev pub line_steps : ℕ → Begun → Course → ℕ → List ℤ → List JournalEntry
line_steps line b course count ids = entry.Event line ∷ begin_step b ∷ course_steps b course count ids
