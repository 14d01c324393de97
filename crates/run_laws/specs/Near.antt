use Rattle.std.specs.List.{filter}
use Rattle.std.specs.Option.{option_and_then, option_map_or}
use Rattle.std.specs.Prelude.{Bool, List, None, Option, Some, [], false, if◌then◌else◌, not, slice_get, ℕ, ⊤, ◌++◌, ◌||◌, ◌≡◌, ◌≢◌}
use Rattle.std.specs.Str.{bytes_eq}
use Rattle.closed_ts.specs.Routing.{is_node}
use Rattle.journal.specs.declared.entries.How.{How}
use Rattle.journal.specs.declared.entries.JournalEntry.TheVariants as entry
use Rattle.journal.specs.declared.entries.Shown.TheVariants as shown
use Rattle.mr_base.specs.declared.ids.AttemptId.{AttemptId}
use Rattle.mr_base.specs.declared.ids.NodeId.{NodeId}
use Rattle.mr_base.specs.declared.ids.RangeId.{RangeId}
use Rattle.mr_base.specs.declared.messages.Request.TheVariants as requests
use Rattle.mr_base.specs.declared.messages.Request.{Request}
use Rattle.mr_base.specs.declared.rows.Datum.{Datum}
use Rattle.mr_base.specs.declared.script.Fed.{Fed}
use Rattle.mr_base.specs.declared.timestamps.Ts.{Ts}
use Rattle.row_locality.specs.Plain.{Partition}
use Rattle.run_laws.specs.Lists.{IsListOf, region_of_node}
use Rattle.run_words.specs.Askers.{txn_of}
use Rattle.run_words.specs.Happened.{Always}
use Rattle.run_words.specs.Hints.{hint}
use Rattle.run_words.specs.History.{History, Item, Made}
use Rattle.run_words.specs.Ranges.{HoldsReplica, is_global, replicas_of}
use Rattle.run_words.specs.Requests.{has_asked}
use Rattle.run_words.specs.Serving.{MayServe}
use Rattle.run_words.specs.Setup.{Setup}
use Rattle.run_words.specs.Transactions.{Beginning, beginning}
use Rattle.sql_eval.specs.Evaluation.{Setting}
use Rattle.sql_eval.specs.Execution.{Named}
use Rattle.sql_eval.specs.Laws.{IsNearSearch}
use Rattle.sql_eval.specs.ListFaults.{is_past}
use Rattle.sql_eval.specs.Lookups.{key_lookup}
use Rattle.sql_eval.specs.Reads.{served_reads}
use Rattle.sql_eval.specs.Search.{ask_of}

-- Near first: where the first message of a read goes. (Follower reads and global tables: VanBenschoten et al., SIGMOD
-- 2022; locality optimized search: CockroachDB's documentation; which replica is asked is this project's profile.)

-- A node may not serve a read of a range: it has no replica, or neither its lease nor what was closed lets it.
abbrev pub CannotRead : Setup → History → NodeId → RangeId → Ts → Option ℕ → Type 0
CannotRead setup h n j at limit = HoldsReplica setup h n j → (by : How) → ¬ MayServe setup h by n j at limit

-- The other replicas of a range, in their order.
abbrev pub other_replicas : Setup → History → NodeId → RangeId → List NodeId
other_replicas setup h n j = filter (λ m. not (is_node n m)) (replicas_of setup h j)

-- Those of the node's own region.
abbrev pub near_replicas : Setup → History → NodeId → RangeId → List NodeId
near_replicas setup h n j =
    filter (λ m. bytes_eq (region_of_node setup n) (region_of_node setup m)) (other_replicas setup h n j)

-- The one that the hint names.
abbrev pub hinted_replicas : Setup → History → NodeId → RangeId → List NodeId
hinted_replicas setup h n j = filter (is_node (hint setup h n j).holder) (other_replicas setup h n j)

-- Whether any replica may do: the range is of a GLOBAL table, or the read is of the past.
abbrev pub reads_near : Setup → History → RangeId → Option Beginning → Bool
reads_near setup h j begun = is_global setup h j || option_map_or (λ b. is_past b.kind) begun false

-- In which order a first message looks for its receiver.
abbrev pub first_receivers : Setup → History → NodeId → RangeId → Bool → List NodeId
first_receivers setup h n j near =
    (if near then near_replicas setup h n j else []) ++ hinted_replicas setup h n j ++ other_replicas setup h n j

-- A first message of a read or refresh: the gateway's own replica may not serve it, and the message goes to the first
-- of these.
pub record IsFirstMessage (setup : Setup) (h : History) (from to : NodeId) (a : AttemptId) (j : RangeId) (at : Ts) (limit : Option ℕ) : Type 0 where
  pub unserved : CannotRead setup h from j at limit
  pub begun : Option Beginning
  pub begun_is : begun ≡ option_and_then (beginning h) (txn_of h a)
  pub receiver : slice_get (first_receivers setup h from j (reads_near setup h j begun)) 0 ≡ Some to

abbrev pub IsNearRequest : Setup → History → NodeId → NodeId → Request → Type 0
IsNearRequest setup h from to (requests.Read a j span at limit known) = has_asked h a ≡ false → IsFirstMessage setup h from to a j at limit
IsNearRequest setup h from to (requests.Refresh a j span start at known) = has_asked h a ≡ false → IsFirstMessage setup h from to a j at None
IsNearRequest setup h from to _ = ⊤

-- A list of one SELECT or DELETE that looks its rows up by an index in all partitions reads another partition only after
-- the near one was served, and held no pair of that key or value.
abbrev pub IsNearRead : Setup → History → AttemptId → RangeId → Type 0
IsNearRead setup h a j =
    (s : Setting) (fed : List Fed) (n : Named) (near : Partition) (x : ℕ × List Datum) → IsListOf setup h a s fed → IsNearSearch s n near x
    → j ≢ near.range → served_reads fed (ask_of (key_lookup x.0 x.1 near)) ≡ Some []

abbrev pub IsNearRequestOf : Setup → History → Request → Type 0
IsNearRequestOf setup h (requests.Read a j span at limit known) = IsNearRead setup h a j
IsNearRequestOf setup h _ = ⊤

abbrev pub Near : Setup → Item → History → Type 0
Near setup (Made (entry.Sent m from to clock (shown.Request q))) h = IsNearRequest setup h from to q × IsNearRequestOf setup h q
Near setup (Made (entry.Serve a n j span at limit count by known)) h = IsNearRead setup h a j
Near setup _ h = ⊤

abbrev pub IsNear : Setup → History → Type 0
IsNear setup h = Always (Near setup) h
