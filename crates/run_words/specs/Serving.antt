use Rattle.std.specs.Prelude.{◌≡◌, ℕ, ◌==◌, if◌then◌else◌, List, [], ◌∷◌, Option, Some}
use Rattle.mr_base.specs.declared.ids.AttemptId.{AttemptId}
use Rattle.mr_base.specs.declared.ids.NodeId.{NodeId}
use Rattle.mr_base.specs.declared.ids.RangeId.{RangeId}
use Rattle.mr_base.specs.declared.ids.MsgId.{MsgId}
use Rattle.mr_base.specs.declared.timestamps.Ts.{Ts}
use Rattle.range_log.specs.declared.entries.Entry.{Entry}
use Rattle.range_log.specs.declared.entries.Lease.{Lease}
use Rattle.journal.specs.declared.entries.How.{How}
use Rattle.journal.specs.declared.entries.How.TheVariants as how
use Rattle.journal.specs.declared.entries.JournalEntry.TheVariants as entry
use Rattle.mvcc_range.specs.Answer.{Read}
use Rattle.range_log.specs.Facts.{closed_of, first_entries, lease_of}
use Rattle.closed_ts.specs.Serving.{ServesByLease, ServesByClosure}
use Rattle.run_words.specs.History.{Item, Made, History}
use Rattle.run_words.specs.Logs.{log_of, prefix}
use Rattle.run_words.specs.Nodes.{boot}
use Rattle.run_words.specs.Setup.{Setup}
use Rattle.run_words.specs.Messages.{handled}

-- Who may serve what, and what was served. (Leases and follower reads: Taft et al., SIGMOD 2020, and VanBenschoten
-- et al., SIGMOD 2022.)

-- A node may serve a read of a range: by its lease at its present boot, or by what was closed, as far as it has
-- applied the log.
abbrev pub MayServe : Setup → History → How → NodeId → RangeId → Ts → Option ℕ → Type 0
MayServe setup h how.Lease n j at limit =
    (lease : Lease) × (lease_of (prefix setup h n j) ≡ Some lease) × ServesByLease lease n (boot setup h n) at limit
MayServe setup h how.Closure n j at limit = ServesByClosure (closed_of (prefix setup h n j)) at limit

-- A node holds the lease of a range: the last lease that it has applied is the log's last and names it at its
-- present boot.
abbrev pub IsHolder : Setup → History → NodeId → RangeId → Type 0
IsHolder setup h n j =
    (lease : Lease) × (lease_of (prefix setup h n j) ≡ Some lease) × (lease_of (log_of setup h j) ≡ Some lease)
    × (lease.holder ≡ n) × (lease.boot ≡ boot setup h n)

-- A read or refresh that was served: where, from how many entries and which, by what right, and with the request
-- in whose step, where that wasn't the gateway's own.
pub record ServedRead : Type 0 where
  pub read : Read
  pub node : NodeId
  pub range : RangeId
  pub count : ℕ
  pub entries : List Entry
  pub by : How
  pub via : Option MsgId

abbrev pub serves_after : Item → (RangeId → List Entry) → Option MsgId → AttemptId → List ServedRead → List ServedRead
serves_after (Made (entry.Serve attempt node range span at limit count by known)) logs via a old =
    if attempt.0 == a.0
    then record {
      read = record { attempt = attempt; span = span; at = at; limit = limit; known = known };
      node = node;
      range = range;
      count = count;
      entries = first_entries count (logs range);
      by = by;
      via = via;
    } ∷ old
    else old
serves_after _ logs via a old = old

-- What was served to an attempt, the newest first.
abbrev pub serves : Setup → History → AttemptId → List ServedRead
serves setup [] a = []
serves setup (x ∷ h) a = serves_after x (log_of setup h) (handled h) a (serves setup h a)
