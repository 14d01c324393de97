use Rattle.std.specs.List.{list_any}
use Rattle.std.specs.Prelude.{Bool, IsSome, IsTrue, None, Option, Some, [], false, length, min, true, ⊤, ◌+◌, ◌==◌, ◌∷◌, ◌≡◌, ◌≢◌, ◌⊎◌}
use Rattle.closed_ts.specs.Targets.{close_target}
use Rattle.journal.specs.declared.entries.JournalEntry.TheVariants as entry
use Rattle.journal.specs.declared.entries.JournalEntry.{JournalEntry}
use Rattle.journal.specs.declared.events.Event.TheVariants as events
use Rattle.journal.specs.declared.events.Event.{Event}
use Rattle.mr_base.specs.Timestamps.{IsBelow}
use Rattle.mr_base.specs.declared.ids.NodeId.{NodeId}
use Rattle.mr_base.specs.declared.ids.RangeId.{RangeId}
use Rattle.mr_base.specs.declared.ids.TxnId.{TxnId}
use Rattle.range_log.specs.Facts.{closed_of}
use Rattle.run_laws.specs.Appended.{IsActing}
use Rattle.run_laws.specs.Messages.{IsInFlight}
use Rattle.run_words.specs.Askers.{gateway_of}
use Rattle.run_words.specs.Clocks.{reading}
use Rattle.run_words.specs.History.{History, Item, Made, Ran}
use Rattle.run_words.specs.Logs.{applied, holder_of, log_of}
use Rattle.run_words.specs.Messages.{flight}
use Rattle.run_words.specs.Ranges.{HasQuorum, IsAllApplied, is_global, range_of}
use Rattle.run_words.specs.Setup.{Setup}
use Rattle.run_words.specs.Steps.{event_of, has_ticked}
use Rattle.run_words.specs.Transactions.{beginning, is_open}

-- Whole: what each line makes stands behind it. (This project's profile.)

-- The history before the last line.
abbrev pub before_line : History → History
before_line [] = []
before_line (Ran line event ∷ h) = h
before_line (x ∷ h) = before_line h

abbrev pub IsLeaseAnswer : JournalEntry → RangeId → Type 0
IsLeaseAnswer (entry.Lease r seq holder expiration) j = r ≡ j
IsLeaseAnswer (entry.LeaseRefused r w) j = r ≡ j
IsLeaseAnswer _ j = ⊥

abbrev pub IsShowAnswer : JournalEntry → Type 0
IsShowAnswer (entry.ShowRange j seq holder expiration closed count) = ⊤
IsShowAnswer (entry.ShowNode n clock running at) = ⊤
IsShowAnswer (entry.ShowFlight ms) = ⊤
IsShowAnswer _ = ⊥

-- The newest item is an entry of which this holds.
abbrev pub IsNewest : (JournalEntry → Type 0) → History → Type 0
IsNewest P (Made made ∷ h) = P made
IsNewest P _ = ⊥

abbrev pub is_close_refusal : RangeId → Item → Bool
is_close_refusal j (Made (entry.CloseRefused r w)) = r.0 == j.0
is_close_refusal j _ = false

-- What was done since the last line.
abbrev pub since_line : History → History
since_line [] = []
since_line (Ran line event ∷ h) = []
since_line (x ∷ h) = x ∷ since_line h

-- A range has closed the target of its holder's clock or a later timestamp, where the holder can; or it says why not.
abbrev pub IsCloseMade : Setup → History → RangeId → Type 0
IsCloseMade setup h j =
    IsTrue (list_any (is_close_refusal j) (since_line h))
    ⊎ ((n : NodeId) × (holder_of (log_of setup h j) ≡ Some n) × IsActing setup h n j × HasQuorum setup h j
    × (¬ IsBelow (closed_of (log_of setup h j)) (close_target (is_global setup h j) (reading setup h n) setup.settings)))

-- All was delivered and applied.
abbrev pub IsDrained : Setup → History → Type 0
IsDrained setup h = (flight h ≡ []) × IsAllApplied setup h

abbrev pub IsMade : Setup → History → Event → Type 0
IsMade setup h events.Begin = (j : RangeId) → IsSome (range_of setup h j) → log_of setup h j ≢ []
IsMade setup h (events.Txn t n kind list) = IsSome (beginning h t)
IsMade setup h (events.Deliver m) = ¬ IsInFlight h m
IsMade setup h (events.Drop m) = ¬ IsInFlight h m
IsMade setup h (events.Timeout t) = is_open h t ≡ false
IsMade setup h (events.Apply n j count) =
    applied setup h n j ≡ min (applied setup (before_line h) n j + count) (length (log_of setup h j))
IsMade setup h events.Drain = IsDrained setup h
IsMade setup h (events.Settle ms) = (has_ticked h ≡ true) × IsDrained setup h
IsMade setup h (events.Stop n) = (t : TxnId) → gateway_of h t ≡ Some n → is_open h t ≡ false
IsMade setup h (events.LeaseAcquire j n) = IsNewest (λ made. IsLeaseAnswer made j) h
IsMade setup h (events.LeaseTransfer j n) = IsNewest (λ made. IsLeaseAnswer made j) h
IsMade setup h (events.LeaseExtend j) = IsNewest (λ made. IsLeaseAnswer made j) h
IsMade setup h (events.Close (Some j)) = IsCloseMade setup h j
IsMade setup h (events.Close None) = (j : RangeId) → IsSome (range_of setup h j) → IsCloseMade setup h j
IsMade setup h (events.ShowRange j) = IsNewest IsShowAnswer h
IsMade setup h (events.ShowNode n) = IsNewest IsShowAnswer h
IsMade setup h events.ShowFlight = IsNewest IsShowAnswer h
IsMade setup h _ = ⊤

abbrev pub IsMadeAt : Setup → History → Option Event → Type 0
IsMadeAt setup h None = ⊤
IsMadeAt setup h (Some event) = IsMade setup h event

-- At the end of a line, all that it makes stands.
abbrev pub IsWholeAt : Setup → History → Type 0
IsWholeAt setup h = IsMadeAt setup h (event_of h)
