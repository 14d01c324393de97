use Rattle.std.specs.Prelude.{Some, ⊤, ◌≡◌}
use Rattle.journal.specs.declared.entries.JournalEntry.TheVariants as entry
use Rattle.journal.specs.declared.entries.Shown.TheVariants as shown
use Rattle.journal.specs.declared.entries.Why.TheVariants as why
use Rattle.journal.specs.declared.entries.Why.{Why}
use Rattle.journal.specs.declared.events.Event.TheVariants as events
use Rattle.mr_base.specs.Timestamps.{IsBelow}
use Rattle.mr_base.specs.declared.ids.AttemptId.{AttemptId}
use Rattle.mr_base.specs.declared.ids.MsgId.{MsgId}
use Rattle.mr_base.specs.declared.ids.TxnId.{TxnId}
use Rattle.mr_base.specs.declared.messages.Request.TheVariants as requests
use Rattle.mr_base.specs.declared.messages.Request.{Request}
use Rattle.mr_base.specs.declared.timestamps.Ts.{Ts}
use Rattle.run_laws.specs.Lines.{IsLeaseRefused, IsNotKept, IsShownLease, IsShownNode, IsShownRange}
use Rattle.run_laws.specs.NoQuorum.{HasNoQuorum}
use Rattle.run_laws.specs.NoServer.{HasNoServer}
use Rattle.run_laws.specs.Retries.{HasConflict, HasNoRetry, IsRetryCaused, WasAborted}
use Rattle.run_words.specs.Attempts.{Attempt, attempt_of}
use Rattle.run_words.specs.Clocks.{schema}
use Rattle.run_words.specs.Happened.{Always}
use Rattle.run_words.specs.History.{History, Item, Made}
use Rattle.run_words.specs.Messages.{Mail, flight, mail}
use Rattle.run_words.specs.Requests.{awaited}
use Rattle.run_words.specs.Setup.{Setup}
use Rattle.run_words.specs.Steps.{event_of}
use Rattle.run_words.specs.Transactions.{last_attempt}

-- Caused: each refusal and each retry is shown by its cause, and each line says what is so. (This project's profile.)

-- A transaction reads below the last schema change.
abbrev pub ReadsBelowSchema : Setup → History → TxnId → Ts → Type 0
ReadsBelowSchema setup h t ts =
    (schema setup h ≡ Some ts)
    × (a : AttemptId) × (attempt : Attempt) × (last_attempt h t ≡ Some a) × (attempt_of h a ≡ Some attempt) × IsBelow attempt.read_at ts

-- The request that a transaction awaits is its own commit.
abbrev pub IsCommitRequest : Request → Type 0
IsCommitRequest (requests.Commit a j at) = ⊤
IsCommitRequest _ = ⊥

abbrev pub AwaitsCommit : History → MsgId → Type 0
AwaitsCommit h m = (sent : Mail) × (q : Request) × (mail h m ≡ Some sent) × (sent.body ≡ shown.Request q) × IsCommitRequest q

-- Why a transaction is refused. Reads at bounded staleness aren't built.
abbrev pub IsRefusalCaused : Setup → History → TxnId → Why → Type 0
IsRefusalCaused setup h t (why.Conflict other) = HasConflict setup h t other
IsRefusalCaused setup h t (why.Aborted by) = WasAborted h t by
IsRefusalCaused setup h t why.Retries = HasNoRetry setup h t
IsRefusalCaused setup h t (why.NoLease j) = HasNoServer setup h t j
IsRefusalCaused setup h t (why.NoQuorum j down) = HasNoQuorum setup h t j down
IsRefusalCaused setup h t (why.Schema ts) = ReadsBelowSchema setup h t ts
IsRefusalCaused setup h t (why.Ambiguous m) = (event_of h ≡ Some (events.Timeout t)) × (awaited h t ≡ Some m) × AwaitsCommit h m
IsRefusalCaused setup h t (why.Timeout m) = (event_of h ≡ Some (events.Timeout t)) × (awaited h t ≡ Some m) × (¬ AwaitsCommit h m)
IsRefusalCaused setup h t (why.Stale j) = ⊥

abbrev pub Caused : Setup → Item → History → Type 0
Caused setup (Made (entry.Refuse t w)) h = IsRefusalCaused setup h t w
Caused setup (Made (entry.Retry t a cause)) h = IsRetryCaused setup h t cause
Caused setup (Made (entry.Lease j seq holder expiration)) h = IsShownLease setup h j seq holder expiration
Caused setup (Made (entry.LeaseRefused j w)) h = IsLeaseRefused setup h j w (event_of h)
Caused setup (Made (entry.CloseRefused j w)) h = IsNotKept setup h j w
Caused setup (Made (entry.ShowRange j seq holder expiration closed count)) h = IsShownRange setup h j seq holder expiration closed count
Caused setup (Made (entry.ShowNode n clock running at)) h = IsShownNode setup h n clock running at
Caused setup (Made (entry.ShowFlight ms)) h = ms ≡ flight h
Caused setup _ h = ⊤

abbrev pub IsCaused : Setup → History → Type 0
IsCaused setup h = Always (Caused setup) h
