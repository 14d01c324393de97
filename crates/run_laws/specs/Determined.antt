use Rattle.std.specs.Prelude.{List, None, Some, [], true, ⊤, ◌≡◌, ◌≢◌, ◌⊎◌}
use Rattle.journal.specs.declared.entries.JournalEntry.TheVariants as entry
use Rattle.journal.specs.declared.entries.Why.TheVariants as why
use Rattle.journal.specs.declared.entries.Why.{Why}
use Rattle.mr_base.specs.declared.ids.AttemptId.{AttemptId}
use Rattle.mr_base.specs.declared.ids.TxnId.{TxnId}
use Rattle.mr_base.specs.declared.results.StatementResult.{StatementResult}
use Rattle.mr_base.specs.declared.states.SqlState.{SqlState}
use Rattle.mr_base.specs.declared.timestamps.Ts.{Ts}
use Rattle.range_log.specs.declared.entries.Entry.TheVariants as log
use Rattle.range_log.specs.declared.entries.TxnState.TheVariants as states
use Rattle.run_laws.specs.DeterminedAnswers.{GivesFault, GivesPuts, GivesResults, IsDetermined}
use Rattle.run_words.specs.Askers.{txn_of}
use Rattle.run_words.specs.Attempts.{Attempt, attempt_of}
use Rattle.run_words.specs.History.{History, Item, Made}
use Rattle.run_words.specs.Messages.{is_known}
use Rattle.run_words.specs.Puts.{CommitMade, commit, puts}
use Rattle.run_words.specs.Setup.{Setup}
use Rattle.run_words.specs.Transactions.{is_open, last_attempt}

-- Determined: each commit, each acknowledgement and each fault is what its list gives on every valid database that
-- agrees with what was served. (This project's profile.)

-- No attempt of a transaction is committed.
abbrev pub IsUncommitted : History → TxnId → Type 0
IsUncommitted h t = (a : AttemptId) → txn_of h a ≡ Some t → commit h a ≡ None

-- An acknowledgement stands at the commit of the answering attempt, of which the gateway knows, or at the read
-- timestamp of an attempt that put nothing.
abbrev pub IsAckAt : History → TxnId → AttemptId → Ts → Type 0
IsAckAt h t a ts =
    ((made : CommitMade) × (puts h a ≢ []) × (commit h a ≡ Some made) × (made.ts ≡ ts) × (is_known h made.via ≡ true))
    ⊎ ((puts h a ≡ []) × ((attempt : Attempt) × (attempt_of h a ≡ Some attempt) × (attempt.read_at ≡ ts)) × IsUncommitted h t)

pub record IsAcknowledged (setup : Setup) (h : History) (t : TxnId) (ts : Ts) (results : List StatementResult) : Type 0 where
  pub open_yet : is_open h t ≡ true
  pub attempt : AttemptId
  pub last : last_attempt h t ≡ Some attempt
  pub at : IsAckAt h t attempt ts
  pub answer : IsDetermined setup h attempt ts (GivesResults setup h attempt results)

pub record IsFaulted (setup : Setup) (h : History) (t : TxnId) (ts : Ts) (state : SqlState) : Type 0 where
  pub open_yet : is_open h t ≡ true
  pub attempt : AttemptId
  pub last : last_attempt h t ≡ Some attempt
  pub at : (x : Attempt) × (attempt_of h attempt ≡ Some x) × (x.read_at ≡ ts)
  pub uncommitted : IsUncommitted h t
  pub answer : IsDetermined setup h attempt ts (GivesFault state)

-- Where the commit was sent and not answered in time nobody knows whether it stands; else a refused transaction isn't
-- committed.
abbrev pub IsRefusable : History → TxnId → Why → Type 0
IsRefusable h t (why.Ambiguous m) = is_open h t ≡ true
IsRefusable h t w = (is_open h t ≡ true) × IsUncommitted h t

abbrev pub Determined : Setup → History → Item → Type 0
Determined setup h (Made (entry.Append j index (log.State a (states.Committed c)))) = IsDetermined setup h a c (GivesPuts setup h a)
Determined setup h (Made (entry.Ack t ts results)) = IsAcknowledged setup h t ts results
Determined setup h (Made (entry.Fault t ts state)) = IsFaulted setup h t ts state
Determined setup h (Made (entry.Refuse t w)) = IsRefusable h t w
Determined setup h (Made (entry.Retry t a cause)) = (is_open h t ≡ true) × IsUncommitted h t
Determined setup h _ = ⊤
