use Rattle.std.specs.Prelude.{List, [], Some, ℕ, ⊤, ◌≡◌, ◌≢◌, ◌⊎◌}
use Rattle.journal.specs.declared.entries.JournalEntry.TheVariants as entry
use Rattle.mr_base.specs.declared.ids.AttemptId.{AttemptId}
use Rattle.mr_base.specs.declared.ids.RangeId.{RangeId}
use Rattle.mr_base.specs.declared.ids.TxnId.{TxnId}
use Rattle.mr_base.specs.declared.messages.Fate.{Fate}
use Rattle.mr_base.specs.declared.messages.Request.TheVariants as requests
use Rattle.mr_base.specs.declared.messages.Request.{Request}
use Rattle.mr_base.specs.declared.timestamps.Ts.{Ts}
use Rattle.range_log.specs.declared.entries.Entry.TheVariants as log
use Rattle.range_log.specs.declared.entries.TxnState.TheVariants as states
use Rattle.range_log.specs.declared.entries.TxnState.{TxnState}
use Rattle.range_rules.specs.Records.{Goes, IsCommitted, IsGivenUp}
use Rattle.range_rules.specs.Resolves.{HasIntentOf, Repeats}
use Rattle.run_laws.specs.Lists.{IsAnchor}
use Rattle.run_laws.specs.Places.{IsHandling}
use Rattle.run_laws.specs.Pushes.{IsAbortByOther, IsPushByReader, IsPushByWriter}
use Rattle.run_words.specs.Askers.{txn_of}
use Rattle.run_words.specs.Attempts.{Attempt, attempt_of, greatest_put}
use Rattle.run_words.specs.Happened.{Happened}
use Rattle.run_words.specs.History.{History, Item, Made}
use Rattle.run_words.specs.Logs.{log_of}
use Rattle.run_words.specs.Puts.{puts, record_of}
use Rattle.run_words.specs.Relations.{Stood}
use Rattle.run_words.specs.Setup.{Setup}
use Rattle.run_words.specs.Transactions.{last_attempt}

-- Records: how the record of an attempt changes, what is learned of it, and how its intents are resolved. An attempt
-- has one record, in whatever range its entries stand. (Transaction records and pushes: Taft et al., SIGMOD 2020; who
-- aborts whom is this project's profile.)

abbrev pub IsAnswer : TxnId → Item → History → Type 0
IsAnswer t (Made (entry.Ack u ts results)) h = u ≡ t
IsAnswer t (Made (entry.Fault u ts state)) h = u ≡ t
IsAnswer t _ h = ⊥

-- A transaction was acknowledged, or had a fault.
abbrev pub WasAnswered : TxnId → History → Type 0
WasAnswered t h = Happened (IsAnswer t) h

abbrev pub IsForCommit : AttemptId → RangeId → Ts → Request → Type 0
IsForCommit a j c (requests.Commit b r at) = (b ≡ a) × (r ≡ j) × (at ≡ c)
IsForCommit a j c _ = ⊥

-- An attempt commits, as it asked: it has put something, and is the last of its transaction, which has no answer yet; at
-- the greatest of its read timestamp and its puts; and above all that it was pending above.
pub record IsCommit (setup : Setup) (h : History) (a : AttemptId) (j : RangeId) (c : Ts) : Type 0 where
  pub place : IsHandling h a (IsForCommit a j c)
  pub attempt : Attempt
  pub is_attempt : attempt_of h a ≡ Some attempt
  pub last : last_attempt h attempt.txn ≡ Some a
  pub unanswered : ¬ WasAnswered attempt.txn h
  pub has_put : puts h a ≢ []
  pub at_is : c ≡ greatest_put h a attempt.read_at
  pub changes : IsCommitted (record_of h a) c (states.Committed c)

abbrev pub IsForAbort : AttemptId → RangeId → Request → Type 0
IsForAbort a j (requests.Abort b r) = (b ≡ a) × (r ≡ j)
IsForAbort a j _ = ⊥

-- An attempt's own abort is handled.
abbrev pub IsOwnAbort : History → AttemptId → RangeId → AttemptId → Type 0
IsOwnAbort h a j x = (x ≡ a) × IsHandling h a (IsForAbort a j) × IsGivenUp a (record_of h a) (states.Aborted a)

abbrev pub IsState : Setup → History → AttemptId → RangeId → TxnState → Type 0
IsState setup h a j (states.Committed c) = IsCommit setup h a j c
IsState setup h a j (states.Aborted x) = IsOwnAbort h a j x ⊎ IsAbortByOther setup h a j x
IsState setup h a j (states.Pending y) = IsPushByReader setup h a j y ⊎ IsPushByWriter setup h a j y

-- A record changes at its anchor, and never once it is decided.
pub record IsRecord (setup : Setup) (h : History) (a : AttemptId) (j : RangeId) (state : TxnState) : Type 0 where
  pub anchor : IsAnchor setup h a j
  pub goes : Goes (record_of h a) state
  pub by : IsState setup h a j state

-- A transaction learns what the record of an attempt said, some time since it began.
pub record IsFate (h : History) (a b : AttemptId) (fate : Fate) : Type 0 where
  pub txn : TxnId
  pub is_txn : txn_of h a ≡ Some txn
  pub stood : Stood txn b fate h

-- A resolve repeats the decided record of its attempt, whose intent stands there.
pub record IsResolved (setup : Setup) (h : History) (j : RangeId) (a : AttemptId) (key : List ℕ) (fate : Fate) : Type 0 where
  pub repeats : Repeats (record_of h a) fate
  pub intent : HasIntentOf a key (log_of setup h j)

abbrev pub Records : Setup → History → Item → Type 0
Records setup h (Made (entry.Append j index (log.State a state))) = IsRecord setup h a j state
Records setup h (Made (entry.Append j index (log.Resolve a key fate))) = IsResolved setup h j a key fate
Records setup h (Made (entry.Fated a b fate)) = IsFate h a b fate
Records setup h _ = ⊤
