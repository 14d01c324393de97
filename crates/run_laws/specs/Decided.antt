use Rattle.std.specs.List.{Contains, filter}
use Rattle.std.specs.Prelude.{AllPairs, Err, List, Ok, Some, [], ◌↔◌, ◌∷◌, ◌≡◌}
use Rattle.journal.specs.declared.entries.JournalEntry.TheVariants as entry
use Rattle.mr_base.specs.Timestamps.{IsBelow, ts_lt}
use Rattle.mr_base.specs.declared.ids.AttemptId.{AttemptId}
use Rattle.mr_base.specs.declared.ids.TxnId.{TxnId}
use Rattle.mr_base.specs.declared.timestamps.Ts.{Ts}
use Rattle.range_log.specs.declared.entries.Entry.TheVariants as log
use Rattle.range_log.specs.declared.entries.TxnState.TheVariants as states
use Rattle.row_locality.specs.Plain.{PlainDatabase}
use Rattle.run_laws.specs.DeterminedAnswers.{Executed}
use Rattle.run_laws.specs.Lists.{IsSettingOf}
use Rattle.run_words.specs.Askers.{txn_of}
use Rattle.run_words.specs.Happened.{Happened}
use Rattle.run_words.specs.History.{History, Item, Made}
use Rattle.run_words.specs.Puts.{puts}
use Rattle.run_words.specs.Setup.{Setup}
use Rattle.run_words.specs.Transactions.{last_attempt}
use Rattle.sql_eval.specs.Evaluation.{Setting}
use Rattle.sql_eval.specs.Execution.{exec}

-- Which transactions are decided, and the replay of them on one site. (This project's profile.)

-- A decided transaction: its timestamp, and its list in its setting.
pub record Decided : Type 0 where
  pub txn : TxnId
  pub ts : Ts
  pub setting : Setting

-- The last attempt of a transaction has put nothing.
abbrev pub HasNoPut : History → TxnId → Type 0
HasNoPut h t = (a : AttemptId) × (last_attempt h t ≡ Some a) × (puts h a ≡ [])

-- An item decides a transaction: the commit of an attempt, whether or not it is answered so; an acknowledgement of an
-- attempt without puts; or a fault.
abbrev pub Decides : Setup → Decided → Item → History → Type 0
Decides setup d (Made (entry.Append j index (log.State a (states.Committed c)))) h =
    (txn_of h a ≡ Some d.txn) × (d.ts ≡ c) × IsSettingOf setup h d.txn d.setting
Decides setup d (Made (entry.Ack t ts results)) h = (d.txn ≡ t) × (d.ts ≡ ts) × IsSettingOf setup h t d.setting × HasNoPut h t
Decides setup d (Made (entry.Fault t ts state)) h = (d.txn ≡ t) × (d.ts ≡ ts) × IsSettingOf setup h t d.setting
Decides setup d _ h = ⊥

-- A transaction was decided so.
abbrev pub WasDecided : Setup → Decided → History → Type 0
WasDecided setup d h = Happened (Decides setup d) h

-- The decided transactions, in the order of their timestamps, the latest first.
pub record AreDecided (setup : Setup) (h : History) (ds : List Decided) : Type 0 where
  pub latest_first : AllPairs (λ later earlier. IsBelow earlier.ts later.ts) ds
  pub are : (d : Decided) → Contains ds d ↔ WasDecided setup d h

-- Those below a timestamp.
abbrev pub those_below : Ts → List Decided → List Decided
those_below ts ds = filter (λ d. ts_lt d.ts ts) ds

-- The database after a list: a fault undoes it.
abbrev pub after_list : Executed → PlainDatabase → PlainDatabase
after_list (Ok x) d = x.1
after_list (Err state) d = d

-- A list is executed on a database.
abbrev pub executed_on : Setting → PlainDatabase → Executed
executed_on s d = exec s.layout.catalog s.region s.list d

-- The replay of decided transactions on one site, one after the other, the earliest first, from the rows with which
-- the ranges begin.
unfoldable pub replay : PlainDatabase → List Decided → PlainDatabase
replay rows [] = rows
replay rows (d ∷ earlier) = after_list (executed_on d.setting (replay rows earlier)) (replay rows earlier)

-- The replay of those below a timestamp.
abbrev pub replay_below : Setup → List Decided → Ts → PlainDatabase
replay_below setup ds ts = replay setup.rows (those_below ts ds)
