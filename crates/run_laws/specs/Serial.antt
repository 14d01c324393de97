use Rattle.std.specs.List.{Contains}
use Rattle.std.specs.Prelude.{AllPairs, Err, IsSome, List, Ok, Some, ℕ, ◌↔◌, ◌≡◌, ◌≢◌}
use Rattle.journal.specs.declared.entries.JournalEntry.TheVariants as entry
use Rattle.mr_base.specs.Timestamps.{IsBelow}
use Rattle.mr_base.specs.declared.ids.RangeId.{RangeId}
use Rattle.mr_base.specs.declared.ids.TxnId.{TxnId}
use Rattle.mr_base.specs.declared.results.StatementResult.{StatementResult}
use Rattle.mr_base.specs.declared.states.SqlState.{SqlState}
use Rattle.mr_base.specs.declared.timestamps.Ts.{Ts}
use Rattle.row_locality.specs.Plain.{IsValid, range_pairs}
use Rattle.run_laws.specs.Decided.{AreDecided, Decided, executed_on, replay_below}
use Rattle.run_laws.specs.DeterminedAnswers.{Executed}
use Rattle.run_laws.specs.Held.{IsHeld}
use Rattle.run_laws.specs.Lists.{IsSettingOf}
use Rattle.run_words.specs.Happened.{Happened}
use Rattle.run_words.specs.History.{History, Item, Made}
use Rattle.run_words.specs.Ranges.{layout_of, range_of}
use Rattle.run_words.specs.Setup.{Setup}
use Rattle.sql_eval.specs.Evaluation.{Setting}

-- Serial: there is one order of the decided transactions, that of their timestamps, in which each has the answer of a
-- run on one site. (Serializability: Taft et al., SIGMOD 2020.)

-- A transaction was acknowledged with these results.
abbrev pub IsAckOf : TxnId → Ts → List StatementResult → Item → History → Type 0
IsAckOf t ts results (Made (entry.Ack u at rs)) h = (u ≡ t) × (at ≡ ts) × (rs ≡ results)
IsAckOf t ts results _ h = ⊥

abbrev pub WasAcknowledged : TxnId → Ts → List StatementResult → History → Type 0
WasAcknowledged t ts results h = Happened (IsAckOf t ts results) h

-- A transaction had this fault.
abbrev pub IsFaultOf : TxnId → Ts → SqlState → Item → History → Type 0
IsFaultOf t ts state (Made (entry.Fault u at s)) h = (u ≡ t) × (at ≡ ts) × (s ≡ state)
IsFaultOf t ts state _ h = ⊥

abbrev pub HasFaulted : TxnId → Ts → SqlState → History → Type 0
HasFaulted t ts state h = Happened (IsFaultOf t ts state) h

-- An execution answers with these results.
abbrev pub Answers : List StatementResult → Executed → Type 0
Answers results (Ok x) = x.0 ≡ results
Answers results (Err state) = ⊥

-- The timestamps of which a history speaks: all, or those above that of the rows with which its ranges begin.
abbrev pub IsInPart : Setup → Ts → Type 0
IsInPart setup ts = (changed : Ts) → setup.schema ≡ Some changed → IsBelow changed ts

-- Each acknowledged transaction has the rows, and each fault is the fault, of executing those below it one after the
-- other on one site. That replay is valid, and is what each range holds.
pub record IsSerial (setup : Setup) (h : History) : Type 0 where
  pub decided : List Decided
  pub are : AreDecided setup h decided
  pub once : AllPairs (λ d e. d.txn ≢ e.txn) decided
  pub answers : (t : TxnId) (ts : Ts) (results : List StatementResult) (s : Setting) → WasAcknowledged t ts results h → IsSettingOf setup h t s
      → Answers results (executed_on s (replay_below setup decided ts))
  pub faults : (t : TxnId) (ts : Ts) (state : SqlState) (s : Setting) → HasFaulted t ts state h → IsSettingOf setup h t s
      → executed_on s (replay_below setup decided ts) ≡ Err state
  pub valid : (ts : Ts) → IsValid (layout_of setup h).catalog (replay_below setup decided ts)
  pub held : (ts : Ts) (j : RangeId) (key value : List ℕ) → IsInPart setup ts → IsSome (range_of setup h j)
      → Contains (range_pairs (layout_of setup h) (replay_below setup decided ts) j) (key, value) ↔ IsHeld setup h j ts key value
