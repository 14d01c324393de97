use Rattle.std.proofs.Common.{◌≡◌, ◌≤◌, List, ◌∷◌, refl, sym, ap, ◌∙◌, subst}
use Rattle.std.specs.Prelude.{Ok, Err, true}
use Rattle.answer_laws.proofs.Members.{Has, filter_has, has_filter, has_itself}
use Rattle.answer_laws.proofs.Pairwise.{each_two, two_filter}
use Rattle.held_reads.specs.KeepsReads.{KeepsReads}
use Rattle.held_reads.specs.Laws.{FedReadsAgree}
use Rattle.journal.specs.declared.entries.JournalEntry.TheVariants as entry
use Rattle.mr_base.specs.Timestamps.{IsBelow, ts_lt}
use Rattle.mr_base.specs.declared.ids.AttemptId.{AttemptId}
use Rattle.mr_base.specs.declared.ids.TxnId.{TxnId}
use Rattle.mr_base.specs.declared.results.StatementResult.{StatementResult}
use Rattle.mr_base.specs.declared.states.SqlState.{SqlState}
use Rattle.mr_base.specs.declared.timestamps.Ts.{Ts}
use Rattle.row_locality.specs.Plain.{IsValid, PlainDatabase}
use Rattle.run_laws.proofs.LawfulLemmas.{happened_so}
use Rattle.run_laws.specs.Beginnings.{IsSoundSetup}
use Rattle.run_laws.specs.Decided.{AreDecided, Decided, WasDecided, executed_on, replay_below, those_below}
use Rattle.run_laws.specs.Determined.{IsAcknowledged, IsFaulted}
use Rattle.run_laws.specs.DeterminedAnswers.{Executed, GivesFault, GivesResults, IsDetermined}
use Rattle.run_laws.specs.Lawful.{IsLawful, IsPermitted}
use Rattle.run_laws.specs.Lists.{IsSettingOf}
use Rattle.run_laws.specs.Serial.{Answers, HasFaulted, IsAckOf, IsFaultOf, IsInPart, IsSerial, WasAcknowledged}
use Rattle.run_words.specs.Happened.{IsPlace}
use Rattle.run_words.specs.History.{History, Item, Made}
use Rattle.run_words.specs.Setup.{Setup}
use Rattle.sql_eval.specs.Evaluation.{Setting}
use Rattle.serial_runs.proofs.Committed.{commit_decides}
use Rattle.serial_runs.proofs.DecidedLists.{Falls, IsListed, are_decided, decided_once, listed}
use Rattle.serial_runs.proofs.Effects.{determined_on}
use Rattle.serial_runs.proofs.Heard.{contained}
use Rattle.serial_runs.proofs.LastAttempts.{last_of}
use Rattle.serial_runs.proofs.Owners.{ack_owned, attempt_owned}
use Rattle.serial_runs.proofs.Places.{older_of}
use Rattle.serial_runs.proofs.Replays.{Covers, IsReplayed, heard_agrees, held_below, replayed}
use Rattle.serial_runs.proofs.Settings.{one_setting, setting_stays}
use Rattle.serial_runs.proofs.Steps.{HoldsBelow}
use Rattle.serial_runs.proofs.TsOrder.{below_trans, test_below, tested_below}

answers_by : (setup : Setup) (h : History) (a : AttemptId) (results : List StatementResult) (D : PlainDatabase) (r : Executed) → GivesResults setup h a results D r → Answers results r
answers_by setup h a results D (Ok x) g = g.0
answers_by setup h a results D (Err state) g = absurd g

module _ (setup : Setup) (sound : IsSoundSetup setup) (h : History) (lawful : IsLawful setup h) (keeps : KeepsReads setup h) (feds : FedReadsAgree) (ds : List Decided) (are : AreDecided setup h ds) where
  below_in : (ts : Ts) (e : Decided) → Has e (those_below ts ds) → Has e ds × IsBelow e.ts ts
  below_in ts e k =
      let f : Has e ds × (ts_lt e.ts ts ≡ true) = filter_has (λ (d : Decided). ts_lt d.ts ts) ds e k in
      (f.0, tested_below e.ts ts f.1)

  covers : (ts : Ts) → Covers h (those_below ts ds) ts
  covers ts a made m l =
      let d : (e : Decided) × WasDecided setup e h × (e.ts ≡ made.ts) = commit_decides setup h lawful a made m in
      let there : Has d.0 ds = has_itself d.0 ds ((are.are d.0).1 d.1) in
      (d.0, has_filter (λ (e : Decided). ts_lt e.ts ts) ds d.0 there (test_below d.0.ts ts (subst (λ (t : Ts). IsBelow t ts) (sym d.2) l)), d.2)

  pub replayed_below : (ts : Ts) → IsReplayed setup h (those_below ts ds)
  replayed_below ts =
      replayed setup sound h lawful keeps feds (those_below ts ds)
      (two_filter Falls (λ (d : Decided). ts_lt d.ts ts) ds (each_two Falls ds are.latest_first))
      (λ e k. (are.are e).0 (contained e ds (below_in ts e k).0))
      (λ e k a made m l. covers ts a made m (below_trans made.ts e.ts ts l (below_in ts e k).1))

  pub valid_below : (ts : Ts) → IsValid setup.layout.catalog (replay_below setup ds ts)
  valid_below ts = (replayed_below ts).valid

  pub holds_below : (ts : Ts) → IsInPart setup ts → HoldsBelow setup h (replay_below setup ds ts) ts
  holds_below ts part = (replayed_below ts).holds ts part (λ e k. (below_in ts e k).1) (covers ts)

  -- what is determined of a list is so of executing it on the replay
  on_replay : (older : History) (a : AttemptId) (ts : Ts) (P : PlainDatabase → Executed → Type 0) → (det : IsDetermined setup older a ts P) → IsPlace older h → ts.owner ≡ a.0 → 1 ≤ a.0
      → (t : TxnId) (s : Setting) → det.attempt.txn ≡ t → IsSettingOf setup h t s → P (replay_below setup ds ts) (executed_on s (replay_below setup ds ts))
  on_replay older a ts P det p o pos t s of_it is =
      let stays : IsSettingOf setup h t det.setting =
      setting_stays setup h older t det.setting lawful p (subst (λ (u : TxnId). IsSettingOf setup older u det.setting) of_it det.is_setting) in
      subst (λ (z : Setting). P (replay_below setup ds ts) (executed_on z (replay_below setup ds ts))) (one_setting setup h t det.setting s stays is)
      (determined_on setup older a ts P det det.attempt.txn det.setting det.is_setting refl (replay_below setup ds ts) (valid_below ts)
      (heard_agrees setup sound h lawful keeps feds (replay_below setup ds ts) older a ts p o pos (holds_below ts) det.fed det.fed_is))

  acknowledged : (g : History) → IsPlace g h → IsLawful setup g → (t : TxnId) (ts : Ts) (results : List StatementResult) (s : Setting) → IsAcknowledged setup g t ts results → IsSettingOf setup h t s
      → Answers results (executed_on s (replay_below setup ds ts))
  acknowledged g p l t ts results s ack is =
      answers_by setup g ack.attempt results (replay_below setup ds ts) (executed_on s (replay_below setup ds ts))
      (on_replay g ack.attempt ts (GivesResults setup g ack.attempt results) ack.answer p (ack_owned setup g l t ack.attempt ts ack.at)
      (attempt_owned setup g l ack.attempt ack.answer.attempt ack.answer.is_attempt).positive t s
      ((last_of setup g l t ack.attempt ack.last).of_it ack.answer.attempt ack.answer.is_attempt) is)

  faulted : (g : History) → IsPlace g h → IsLawful setup g → (t : TxnId) (ts : Ts) (state : SqlState) (s : Setting) → IsFaulted setup g t ts state → IsSettingOf setup h t s
      → executed_on s (replay_below setup ds ts) ≡ Err state
  faulted g p l t ts state s f is =
      on_replay g f.attempt ts (GivesFault state) f.answer p
      (sym (ap (λ (u : Ts). u.owner) f.at.2) ∙ (attempt_owned setup g l f.attempt f.at.0 f.at.1).owned)
      (attempt_owned setup g l f.attempt f.at.0 f.at.1).positive t s
      ((last_of setup g l t f.attempt f.last).of_it f.answer.attempt f.answer.is_attempt) is

  ack_at : (t : TxnId) (ts : Ts) (results : List StatementResult) (s : Setting) (x : Item) (g : History) → IsAckOf t ts results x g → IsPermitted setup g x → IsLawful setup g
      → IsPlace g h → IsSettingOf setup h t s → Answers results (executed_on s (replay_below setup ds ts))
  ack_at t ts results s (Made (entry.Ack u at rs)) g e p l place is =
      acknowledged g place l t ts results s
      (subst (λ (v : TxnId). IsAcknowledged setup g v ts results) e.0
      (subst (λ (v : Ts). IsAcknowledged setup g u v results) e.1 (subst (λ (v : List StatementResult). IsAcknowledged setup g u at v) e.2 p.determined))) is
  ack_at t ts results s x g e p l place is = absurd e

  fault_at : (t : TxnId) (ts : Ts) (state : SqlState) (s : Setting) (x : Item) (g : History) → IsFaultOf t ts state x g → IsPermitted setup g x → IsLawful setup g
      → IsPlace g h → IsSettingOf setup h t s → executed_on s (replay_below setup ds ts) ≡ Err state
  fault_at t ts state s (Made (entry.Fault u at st)) g e p l place is =
      faulted g place l t ts state s
      (subst (λ (v : TxnId). IsFaulted setup g v ts state) e.0
      (subst (λ (v : Ts). IsFaulted setup g u v state) e.1 (subst (λ (v : SqlState). IsFaulted setup g u at v) e.2 p.determined))) is
  fault_at t ts state s x g e p l place is = absurd e

  -- each acknowledgement has the rows of the replay ..
  pub answers_replay : (t : TxnId) (ts : Ts) (results : List StatementResult) (s : Setting) → WasAcknowledged t ts results h → IsSettingOf setup h t s
      → Answers results (executed_on s (replay_below setup ds ts))
  answers_replay t ts results s w is =
      let f : (x : Item) × (g : History) × IsPlace (x ∷ g) h × IsAckOf t ts results x g × IsPermitted setup g x × IsLawful setup g = happened_so setup h (IsAckOf t ts results) lawful w in
      ack_at t ts results s f.0 f.1 f.3 f.4 f.5 (older_of f.0 f.1 h f.2) is

  -- .. and each fault is its fault
  pub faults_replay : (t : TxnId) (ts : Ts) (state : SqlState) (s : Setting) → HasFaulted t ts state h → IsSettingOf setup h t s
      → executed_on s (replay_below setup ds ts) ≡ Err state
  faults_replay t ts state s w is =
      let f : (x : Item) × (g : History) × IsPlace (x ∷ g) h × IsFaultOf t ts state x g × IsPermitted setup g x × IsLawful setup g = happened_so setup h (IsFaultOf t ts state) lawful w in
      fault_at t ts state s f.0 f.1 f.3 f.4 f.5 (older_of f.0 f.1 h f.2) is

-- a lawful history is serial
pub serial : (setup : Setup) (h : History) → IsSoundSetup setup → IsLawful setup h → KeepsReads setup h → FedReadsAgree → IsSerial setup h
serial setup h sound lawful keeps feds =
    let all : IsListed setup h = listed setup h lawful in
    let are : AreDecided setup h all.decided = are_decided setup h all in
    record {
      decided = all.decided;
      are = are;
      once = decided_once setup h lawful all;
      answers = answers_replay setup sound h lawful keeps feds all.decided are;
      faults = faults_replay setup sound h lawful keeps feds all.decided are;
      valid = valid_below setup sound h lawful keeps feds all.decided are;
      held = λ ts j key value part live.
          held_below setup sound h lawful keeps feds (replay_below setup all.decided ts) ts (holds_below setup sound h lawful keeps feds all.decided are ts part) j live key value;
    }
