use Rattle.std.proofs.Common.{◌≡◌, ℕ, ◌≤◌, List, [], ◌∷◌, map, inl, inr, sym, ap, ◌∙◌, subst}
use Rattle.std.specs.Prelude.{◌⊎◌, true, Some}
use Rattle.journal.specs.declared.entries.JournalEntry.TheVariants as entry
use Rattle.mr_base.specs.declared.ids.AttemptId.{AttemptId}
use Rattle.mr_base.specs.declared.ids.RangeId.{RangeId}
use Rattle.mr_base.specs.declared.ids.TxnId.{TxnId}
use Rattle.mr_base.specs.declared.results.StatementResult.{StatementResult}
use Rattle.mr_base.specs.declared.states.SqlState.{SqlState}
use Rattle.mr_base.specs.declared.timestamps.Ts.{Ts}
use Rattle.range_log.specs.declared.entries.Entry.TheVariants as log
use Rattle.range_log.specs.declared.entries.TxnState.TheVariants as states
use Rattle.range_rules.specs.Records.{Goes}
use Rattle.run_laws.specs.Decided.{Decided, Decides, HasNoPut}
use Rattle.run_laws.specs.Determined.{IsAckAt, IsAcknowledged, IsFaulted, IsUncommitted}
use Rattle.run_laws.specs.DeterminedAnswers.{GivesFault, GivesPuts, GivesResults, IsDetermined, write_of}
use Rattle.run_laws.specs.Lawful.{IsLawful, IsPermitted}
use Rattle.run_laws.specs.Lists.{IsSettingOf}
use Rattle.run_laws.specs.Records.{IsCommit, WasAnswered}
use Rattle.run_words.specs.Askers.{txn_of}
use Rattle.run_words.specs.Attempts.{Attempt, attempt_of}
use Rattle.run_words.specs.History.{History, Item, Made}
use Rattle.run_words.specs.Puts.{puts, record_of}
use Rattle.run_words.specs.Setup.{Setup}
use Rattle.run_words.specs.Transactions.{is_open, last_attempt}
use Rattle.serial_runs.proofs.Effects.{IsEffect, answer_effect, commit_effect, fault_effect, txn_known, txn_same}
use Rattle.serial_runs.proofs.LastAttempts.{last_of}
use Rattle.serial_runs.proofs.Numbers.{some_same}
use Rattle.serial_runs.proofs.Owners.{attempt_owned, greatest_owned}

-- an item decides a transaction by the commit of an attempt
pub record IsByCommit (setup : Setup) (x : Item) (h : History) (d : Decided) (a : AttemptId) : Type 0 where
  pub range : RangeId
  pub index : ℕ
  pub is : x ≡ Made (entry.Append range index (log.State a (states.Committed d.ts)))
  pub goes : Goes (record_of h a) (states.Committed d.ts)
  pub unanswered : ¬ WasAnswered d.txn h
  pub effect : IsEffect setup h d a (map write_of (puts h a))

-- or by an answer of one that put nothing
pub record IsByAnswer (setup : Setup) (x : Item) (h : History) (d : Decided) (a : AttemptId) : Type 0 where
  pub answered : WasAnswered d.txn (x ∷ h)
  pub uncommitted : IsUncommitted h d.txn
  pub open_yet : is_open h d.txn ≡ true
  pub effect : IsEffect setup h d a []

-- an item decides a transaction by an attempt, its last, which owns the timestamp
pub record IsDecision (setup : Setup) (x : Item) (h : History) (d : Decided) (a : AttemptId) : Type 0 where
  pub of_txn : txn_of h a ≡ Some d.txn
  pub last : last_attempt h d.txn ≡ Some a
  pub owned : d.ts.owner ≡ a.0
  pub positive : 1 ≤ a.0
  pub setting : IsSettingOf setup h d.txn d.setting
  pub how : IsByCommit setup x h d a ⊎ IsByAnswer setup x h d a

module _ (setup : Setup) (h : History) (lawful : IsLawful setup h) (d : Decided) where
  by_commit : (a : AttemptId) (j : RangeId) (index : ℕ) (c : Ts) → IsPermitted setup h (Made (entry.Append j index (log.State a (states.Committed c))))
      → txn_of h a ≡ Some d.txn → d.ts ≡ c → IsSettingOf setup h d.txn d.setting → IsDecision setup (Made (entry.Append j index (log.State a (states.Committed c)))) h d a
  by_commit a j index c p of_it at is =
      let by : IsCommit setup h a j c = p.records.by in
      let same : by.attempt.txn ≡ d.txn = txn_same h a by.attempt d.txn by.is_attempt of_it in
      record {
        of_txn = of_it;
        last = subst (λ (t : TxnId). last_attempt h t ≡ Some a) same by.last;
        owned = ap (λ (t : Ts). t.owner) (at ∙ by.at_is) ∙ greatest_owned setup h lawful a by.attempt by.is_attempt;
        positive = (attempt_owned setup h lawful a by.attempt by.is_attempt).positive;
        setting = is;
        how = inl (record {
          range = j;
          index = index;
          is = ap (λ (t : Ts). Made (entry.Append j index (log.State a (states.Committed t)))) (sym at);
          goes = subst (λ (t : Ts). Goes (record_of h a) (states.Committed t)) (sym at) p.records.goes;
          unanswered = subst (λ (t : TxnId). ¬ WasAnswered t h) same by.unanswered;
          effect = commit_effect setup h a d is of_it (subst (λ (t : Ts). IsDetermined setup h a t (GivesPuts setup h a)) (sym at) p.determined);
        });
      }

  -- what is known of an answering attempt
  answering : (a : AttemptId) (t : TxnId) (x : Attempt) → last_attempt h t ≡ Some a → attempt_of h a ≡ Some x → d.txn ≡ t → txn_of h a ≡ Some d.txn
  answering a t x e f g =
      txn_known h a x f ∙ ap (λ (u : TxnId). Some u) ((last_of setup h lawful t a e).of_it x f ∙ sym g)

  no_put : (a : AttemptId) (t : TxnId) → last_attempt h t ≡ Some a → HasNoPut h t → puts h a ≡ []
  no_put a t e n = subst (λ (b : AttemptId). puts h b ≡ []) (some_same (sym n.1 ∙ e)) n.2

  unput : (t : TxnId) (a : AttemptId) (ts : Ts) → puts h a ≡ [] → IsAckAt h t a ts
      → ((attempt : Attempt) × (attempt_of h a ≡ Some attempt) × (attempt.read_at ≡ ts)) × IsUncommitted h t
  unput t a ts none (inl at) = absurd (at.1 none)
  unput t a ts none (inr at) = (at.1, at.2)

  by_ack : (t : TxnId) (ts : Ts) (results : List StatementResult) → IsAcknowledged setup h t ts results → d.txn ≡ t → d.ts ≡ ts → IsSettingOf setup h t d.setting → HasNoPut h t
      → (a : AttemptId) × IsDecision setup (Made (entry.Ack t ts results)) h d a
  by_ack t ts results p same at is unput_yet =
      let a : AttemptId = p.attempt in
      let none : puts h a ≡ [] = no_put a t p.last unput_yet in
      let read : ((attempt : Attempt) × (attempt_of h a ≡ Some attempt) × (attempt.read_at ≡ ts)) × IsUncommitted h t = unput t a ts none p.at in
      let of_it : txn_of h a ≡ Some d.txn = answering a t p.answer.attempt p.last p.answer.is_attempt same in
      let set : IsSettingOf setup h d.txn d.setting = subst (λ (u : TxnId). IsSettingOf setup h u d.setting) (sym same) is in (
        a,
        record {
          of_txn = of_it;
          last = subst (λ (u : TxnId). last_attempt h u ≡ Some a) (sym same) p.last;
          owned = ap (λ (u : Ts). u.owner) (at ∙ sym read.0.2) ∙ (attempt_owned setup h lawful a read.0.0 read.0.1).owned;
          positive = (attempt_owned setup h lawful a read.0.0 read.0.1).positive;
          setting = set;
          how = inr (record {
            answered = inl (sym same);
            uncommitted = subst (λ (u : TxnId). IsUncommitted h u) (sym same) read.1;
            open_yet = subst (λ (u : TxnId). is_open h u ≡ true) (sym same) p.open_yet;
            effect = answer_effect setup h a d set of_it results none (subst (λ (u : Ts). IsDetermined setup h a u (GivesResults setup h a results)) (sym at) p.answer);
          });
        },
      )

  by_fault : (t : TxnId) (ts : Ts) (state : SqlState) → IsFaulted setup h t ts state → d.txn ≡ t → d.ts ≡ ts → IsSettingOf setup h t d.setting
      → (a : AttemptId) × IsDecision setup (Made (entry.Fault t ts state)) h d a
  by_fault t ts state p same at is =
      let a : AttemptId = p.attempt in
      let of_it : txn_of h a ≡ Some d.txn = answering a t p.answer.attempt p.last p.answer.is_attempt same in
      let set : IsSettingOf setup h d.txn d.setting = subst (λ (u : TxnId). IsSettingOf setup h u d.setting) (sym same) is in (
        a,
        record {
          of_txn = of_it;
          last = subst (λ (u : TxnId). last_attempt h u ≡ Some a) (sym same) p.last;
          owned = ap (λ (u : Ts). u.owner) (at ∙ sym p.at.2) ∙ (attempt_owned setup h lawful a p.at.0 p.at.1).owned;
          positive = (attempt_owned setup h lawful a p.at.0 p.at.1).positive;
          setting = set;
          how = inr (record {
            answered = inl (sym same);
            uncommitted = subst (λ (u : TxnId). IsUncommitted h u) (sym same) p.uncommitted;
            open_yet = subst (λ (u : TxnId). is_open h u ≡ true) (sym same) p.open_yet;
            effect = fault_effect setup h a d set of_it state (subst (λ (u : Ts). IsDetermined setup h a u (GivesFault state)) (sym at) p.answer);
          });
        },
      )

-- what decides a transaction is such
pub deciding : (setup : Setup) (x : Item) (h : History) (d : Decided) → IsPermitted setup h x → IsLawful setup h → Decides setup d x h
    → (a : AttemptId) × IsDecision setup x h d a
deciding setup (Made (entry.Append j index (log.State a (states.Committed c)))) h d p l dd = (a, by_commit setup h l d a j index c p dd.0 dd.1 dd.2)
deciding setup (Made (entry.Ack t ts results)) h d p l dd = by_ack setup h l d t ts results p.determined dd.0 dd.1 dd.2 dd.3
deciding setup (Made (entry.Fault t ts state)) h d p l dd = by_fault setup h l d t ts state p.determined dd.0 dd.1 dd.2
deciding setup x h d p l dd = absurd dd
