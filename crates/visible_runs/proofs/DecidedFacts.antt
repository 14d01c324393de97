use Rattle.std.proofs.Common.{◌≡◌, ◌∷◌, inl, inr, sym, ap, ◌∙◌, subst}
use Rattle.std.specs.Prelude.{Some}
use Rattle.journal.specs.declared.entries.JournalEntry.TheVariants as entry
use Rattle.mr_base.specs.Timestamps.{IsBelow}
use Rattle.mr_base.specs.declared.ids.AttemptId.{AttemptId}
use Rattle.mr_base.specs.declared.ids.TxnId.{TxnId}
use Rattle.mr_base.specs.declared.timestamps.Ts.{Ts}
use Rattle.range_log.specs.declared.entries.Entry.TheVariants as log
use Rattle.range_log.specs.declared.entries.TxnState.TheVariants as states
use Rattle.run_laws.proofs.AttemptLemmas.{attempt_stays}
use Rattle.run_laws.proofs.LawfulLemmas.{happened_so}
use Rattle.run_laws.specs.Determined.{IsAckAt}
use Rattle.run_laws.specs.Lawful.{IsLawful, IsPermitted}
use Rattle.run_laws.specs.Visible.{DecidesAt}
use Rattle.run_words.specs.Attempts.{Attempt, attempt_of}
use Rattle.run_words.specs.Happened.{Happened, IsPlace}
use Rattle.run_words.specs.History.{History, Item, Made}
use Rattle.run_words.specs.Puts.{greatest_with, puts}
use Rattle.run_words.specs.Setup.{Setup}
use Rattle.run_words.specs.Transactions.{last_attempt}
use Rattle.held_reads.proofs.Basics.{some_same}
use Rattle.held_reads.proofs.CommitFacts.{IsHigh, commit_high}
use Rattle.held_reads.proofs.KeptLemmas.{lawful_kept}
use Rattle.visible_runs.proofs.Places.{before_item}
use Rattle.held_reads.proofs.PutFacts.{greatest_not_below}
use Rattle.held_reads.proofs.TsLemmas.{le_trans, not_itself}
use Rattle.visible_runs.proofs.TxnFacts.{last_txn, txn_attempt}

-- who is decided at a timestamp reads no higher
pub record IsDecidedAt (setup : Setup) (h : History) (t : TxnId) (a : AttemptId) (ts : Ts) : Type 0 where
  pub attempt : Attempt
  pub is_attempt : attempt_of h a ≡ Some attempt
  pub of_txn : attempt.txn ≡ t
  pub high : ¬ IsBelow ts attempt.read_at

ack_high : (setup : Setup) (h : History) → IsLawful setup h → (t : TxnId) (a : AttemptId) (ts : Ts) (att : Attempt) → attempt_of h a ≡ Some att → IsAckAt h t a ts → ¬ IsBelow ts att.read_at
ack_high setup h l t a ts att e (inl (made, put, c, at, known)) =
    let high : IsHigh (attempt_of h a) (puts h a) a made.ts = commit_high setup h (lawful_kept setup h l) a made c in
    let same : high.attempt ≡ att = some_same (sym high.is_attempt ∙ e) in
    subst (λ (s : Ts). ¬ IsBelow s att.read_at) at
    (subst (λ (x : Attempt). ¬ IsBelow made.ts x.read_at) same
    (le_trans high.attempt.read_at (greatest_with high.attempt.read_at (puts h a)) made.ts (greatest_not_below high.attempt.read_at (puts h a)) high.high))
ack_high setup h l t a ts att e (inr (none, (x, is, at), un)) =
    let same : x ≡ att = some_same (sym is ∙ e) in
    subst (λ (s : Ts). ¬ IsBelow s att.read_at) at (subst (λ (y : Attempt). ¬ IsBelow x.read_at y.read_at) same (not_itself x.read_at))

module _ (setup : Setup) (h : History) (l : IsLawful setup h) (t : TxnId) (a : AttemptId) (ts : Ts) where
  abbrev OfTxn : History → Type 0
  OfTxn older = (att : Attempt) × (attempt_of older a ≡ Some att) × (att.txn ≡ t)

  decided : (older : History) → IsPlace older h → (f : OfTxn older) → ¬ IsBelow ts f.0.read_at → IsDecidedAt setup h t a ts
  decided older place f high =
      record { attempt = f.0; is_attempt = attempt_stays setup h older a f.0 l place f.1; of_txn = f.2; high = high }

  decided_by : (x : Item) (older : History) → IsPlace older h → DecidesAt t a ts x older → IsPermitted setup older x → IsLawful setup older → IsDecidedAt setup h t a ts
  decided_by (Made (entry.Append j index (log.State b (states.Committed c)))) older place (mine, of_t, at) p lawful =
      let f : OfTxn older = txn_attempt older a t of_t in
      let same : p.records.by.attempt ≡ f.0 = some_same (sym p.records.by.is_attempt ∙ ap (attempt_of older) mine ∙ f.1) in
      decided older place f
      (subst (λ (x : Attempt). ¬ IsBelow ts x.read_at) same
      (subst (λ (s : Ts). ¬ IsBelow s p.records.by.attempt.read_at) (sym p.records.by.at_is ∙ at) (greatest_not_below p.records.by.attempt.read_at (puts older b))))
  decided_by (Made (entry.Ack u at results)) older place (same, is, last) p lawful =
      let f : OfTxn older = txn_attempt older a t (last_txn setup older lawful t a last) in
      let mine : p.determined.attempt ≡ a = some_same (sym p.determined.last ∙ ap (last_attempt older) same ∙ last) in
      decided older place f (subst (λ (s : Ts). ¬ IsBelow s f.0.read_at) is (ack_high setup older lawful u a at f.0 f.1 (subst (λ (b : AttemptId). IsAckAt older u b at) mine p.determined.at)))
  decided_by (Made (entry.Fault u at state)) older place (same, is, last) p lawful =
      let f : OfTxn older = txn_attempt older a t (last_txn setup older lawful t a last) in
      let mine : p.determined.attempt ≡ a = some_same (sym p.determined.last ∙ ap (last_attempt older) same ∙ last) in
      let mine_is : p.determined.at.0 ≡ f.0 = some_same (sym p.determined.at.1 ∙ ap (attempt_of older) mine ∙ f.1) in
      decided older place f
      (subst (λ (s : Ts). ¬ IsBelow s f.0.read_at) (p.determined.at.2 ∙ is) (subst (λ (x : Attempt). ¬ IsBelow p.determined.at.0.read_at x.read_at) mine_is (not_itself p.determined.at.0.read_at)))
  decided_by x older place d p lawful = absurd d

  pub decided_at : Happened (DecidesAt t a ts) h → IsDecidedAt setup h t a ts
  decided_at w =
      let f : (x : Item) × (older : History) × IsPlace (x ∷ older) h × DecidesAt t a ts x older × IsPermitted setup older x × IsLawful setup older = happened_so setup h (DecidesAt t a ts) l w in
      decided_by f.0 f.1 (before_item h f.1 f.0 f.2) f.3 f.4 f.5
