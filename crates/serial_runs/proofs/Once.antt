use Rattle.std.proofs.Common.{◌≡◌, Bool, true, false, cond, [], ◌∷◌, inl, inr, ⊎_elim, refl, sym, ap, ◌∙◌, subst, true≢false}
use Rattle.std.specs.Prelude.{◌⊎◌, ◌==◌, Option, Some, None, option_map}
use Rattle.answer_laws.proofs.MoreMembers.{mapped_some}
use Rattle.journal.specs.declared.entries.JournalEntry.TheVariants as entry
use Rattle.mr_base.specs.declared.ids.AttemptId.{AttemptId}
use Rattle.mr_base.specs.declared.ids.TxnId.{TxnId}
use Rattle.range_log.specs.declared.entries.TxnState.{TxnState}
use Rattle.range_log.specs.declared.entries.TxnState.TheVariants as states
use Rattle.range_rules.specs.Records.{Goes}
use Rattle.run_laws.proofs.AttemptLemmas.{attempt_stays, beginning_stays}
use Rattle.run_laws.proofs.CommitLemmas.{commit_is_record, commit_stays}
use Rattle.run_laws.specs.Decided.{Decided}
use Rattle.run_laws.specs.Lawful.{IsLawful}
use Rattle.run_laws.specs.Lists.{IsSettingOf}
use Rattle.run_laws.specs.Records.{WasAnswered}
use Rattle.run_words.proofs.HappenedLemmas.{happened_since, place_itself}
use Rattle.run_words.specs.Attempts.{Attempt, attempt_of}
use Rattle.run_words.specs.Happened.{IsPlace}
use Rattle.run_words.specs.History.{History, Item, Made}
use Rattle.run_words.specs.Messages.{handled}
use Rattle.run_words.specs.Puts.{CommitMade, commit, record_of}
use Rattle.run_words.specs.Setup.{Setup}
use Rattle.run_words.specs.Transactions.{Beginning, beginning, is_open, last_attempt}
use Rattle.serial_runs.proofs.Decisions.{IsByAnswer, IsByCommit, IsDecision}
use Rattle.serial_runs.proofs.LastAttempts.{last_of}
use Rattle.serial_runs.proofs.Numbers.{cond_false, cond_true, itself, not_none, same_tests, some_same, true_or_false, txns_same}

-- a transaction that has an answer is closed, and had begun
pub record IsClosed (h : History) (t : TxnId) : Type 0 where
  pub closed : is_open h t ≡ false
  pub begun : Beginning
  pub is_begun : beginning h t ≡ Some begun

shut : (b old : Bool) → old ≡ false → cond b false old ≡ false
shut true old e = refl
shut false old e = e

still_begun : (setup : Setup) (x : Item) (h : History) → IsLawful setup (x ∷ h) → (t : TxnId) (b : Beginning) → beginning h t ≡ Some b → beginning (x ∷ h) t ≡ Some b
still_begun setup x h l t b e = beginning_stays setup (x ∷ h) h t b l (inr (place_itself h)) e

-- a transaction that began doesn't begin again
not_again : (h : History) (u t : TxnId) (b : Beginning) → beginning h u ≡ None → beginning h t ≡ Some b → (u.0 == t.0) ≡ false
not_again h u t b none e =
    ⊎_elim (λ q. absurd (not_none (sym none ∙ (ap (λ (v : TxnId). beginning h v) (txns_same u t q) ∙ e)))) (λ q. q) (true_or_false (u.0 == t.0))

closed_at : (setup : Setup) (h : History) → IsLawful setup h → (u t : TxnId) (a : AttemptId) (s : Attempt) → last_attempt h u ≡ Some a → attempt_of h a ≡ Some s
    → (b : Beginning) → beginning h s.txn ≡ Some b → u ≡ t → (old : Bool) → (cond (u.0 == t.0) false old ≡ false) × (beginning h t ≡ Some b)
closed_at setup h l u t a s e f b g same old = (
  cond_true (u.0 == t.0) false old (same_tests u.0 t.0 (ap (λ (v : TxnId). v.0) same)),
  subst (λ (v : TxnId). beginning h v ≡ Some b) ((last_of setup h l u a e).of_it s f ∙ same) g,
)

pub answered_closed : (setup : Setup) (h : History) → IsLawful setup h → (t : TxnId) → WasAnswered t h → IsClosed h t
answered_closed setup [] l t w = absurd w
answered_closed setup (Made (entry.Begin u a gateway start limit) ∷ h) l t (inr w) =
    let old : IsClosed h t = answered_closed setup h l.1 t w in
    record {
      closed = cond_false (u.0 == t.0) true (is_open h t) (not_again h u t old.begun l.0.order.once old.is_begun) ∙ old.closed;
      begun = old.begun;
      is_begun = still_begun setup (Made (entry.Begin u a gateway start limit)) h l t old.begun old.is_begun;
    }
answered_closed setup (Made (entry.Ack u ts results) ∷ h) l t (inl same) =
    let set : IsSettingOf setup h l.0.determined.answer.attempt.txn l.0.determined.answer.setting = l.0.determined.answer.is_setting in
    let both : (cond (u.0 == t.0) false (is_open h t) ≡ false) × (beginning h t ≡ Some set.begun) =
    closed_at setup h l.1 u t l.0.determined.attempt l.0.determined.answer.attempt l.0.determined.last l.0.determined.answer.is_attempt set.begun set.is_begun same (is_open h t) in
    record { closed = both.0; begun = set.begun; is_begun = both.1 }
answered_closed setup (Made (entry.Ack u ts results) ∷ h) l t (inr w) =
    let old : IsClosed h t = answered_closed setup h l.1 t w in
    record { closed = shut (u.0 == t.0) (is_open h t) old.closed; begun = old.begun; is_begun = old.is_begun }
answered_closed setup (Made (entry.Fault u ts state) ∷ h) l t (inl same) =
    let set : IsSettingOf setup h l.0.determined.answer.attempt.txn l.0.determined.answer.setting = l.0.determined.answer.is_setting in
    let both : (cond (u.0 == t.0) false (is_open h t) ≡ false) × (beginning h t ≡ Some set.begun) =
    closed_at setup h l.1 u t l.0.determined.attempt l.0.determined.answer.attempt l.0.determined.last l.0.determined.answer.is_attempt set.begun set.is_begun same (is_open h t) in
    record { closed = both.0; begun = set.begun; is_begun = both.1 }
answered_closed setup (Made (entry.Fault u ts state) ∷ h) l t (inr w) =
    let old : IsClosed h t = answered_closed setup h l.1 t w in
    record { closed = shut (u.0 == t.0) (is_open h t) old.closed; begun = old.begun; is_begun = old.is_begun }
answered_closed setup (Made (entry.Refuse u why) ∷ h) l t (inr w) =
    let old : IsClosed h t = answered_closed setup h l.1 t w in
    record { closed = shut (u.0 == t.0) (is_open h t) old.closed; begun = old.begun; is_begun = old.is_begun }
answered_closed setup (Made (entry.Lost u) ∷ h) l t (inr w) =
    let old : IsClosed h t = answered_closed setup h l.1 t w in
    record { closed = shut (u.0 == t.0) (is_open h t) old.closed; begun = old.begun; is_begun = old.is_begun }
answered_closed setup (x ∷ h) l t (inl w) = absurd w
answered_closed setup (x ∷ h) l t (inr w) =
    let old : IsClosed h t = answered_closed setup h l.1 t w in
    record { closed = old.closed; begun = old.begun; is_begun = old.is_begun }

-- the last attempt of a transaction has committed
pub record IsDone (h : History) (t : TxnId) (b : AttemptId) : Type 0 where
  pub last : last_attempt h t ≡ Some b
  pub made : CommitMade
  pub is_made : commit h b ≡ Some made
  pub attempt : Attempt
  pub is_attempt : attempt_of h b ≡ Some attempt
  pub of_txn : attempt.txn ≡ t
  pub begun : Beginning
  pub is_begun : beginning h t ≡ Some begun

last_stays : (setup : Setup) (x : Item) (h : History) → IsLawful setup (x ∷ h) → (t : TxnId) (b : AttemptId) → IsDone h t b → last_attempt (x ∷ h) t ≡ Some b
last_stays setup (Made (entry.Begin u a gateway start limit)) h l t b done =
    cond_false (u.0 == t.0) (Some a) (last_attempt h t) (not_again h u t done.begun l.0.order.once done.is_begun) ∙ done.last
last_stays setup (Made (entry.Retry u a cause)) h l t b done =
    ⊎_elim
    (λ q. absurd (not_none (sym (l.0.determined.1 b (ap (λ (o : Option Attempt). option_map (λ (x : Attempt). x.txn) o) done.is_attempt ∙ ap (λ (v : TxnId). Some v) (done.of_txn ∙ sym (txns_same u t q)))) ∙ done.is_made)))
    (λ q. cond_false (u.0 == t.0) (Some a) (last_attempt h t) q ∙ done.last)
    (true_or_false (u.0 == t.0))
last_stays setup x h l t b done = done.last

done_over : (setup : Setup) (x : Item) (h : History) → IsLawful setup (x ∷ h) → (t : TxnId) (b : AttemptId) → IsDone h t b → IsDone (x ∷ h) t b
done_over setup x h l t b done =
    record {
      last = last_stays setup x h l t b done;
      made = done.made;
      is_made = commit_stays setup (x ∷ h) h b done.made l (inr (place_itself h)) done.is_made;
      attempt = done.attempt;
      is_attempt = attempt_stays setup (x ∷ h) h b done.attempt l (inr (place_itself h)) done.is_attempt;
      of_txn = done.of_txn;
      begun = done.begun;
      is_begun = still_begun setup x h l t done.begun done.is_begun;
    }

pub done_stays : (setup : Setup) (h older : History) → IsLawful setup h → IsPlace older h → (t : TxnId) (b : AttemptId) → IsDone older t b → IsDone h t b
done_stays setup [] older l p t b done = subst (λ (g : History). IsDone g t b) p done
done_stays setup (x ∷ h) older l (inl p) t b done = subst (λ (g : History). IsDone g t b) p done
done_stays setup (x ∷ h) older l (inr p) t b done = done_over setup x h l t b (done_stays setup h older l.1 p t b done)

done_here : (setup : Setup) (x : Item) (h : History) (d : Decided) (a : AttemptId) → IsDecision setup x h d a → IsByCommit setup x h d a → IsDone (x ∷ h) d.txn a
done_here setup x h d a dec by =
    let known : (y : Attempt) × (attempt_of h a ≡ Some y) × (y.txn ≡ d.txn) = mapped_some (λ (y : Attempt). y.txn) (attempt_of h a) d.txn dec.of_txn in
    subst (λ (y : Item). IsDone (y ∷ h) d.txn a) (sym by.is)
    (record {
      last = dec.last;
      made = record { range = by.range; ts = d.ts; via = handled h };
      is_made = cond_true (a.0 == a.0) _ (commit h a) (itself a.0);
      attempt = known.0;
      is_attempt = known.1;
      of_txn = known.2;
      begun = dec.setting.begun;
      is_begun = dec.setting.is_begun;
    })

no_way_on : (old : Option TxnState) (state : TxnState) (made : CommitMade) → old ≡ Some (states.Committed made.ts) → Goes old state → ⊥
no_way_on old state made e g = subst (λ (o : Option TxnState). Goes o state) e g

module _ (setup : Setup) (x : Item) (h : History) (lawful : IsLawful setup (x ∷ h)) (d : Decided) (a : AttemptId) (dec : IsDecision setup x h d a) where
  -- a committed transaction isn't decided again
  not_after_commit : (e : Decided) (b : AttemptId) → d.txn ≡ e.txn → IsDone h e.txn b → IsByCommit setup x h d a ⊎ IsByAnswer setup x h d a → ⊥
  not_after_commit e b same done (inl by) =
      let one : a ≡ b = some_same (sym (subst (λ (t : TxnId). last_attempt h t ≡ Some a) same dec.last) ∙ done.last) in
      no_way_on (record_of h b) (states.Committed d.ts) done.made (commit_is_record setup h b done.made lawful.1 done.is_made)
      (subst (λ (c : AttemptId). Goes (record_of h c) (states.Committed d.ts)) one by.goes)
  not_after_commit e b same done (inr by) =
      not_none (sym (by.uncommitted b (ap (λ (o : Option Attempt). option_map (λ (y : Attempt). y.txn) o) done.is_attempt ∙ ap (λ (v : TxnId). Some v) (done.of_txn ∙ sym same))) ∙ done.is_made)

  -- nor one that has an answer
  not_after_answer : WasAnswered d.txn h → IsByCommit setup x h d a ⊎ IsByAnswer setup x h d a → ⊥
  not_after_answer w (inl by) = by.unanswered w
  not_after_answer w (inr by) = true≢false (sym by.open_yet ∙ (answered_closed setup h lawful.1 d.txn w).closed)

  -- a transaction is decided once
  pub once : (y : Item) (older : History) (e : Decided) (b : AttemptId) → IsPlace (y ∷ older) h → IsDecision setup y older e b → d.txn ≡ e.txn → ⊥
  once y older e b p other same = by_how other.how
    where
      by_how : IsByCommit setup y older e b ⊎ IsByAnswer setup y older e b → ⊥
      by_how (inl by) = not_after_commit e b same (done_stays setup h (y ∷ older) lawful.1 p e.txn b (done_here setup y older e b other by)) dec.how
      by_how (inr by) =
          not_after_answer (subst (λ (t : TxnId). WasAnswered t h) (sym same) (happened_since _ h (y ∷ older) p by.answered)) dec.how
