use Rattle.std.proofs.Common.{◌≡◌, List, [], ◌∷◌, inl, inr, ⊎_elim, refl, sym, ap, ◌∙◌, subst, option_map}
use Rattle.std.specs.Prelude.{◌==◌, Some}
use Rattle.std.specs.List.{Contains}
use Rattle.journal.specs.declared.entries.JournalEntry.TheVariants as entry
use Rattle.mr_base.specs.declared.ids.AttemptId.{AttemptId}
use Rattle.mr_base.specs.declared.ids.TxnId.{TxnId}
use Rattle.mr_base.specs.declared.results.StatementResult.{StatementResult}
use Rattle.mr_base.specs.declared.timestamps.Ts.{Ts}
use Rattle.range_log.specs.declared.entries.Entry.TheVariants as log
use Rattle.range_log.specs.declared.entries.TxnState.TheVariants as states
use Rattle.run_laws.proofs.CommitLemmas.{commit_stays}
use Rattle.run_laws.specs.Lawful.{IsLawful}
use Rattle.run_laws.specs.Records.{IsAnswer}
use Rattle.run_words.proofs.HappenedLemmas.{place_happened}
use Rattle.run_words.proofs.MemberLemmas.{picked_cases}
use Rattle.run_words.specs.Attempts.{Attempt, attempt_of}
use Rattle.run_words.specs.Happened.{IsPlace}
use Rattle.run_words.specs.History.{History, Item, Made}
use Rattle.run_words.specs.Puts.{CommitMade, PutMade, commit, puts}
use Rattle.run_words.specs.Setup.{Setup}
use Rattle.run_words.specs.Transactions.{beginning, last_attempt}
use Rattle.held_reads.proofs.Basics.{attempts_same, cond_cases, cond_false, not_none, some_same, true_or_false}
use Rattle.held_reads.proofs.CommitFacts.{IsHigh, commit_high}
use Rattle.held_reads.proofs.KeptLemmas.{lawful_kept}
use Rattle.visible_runs.proofs.TxnFacts.{IsThere, attempt_begun, goes_on, txns_same}

-- the attempt of a commit
pub committed_attempt : (setup : Setup) (h : History) → IsLawful setup h → (w : AttemptId) (made : CommitMade) → commit h w ≡ Some made → (att : Attempt) × (attempt_of h w ≡ Some att)
committed_attempt setup h l w made e =
    let high : IsHigh (attempt_of h w) (puts h w) w made.ts = commit_high setup h (lawful_kept setup h l) w made e in (high.attempt, high.is_attempt)

-- an attempt that committed is the last of its transaction
pub committed_last : (setup : Setup) (h : History) → IsLawful setup h → (w : AttemptId) (made : CommitMade) (att : Attempt) → commit h w ≡ Some made → attempt_of h w ≡ Some att
    → last_attempt h att.txn ≡ Some w
committed_last setup [] l w made att c e = absurd (not_none c)
committed_last setup (Made (entry.Append range index (log.State b (states.Committed ts))) ∷ h) l w made att c e =
    ⊎_elim
    (λ (q : ((b.0 == w.0) ≡ _) × _).
    let mine : b ≡ w = attempts_same b w q.0 in
    let same : l.0.records.by.attempt ≡ att = some_same (sym l.0.records.by.is_attempt ∙ ap (attempt_of h) mine ∙ e) in
    subst (λ (x : Attempt). last_attempt h x.txn ≡ Some w) same (l.0.records.by.last ∙ ap (λ (x : AttemptId). Some x) mine))
    (λ (q : ((b.0 == w.0) ≡ _) × _). committed_last setup h l.1 w made att q.1 e)
    (cond_cases (b.0 == w.0) _ _ (Some made) c)
committed_last setup (Made (entry.Begin u b gateway start limit) ∷ h) l w made att c e =
    let old : (x : Attempt) × (attempt_of h w ≡ Some x) = committed_attempt setup h l.1 w made c in
    let same : old.0 ≡ att = some_same (sym (goes_on setup (Made (entry.Begin u b gateway start limit)) h l w old.0 old.1) ∙ e) in
    let here : attempt_of h w ≡ Some att = subst (λ (x : Attempt). attempt_of h w ≡ Some x) same old.1 in
    let begun : IsThere (beginning h att.txn) = attempt_begun setup h l.1 w att here in
    ⊎_elim
    (λ q. absurd (not_none (sym l.0.order.once ∙ ap (beginning h) (txns_same u att.txn q) ∙ begun.1)))
    (λ q. cond_false (u.0 == att.txn.0) _ _ q ∙ committed_last setup h l.1 w made att c here)
    (true_or_false (u.0 == att.txn.0))
committed_last setup (Made (entry.Retry u b cause) ∷ h) l w made att c e =
    let old : (x : Attempt) × (attempt_of h w ≡ Some x) = committed_attempt setup h l.1 w made c in
    let same : old.0 ≡ att = some_same (sym (goes_on setup (Made (entry.Retry u b cause)) h l w old.0 old.1) ∙ e) in
    let here : attempt_of h w ≡ Some att = subst (λ (x : Attempt). attempt_of h w ≡ Some x) same old.1 in
    ⊎_elim
    (λ q. absurd (not_none (sym (l.0.determined.1 w (ap (option_map (λ (x : Attempt). x.txn)) here ∙ ap (λ (v : TxnId). Some v) (sym (txns_same u att.txn q)))) ∙ c)))
    (λ q. cond_false (u.0 == att.txn.0) _ _ q ∙ committed_last setup h l.1 w made att c here)
    (true_or_false (u.0 == att.txn.0))
committed_last setup (x ∷ h) l w made att c e = committed_last setup h l.1 w made att c e

-- an attempt of an acknowledged transaction that committed did so before the acknowledgement
abbrev IsOf : History → AttemptId → TxnId → Type 0
IsOf h w t = (att : Attempt) → attempt_of h w ≡ Some att → att.txn ≡ t

older_of : (setup : Setup) (x : Item) (h : History) → IsLawful setup (x ∷ h) → (w : AttemptId) (t : TxnId) → IsOf (x ∷ h) w t → IsOf h w t
older_of setup x h l w t f att e = f att (goes_on setup x h l w att e)

pub commit_before_ack : (setup : Setup) (h : History) → IsLawful setup h → (older : History) (t : TxnId) (ts : Ts) (results : List StatementResult) → IsPlace (Made (entry.Ack t ts results) ∷ older) h
    → (w : AttemptId) (made : CommitMade) → commit h w ≡ Some made → ((att : Attempt) → attempt_of h w ≡ Some att → att.txn ≡ t) → commit older w ≡ Some made
commit_before_ack setup [] l older t ts results p w made c f = absurd (not_none c)
commit_before_ack setup (x ∷ h) l older t ts results (inl p) w made c f = subst (λ (g : History). commit g w ≡ Some made) (sym p) c
commit_before_ack setup (Made (entry.Append range index (log.State b (states.Committed at))) ∷ h) l older t ts results (inr p) w made c f =
    ⊎_elim
    (λ (q : ((b.0 == w.0) ≡ _) × _).
    let of_t : l.0.records.by.attempt.txn ≡ t = f l.0.records.by.attempt (ap (attempt_of h) (sym (attempts_same b w q.0)) ∙ l.0.records.by.is_attempt) in
    absurd (l.0.records.by.unanswered (place_happened (IsAnswer l.0.records.by.attempt.txn) h (Made (entry.Ack t ts results)) older p (sym of_t))))
    (λ (q : ((b.0 == w.0) ≡ _) × _). commit_before_ack setup h l.1 older t ts results p w made q.1 f)
    (cond_cases (b.0 == w.0) _ _ (Some made) c)
commit_before_ack setup (x ∷ h) l older t ts results (inr p) w made c f =
    commit_before_ack setup h l.1 older t ts results p w made c (older_of setup x h l w t f)

-- an attempt puts nothing after its commit
pub put_before_commit : (setup : Setup) (h : History) → IsLawful setup h → (older : History) → IsPlace older h → (w : AttemptId) (made : CommitMade) → commit older w ≡ Some made
    → (put : PutMade) → Contains (puts h w) put → Contains (puts older w) put
put_before_commit setup [] l older p w made c put among = subst (λ (g : History). Contains (puts g w) put) (sym p) among
put_before_commit setup (x ∷ h) l older (inl p) w made c put among = subst (λ (g : History). Contains (puts g w) put) (sym p) among
put_before_commit setup (Made (entry.Append range index (log.Put b start anchor ts key value)) ∷ h) l older (inr p) w made c put among =
    ⊎_elim
    (λ (q : (b ≡ w) × _). absurd (not_none (sym l.0.laid.undecided ∙ ap (commit h) q.0 ∙ commit_stays setup h older w made l.1 p c)))
    (λ q. put_before_commit setup h l.1 older p w made c put q)
    (picked_cases (b.0 == w.0) b w _ put (puts h w) refl among)
put_before_commit setup (x ∷ h) l older (inr p) w made c put among = put_before_commit setup h l.1 older p w made c put among
