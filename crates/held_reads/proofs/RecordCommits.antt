use Rattle.std.proofs.Common.{◌≡◌, ◌∷◌, ⊎_elim, sym, ap, ◌∙◌, subst, []}
use Rattle.std.specs.Prelude.{◌==◌, Option, Some}
use Rattle.journal.specs.declared.entries.JournalEntry.TheVariants as entry
use Rattle.mr_base.specs.declared.ids.AttemptId.{AttemptId}
use Rattle.mr_base.specs.declared.timestamps.Ts.{Ts}
use Rattle.range_log.specs.declared.entries.Entry.TheVariants as log
use Rattle.range_log.specs.declared.entries.TxnState.TheVariants as states
use Rattle.range_log.specs.declared.entries.TxnState.{TxnState}
use Rattle.range_rules.specs.Records.{Goes}
use Rattle.held_reads.proofs.Basics.{attempts_same, cond_cases, cond_false, cond_true, not_none, some_same, true_or_false}
use Rattle.held_reads.proofs.CommitFacts.{IsHigh, commit_high}
use Rattle.held_reads.proofs.Licenses.{AreOwned}
use Rattle.held_reads.specs.KeepsReads.{KeepsReads}
use Rattle.run_words.specs.History.{History, Made}
use Rattle.run_words.specs.Puts.{CommitMade, commit, record_of}
use Rattle.run_words.specs.Setup.{Setup}

committed_same : {c d : Ts} → Some (states.Committed c) ≡ Some (states.Committed d) → c ≡ d
committed_same e = cc

pending_apart : {c d : Ts} → Some (states.Pending c) ≡ Some (states.Committed d) → ⊥
pending_apart e = cc

aborted_apart : {b : AttemptId} {d : Ts} → Some (states.Aborted b) ≡ Some (states.Committed d) → ⊥
aborted_apart e = cc

decided_stays : (r : Option TxnState) (c : Ts) (new : TxnState) → r ≡ Some (states.Committed c) → Goes r new → ⊥
decided_stays r c new e g = subst (λ (y : Option TxnState). Goes y new) e g

-- a commit is what the record says
pub commit_recorded : (setup : Setup) (h : History) → KeepsReads setup h → (a : AttemptId) (made : CommitMade) → commit h a ≡ Some made → record_of h a ≡ Some (states.Committed made.ts)
commit_recorded setup [] k a made e = absurd (not_none e)
commit_recorded setup (Made (entry.Append range index (log.State b (states.Committed c))) ∷ h) k a made e =
    ⊎_elim
    (λ (q : ((b.0 == a.0) ≡ _) × _). cond_true (b.0 == a.0) _ _ q.0 ∙ ap (λ (m : CommitMade). Some (states.Committed m.ts)) (some_same q.1))
    (λ (q : ((b.0 == a.0) ≡ _) × _). cond_false (b.0 == a.0) _ _ q.0 ∙ commit_recorded setup h k.1 a made q.1)
    (cond_cases (b.0 == a.0) _ _ (Some made) e)
commit_recorded setup (Made (entry.Append range index (log.State b (states.Pending c))) ∷ h) k a made e =
    let old : record_of h a ≡ Some (states.Committed made.ts) = commit_recorded setup h k.1 a made e in
    ⊎_elim
    (λ q. absurd (decided_stays (record_of h b) made.ts (states.Pending c) (ap (record_of h) (attempts_same b a q) ∙ old) k.0.records.goes))
    (λ q. cond_false (b.0 == a.0) _ _ q ∙ old)
    (true_or_false (b.0 == a.0))
commit_recorded setup (Made (entry.Append range index (log.State b (states.Aborted by))) ∷ h) k a made e =
    let old : record_of h a ≡ Some (states.Committed made.ts) = commit_recorded setup h k.1 a made e in
    ⊎_elim
    (λ q. absurd (decided_stays (record_of h b) made.ts (states.Aborted by) (ap (record_of h) (attempts_same b a q) ∙ old) k.0.records.goes))
    (λ q. cond_false (b.0 == a.0) _ _ q ∙ old)
    (true_or_false (b.0 == a.0))
commit_recorded setup (x ∷ h) k a made e = commit_recorded setup h k.1 a made e

-- a record that says so is a commit
pub recorded_commit : (h : History) (a : AttemptId) (c : Ts) → record_of h a ≡ Some (states.Committed c) → (made : CommitMade) × (commit h a ≡ Some made) × (made.ts ≡ c)
recorded_commit [] a c e = absurd (not_none e)
recorded_commit (Made (entry.Append range index (log.State b (states.Committed d))) ∷ h) a c e =
    ⊎_elim
    (λ (q : ((b.0 == a.0) ≡ _) × _). (_, cond_true (b.0 == a.0) _ _ q.0, committed_same q.1))
    (λ (q : ((b.0 == a.0) ≡ _) × _).
    let old : (made : CommitMade) × (commit h a ≡ Some made) × (made.ts ≡ c) = recorded_commit h a c q.1 in
    (old.0, cond_false (b.0 == a.0) _ _ q.0 ∙ old.1, old.2))
    (cond_cases (b.0 == a.0) _ _ (Some (states.Committed c)) e)
recorded_commit (Made (entry.Append range index (log.State b (states.Pending d))) ∷ h) a c e =
    ⊎_elim
    (λ (q : ((b.0 == a.0) ≡ _) × _). absurd (pending_apart q.1))
    (λ (q : ((b.0 == a.0) ≡ _) × _). recorded_commit h a c q.1)
    (cond_cases (b.0 == a.0) _ _ (Some (states.Committed c)) e)
recorded_commit (Made (entry.Append range index (log.State b (states.Aborted by))) ∷ h) a c e =
    ⊎_elim
    (λ (q : ((b.0 == a.0) ≡ _) × _). absurd (aborted_apart q.1))
    (λ (q : ((b.0 == a.0) ≡ _) × _). recorded_commit h a c q.1)
    (cond_cases (b.0 == a.0) _ _ (Some (states.Committed c)) e)
recorded_commit (x ∷ h) a c e = recorded_commit h a c e

-- who commits at a timestamp owns it
pub are_owned : (setup : Setup) (h : History) → KeepsReads setup h → AreOwned (record_of h)
are_owned setup h k a c e =
    let f : (made : CommitMade) × (commit h a ≡ Some made) × (made.ts ≡ c) = recorded_commit h a c e in
    let high : IsHigh _ _ a f.0.ts = commit_high setup h k a f.0 f.1 in
    (ap (λ (t : Ts). t.owner) (sym f.2) ∙ high.owned, high.positive)
