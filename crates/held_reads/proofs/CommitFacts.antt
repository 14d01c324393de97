use Rattle.std.proofs.Common.{◌≡◌, ℕ, ◌≤◌, List, [], ◌∷◌, inl, inr, ⊎_elim, sym, ap, ◌∙◌, subst}
use Rattle.std.specs.Prelude.{◌==◌, Option, Some}
use Rattle.journal.specs.declared.entries.JournalEntry.TheVariants as entry
use Rattle.mr_base.specs.Timestamps.{IsBelow}
use Rattle.mr_base.specs.declared.ids.AttemptId.{AttemptId}
use Rattle.mr_base.specs.declared.ids.RangeId.{RangeId}
use Rattle.mr_base.specs.declared.spans.Span.{Span}
use Rattle.mr_base.specs.declared.timestamps.Ts.{Ts}
use Rattle.mvcc_range.specs.Answer.{Read}
use Rattle.range_log.specs.declared.entries.Entry.TheVariants as log
use Rattle.range_log.specs.declared.entries.TxnState.TheVariants as states
use Rattle.held_reads.proofs.AttemptFacts.{IsNumbered, attempt_stays, is_numbered}
use Rattle.held_reads.proofs.Basics.{attempts_same, cond_cases, cond_false, cond_true, not_none, some_same, true_or_false}
use Rattle.held_reads.proofs.PutFacts.{greatest_not_below, greatest_owner, put_owned}
use Rattle.held_reads.proofs.TsLemmas.{later_left, le_trans, not_itself}
use Rattle.held_reads.specs.KeepsReads.{KeepsReads}
use Rattle.run_laws.specs.Served.{IsAsked}
use Rattle.run_words.specs.Attempts.{Attempt, attempt_of, greatest_put}
use Rattle.run_words.specs.History.{History, Made}
use Rattle.run_words.specs.Puts.{CommitMade, PutMade, commit, greatest_with, puts}
use Rattle.run_words.specs.Relations.{WasServed}
use Rattle.run_words.specs.Serving.{ServedRead}
use Rattle.run_words.specs.Setup.{Setup}

-- a commit isn't below where its attempt reads, nor below its puts, and its attempt owns it
pub record IsHigh (read : Option Attempt) (ps : List PutMade) (a : AttemptId) (c : Ts) : Type 0 where
  pub attempt : Attempt
  pub is_attempt : read ≡ Some attempt
  pub high : ¬ IsBelow c (greatest_with attempt.read_at ps)
  pub owned : c.owner ≡ a.0
  pub positive : 1 ≤ a.0

high_stays : (read new : Option Attempt) (ps : List PutMade) (a : AttemptId) (c : Ts) → ((att : Attempt) → read ≡ Some att → new ≡ Some att) → IsHigh read ps a c → IsHigh new ps a c
high_stays read new ps a c f old =
    record { attempt = old.attempt; is_attempt = f old.attempt old.is_attempt; high = old.high; owned = old.owned; positive = old.positive }

pub commit_high : (setup : Setup) (h : History) → KeepsReads setup h → (a : AttemptId) (made : CommitMade) → commit h a ≡ Some made → IsHigh (attempt_of h a) (puts h a) a made.ts
commit_high setup [] k a made e = absurd (not_none e)
commit_high setup (Made (entry.Append range index (log.Put b start anchor ts key value)) ∷ h) k a made e =
    ⊎_elim
    (λ q. absurd (not_none (sym k.0.laid.undecided ∙ ap (λ (y : AttemptId). commit h y) (attempts_same b a q) ∙ e)))
    (λ q. subst (λ (ps : List PutMade). IsHigh (attempt_of h a) ps a made.ts) (sym (cond_false (b.0 == a.0) _ (puts h a) q)) (commit_high setup h k.1 a made e))
    (true_or_false (b.0 == a.0))
commit_high setup (Made (entry.Append range index (log.State b (states.Committed c))) ∷ h) k a made e =
    ⊎_elim
    (λ (q : ((b.0 == a.0) ≡ _) × _).
    let n : IsNumbered _ b k.0.records.by.attempt = is_numbered setup h k.1 b k.0.records.by.attempt k.0.records.by.is_attempt in
    let here : IsHigh (attempt_of h b) (puts h b) b c =
    record {
      attempt = k.0.records.by.attempt;
      is_attempt = k.0.records.by.is_attempt;
      high = subst (λ (t : Ts). ¬ IsBelow c t) k.0.records.by.at_is (not_itself c);
      owned = ap (λ (t : Ts). t.owner) k.0.records.by.at_is ∙ greatest_owner k.0.records.by.attempt.read_at (puts h b) b.0 n.owned (put_owned setup h k.1 b);
      positive = n.positive;
    } in
    subst (λ (t : Ts). IsHigh (attempt_of h a) (puts h a) a t) (ap (λ (m : CommitMade). m.ts) (some_same q.1))
    (subst (λ (y : AttemptId). IsHigh (attempt_of h y) (puts h y) y c) (attempts_same b a q.0) here))
    (λ (q : ((b.0 == a.0) ≡ _) × _). commit_high setup h k.1 a made q.1)
    (cond_cases (b.0 == a.0) _ _ (Some made) e)
commit_high setup (Made (entry.Begin t b gateway start limit) ∷ h) k a made e =
    high_stays (attempt_of h a) _ (puts h a) a made.ts (attempt_stays setup (Made (entry.Begin t b gateway start limit)) h k.0 k.1 a) (commit_high setup h k.1 a made e)
commit_high setup (Made (entry.Retry t b cause) ∷ h) k a made e =
    high_stays (attempt_of h a) _ (puts h a) a made.ts (attempt_stays setup (Made (entry.Retry t b cause)) h k.0 k.1 a) (commit_high setup h k.1 a made e)
commit_high setup (x ∷ h) k a made e = commit_high setup h k.1 a made e

-- what was served is at most where the attempt reads or puts
pub record IsUnder (read : Option Attempt) (ps : List PutMade) (a : AttemptId) (at : Ts) : Type 0 where
  pub attempt : Attempt
  pub is_attempt : read ≡ Some attempt
  pub under : ¬ IsBelow (greatest_with attempt.read_at ps) at
  pub owned : at.owner ≡ a.0
  pub positive : 1 ≤ a.0

asked_under : (setup : Setup) (h : History) → KeepsReads setup h → (a : AttemptId) (j : RangeId) (span : Span) (at : Ts) (limit : Option ℕ) → IsAsked setup h a j span at limit
    → IsUnder (attempt_of h a) (puts h a) a at
asked_under setup h k a j span at limit (inl r) =
    let n : IsNumbered _ a r.attempt = is_numbered setup h k a r.attempt r.is_attempt in
    record {
      attempt = r.attempt;
      is_attempt = r.is_attempt;
      under = subst (λ (t : Ts). ¬ IsBelow (greatest_put h a r.attempt.read_at) t) (sym r.at_is) (greatest_not_below r.attempt.read_at (puts h a));
      owned = ap (λ (t : Ts). t.owner) r.at_is ∙ n.owned;
      positive = n.positive;
    }
asked_under setup h k a j span at limit (inr (from, r, none)) =
    let n : IsNumbered _ a r.attempt = is_numbered setup h k a r.attempt r.is_attempt in
    record {
      attempt = r.attempt;
      is_attempt = r.is_attempt;
      under = subst (λ (t : Ts). ¬ IsBelow (greatest_put h a r.attempt.read_at) t) (sym r.at_is) (not_itself (greatest_put h a r.attempt.read_at));
      owned = ap (λ (t : Ts). t.owner) r.at_is ∙ greatest_owner r.attempt.read_at (puts h a) a.0 n.owned (put_owned setup h k a);
      positive = n.positive;
    }

abbrev ReadUnder : History → Read → Type 0
ReadUnder h r = IsUnder (attempt_of h r.attempt) (puts h r.attempt) r.attempt r.at

more_puts : (read : Option Attempt) (ps : List PutMade) (q : PutMade) (a : AttemptId) (at : Ts) → IsUnder read ps a at → IsUnder read (q ∷ ps) a at
more_puts read ps q a at old =
    record {
      attempt = old.attempt;
      is_attempt = old.is_attempt;
      under = le_trans at (greatest_with old.attempt.read_at ps) (greatest_with old.attempt.read_at (q ∷ ps)) old.under (later_left (greatest_with old.attempt.read_at ps) q.ts);
      owned = old.owned;
      positive = old.positive;
    }

under_stays : (read new : Option Attempt) (ps : List PutMade) (a : AttemptId) (at : Ts) → ((att : Attempt) → read ≡ Some att → new ≡ Some att) → IsUnder read ps a at → IsUnder new ps a at
under_stays read new ps a at f old =
    record { attempt = old.attempt; is_attempt = f old.attempt old.is_attempt; under = old.under; owned = old.owned; positive = old.positive }

pub served_under : (setup : Setup) (h : History) → KeepsReads setup h → (s : ServedRead) → WasServed setup s h → IsUnder (attempt_of h s.read.attempt) (puts h s.read.attempt) s.read.attempt s.read.at
served_under setup [] k s w = absurd w
served_under setup (Made (entry.Serve a node range span at limit count by known) ∷ h) k s (inl w) =
    subst (λ (y : ServedRead). ReadUnder h y.read) (sym w) (asked_under setup h k.1 a range span at limit k.0.served.asked)
served_under setup (Made (entry.Append range index (log.Put b start anchor ts key value)) ∷ h) k s (inr w) =
    let a : AttemptId = s.read.attempt in
    let old : IsUnder (attempt_of h a) (puts h a) a s.read.at = served_under setup h k.1 s w in
    ⊎_elim
    (λ q. subst (λ (ps : List PutMade). IsUnder (attempt_of h a) ps a s.read.at) (sym (cond_true (b.0 == a.0) _ (puts h a) q)) (more_puts (attempt_of h a) (puts h a) _ a s.read.at old))
    (λ q. subst (λ (ps : List PutMade). IsUnder (attempt_of h a) ps a s.read.at) (sym (cond_false (b.0 == a.0) _ (puts h a) q)) old)
    (true_or_false (b.0 == a.0))
served_under setup (Made (entry.Begin t b gateway start limit) ∷ h) k s (inr w) =
    let a : AttemptId = s.read.attempt in
    under_stays (attempt_of h a) _ (puts h a) a s.read.at (attempt_stays setup (Made (entry.Begin t b gateway start limit)) h k.0 k.1 a) (served_under setup h k.1 s w)
served_under setup (Made (entry.Retry t b cause) ∷ h) k s (inr w) =
    let a : AttemptId = s.read.attempt in
    under_stays (attempt_of h a) _ (puts h a) a s.read.at (attempt_stays setup (Made (entry.Retry t b cause)) h k.0 k.1 a) (served_under setup h k.1 s w)
served_under setup (x ∷ h) k s (inl w) = absurd w
served_under setup (x ∷ h) k s (inr w) = served_under setup h k.1 s w

-- an attempt's commit isn't below what was served to it
high_over_under : (read : Option Attempt) (ps : List PutMade) (a : AttemptId) (c at : Ts) → IsHigh read ps a c → IsUnder read ps a at → ¬ IsBelow c at
high_over_under read ps a c at x y =
    let same : x.attempt ≡ y.attempt = some_same (sym x.is_attempt ∙ y.is_attempt) in
    le_trans at (greatest_with y.attempt.read_at ps) c y.under (subst (λ (t : Attempt). ¬ IsBelow c (greatest_with t.read_at ps)) same x.high)

pub own_commit : (setup : Setup) (h : History) → KeepsReads setup h → (s : ServedRead) → WasServed setup s h → (made : CommitMade) → commit h s.read.attempt ≡ Some made → ¬ IsBelow made.ts s.read.at
own_commit setup h k s w made e =
    high_over_under (attempt_of h s.read.attempt) (puts h s.read.attempt) s.read.attempt made.ts s.read.at (commit_high setup h k s.read.attempt made e) (served_under setup h k s w)
