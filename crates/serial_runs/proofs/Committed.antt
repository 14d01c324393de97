use Rattle.std.proofs.Common.{◌≡◌, ◌≢◌, ℕ, List, [], ◌∷◌, inl, inr, ⊎_elim, refl, sym, ap, ◌∙◌, subst}
use Rattle.std.specs.Prelude.{◌==◌, Some}
use Rattle.std.specs.List.{Contains}
use Rattle.journal.specs.declared.entries.JournalEntry.TheVariants as entry
use Rattle.mr_base.specs.Timestamps.{IsBelow}
use Rattle.mr_base.specs.declared.ids.AttemptId.{AttemptId}
use Rattle.mr_base.specs.declared.ids.RangeId.{RangeId}
use Rattle.mr_base.specs.declared.timestamps.Ts.{Ts}
use Rattle.range_log.specs.declared.entries.Entry.TheVariants as log
use Rattle.range_log.specs.declared.entries.TxnState.TheVariants as states
use Rattle.run_laws.proofs.CommitLemmas.{commit_stays}
use Rattle.run_laws.proofs.LawfulLemmas.{older_lawful, permitted_at}
use Rattle.run_laws.proofs.PutLemmas.{commit_is_above_puts}
use Rattle.run_laws.specs.Beginnings.{IsSoundSetup}
use Rattle.run_laws.specs.Decided.{Decided, Decides, WasDecided}
use Rattle.run_laws.specs.Lawful.{IsLawful, IsPermitted}
use Rattle.run_laws.specs.Records.{WasAnswered}
use Rattle.run_words.proofs.HappenedLemmas.{place_happened}
use Rattle.run_words.specs.Attempts.{Attempt}
use Rattle.run_words.specs.Happened.{IsPlace}
use Rattle.run_words.specs.History.{History, Item, Made}
use Rattle.run_words.specs.Messages.{handled}
use Rattle.run_words.specs.Puts.{CommitMade, PutMade, commit, puts}
use Rattle.run_words.specs.Setup.{Setup}
use Rattle.run_words.proofs.MemberLemmas.{contains_first}
use Rattle.serial_runs.proofs.Decisions.{IsDecision, deciding}
use Rattle.serial_runs.proofs.Effects.{txn_known}
use Rattle.serial_runs.proofs.Places.{IsDecidedAt, older_of}
use Rattle.serial_runs.proofs.Numbers.{attempts_same, cond_cases, cond_false, cond_true, itself, not_none, some_same, true_or_false}
use Rattle.serial_runs.proofs.Since.{put_since}
use Rattle.serial_runs.proofs.TsOrder.{le_trans}

abbrev pub committing : RangeId → ℕ → AttemptId → Ts → Item
committing j index a c = Made (entry.Append j index (log.State a (states.Committed c)))

-- where an attempt committed
pub record IsCommitted (h : History) (a : AttemptId) (ts : Ts) : Type 0 where
  pub range : RangeId
  pub index : ℕ
  pub older : History
  pub place : IsPlace (committing range index a ts ∷ older) h

committed_before : (x : Item) (h : History) (a : AttemptId) (ts : Ts) → IsCommitted h a ts → IsCommitted (x ∷ h) a ts
committed_before x h a ts c = record { range = c.range; index = c.index; older = c.older; place = inr c.place }

pub committed_at : (h : History) (a : AttemptId) (made : CommitMade) → commit h a ≡ Some made → IsCommitted h a made.ts
committed_at [] a made e = absurd (not_none e)
committed_at (Made (entry.Append range index (log.State b (states.Committed c))) ∷ h) a made e =
    ⊎_elim
    (λ (q : ((b.0 == a.0) ≡ _) × _).
    let same : a ≡ b = sym (attempts_same b a q.0) in
    let at : made.ts ≡ c = sym (ap (λ (m : CommitMade). m.ts) (some_same q.1)) in
    record { range = range; index = index; older = h; place = inl (λ i. committing range index (same i) (at i) ∷ h) })
    (λ (q : ((b.0 == a.0) ≡ _) × _). committed_before (committing range index b c) h a made.ts (committed_at h a made q.1))
    (cond_cases (b.0 == a.0) _ _ (Some made) e)
committed_at (x ∷ h) a made e = committed_before x h a made.ts (committed_at h a made e)

-- a commit that was made stands
pub commit_stands : (setup : Setup) (h : History) (a : AttemptId) (j : RangeId) (index : ℕ) (c : Ts) (older : History) → IsLawful setup h → IsPlace (committing j index a c ∷ older) h
    → commit h a ≡ Some (record { range = j; ts = c; via = handled older })
commit_stands setup h a j index c older l p =
    commit_stays setup h (committing j index a c ∷ older) a (record { range = j; ts = c; via = handled older }) l p
    (cond_true (a.0 == a.0) _ (commit older a) (itself a.0))

-- after it the attempt puts nothing
pub puts_settled : (setup : Setup) (h : History) (a : AttemptId) (j : RangeId) (index : ℕ) (c : Ts) (older : History) → IsLawful setup h → IsPlace (committing j index a c ∷ older) h
    → puts h a ≡ puts older a
puts_settled setup [] a j index c older l p = absurd (cc p)
puts_settled setup (Made (entry.Append range i (log.Put b start anchor ts key value)) ∷ h) a j index c older l (inr p) =
    ⊎_elim
    (λ q. absurd (not_none (sym l.0.laid.undecided ∙ (ap (λ (y : AttemptId). commit h y) (attempts_same b a q) ∙ commit_stands setup h a j index c older l.1 p))))
    (λ q. cond_false (b.0 == a.0) _ (puts h a) q ∙ puts_settled setup h a j index c older l.1 p)
    (true_or_false (b.0 == a.0))
puts_settled setup (x ∷ h) a j index c older l (inl p) = subst (λ (g : History). puts g a ≡ puts older a) p refl
puts_settled setup (x ∷ h) a j index c older l (inr p) = puts_settled setup h a j index c older l.1 p

-- a commit decides a transaction, which has no answer before it
pub record IsCommitDecision (setup : Setup) (h : History) (a : AttemptId) (ts : Ts) : Type 0 where
  pub decided : Decided
  pub at : IsDecidedAt setup h decided
  pub ts_is : decided.ts ≡ ts
  pub range : RangeId
  pub index : ℕ
  pub is : at.item ≡ committing range index a ts
  pub unanswered : ¬ WasAnswered decided.txn at.older

pub commit_decision : (setup : Setup) (h : History) → IsLawful setup h → (a : AttemptId) (made : CommitMade) → commit h a ≡ Some made → IsCommitDecision setup h a made.ts
commit_decision setup h l a made e =
    let at : IsCommitted h a made.ts = committed_at h a made e in
    let x : Item = committing at.range at.index a made.ts in
    let p : IsPermitted setup at.older x = permitted_at setup h x at.older l at.place in
    let d : Decided = record { txn = p.determined.attempt.txn; ts = made.ts; setting = p.determined.setting } in
    let decides : Decides setup d x at.older = (txn_known at.older a p.determined.attempt p.determined.is_attempt, refl, p.determined.is_setting) in
    let older : IsLawful setup at.older = older_lawful setup h at.older l (older_of x at.older h at.place) in
    let dec : (b : AttemptId) × IsDecision setup x at.older d b = deciding setup x at.older d p older decides in
    let same : p.records.by.attempt ≡ p.determined.attempt = some_same (sym p.records.by.is_attempt ∙ p.determined.is_attempt) in
    record {
      decided = d;
      at = record { item = x; older = at.older; place = at.place; decides = decides; permitted = p; lawful = older; attempt = dec.0; decision = dec.1 };
      ts_is = refl;
      range = at.range;
      index = at.index;
      is = refl;
      unanswered = subst (λ (y : Attempt). ¬ WasAnswered y.txn at.older) same p.records.by.unanswered;
    }

pub commit_decides : (setup : Setup) (h : History) → IsLawful setup h → (a : AttemptId) (made : CommitMade) → commit h a ≡ Some made
    → (d : Decided) × WasDecided setup d h × (d.ts ≡ made.ts)
commit_decides setup h l a made e =
    let c : IsCommitDecision setup h a made.ts = commit_decision setup h l a made e in
    (c.decided, place_happened (Decides setup c.decided) h c.at.item c.at.older c.at.place c.at.decides, c.ts_is)

first_of : (ps : List PutMade) → ps ≢ [] → (p : PutMade) × Contains ps p
first_of [] n = absurd (n refl)
first_of (p ∷ ps) n = (p, contains_first p ps)

-- and isn't below a schema change
pub commit_since : (setup : Setup) → IsSoundSetup setup → (changed : Ts) → setup.schema ≡ Some changed → (h : History) → IsLawful setup h → (a : AttemptId) (made : CommitMade)
    → commit h a ≡ Some made → ¬ IsBelow made.ts changed
commit_since setup sound changed s h l a made e =
    let at : IsCommitted h a made.ts = committed_at h a made e in
    let p : IsPermitted setup at.older (committing at.range at.index a made.ts) = permitted_at setup h (committing at.range at.index a made.ts) at.older l at.place in
    let one : (q : PutMade) × Contains (puts at.older a) q = first_of (puts at.older a) p.records.by.has_put in
    let here : Contains (puts h a) one.0 =
    subst (λ (ps : List PutMade). Contains ps one.0) (sym (puts_settled setup h a at.range at.index made.ts at.older l at.place)) one.1 in
    le_trans changed one.0.ts made.ts (put_since setup sound changed s h l a one.0 here) (commit_is_above_puts setup h a made one.0 l e here)
