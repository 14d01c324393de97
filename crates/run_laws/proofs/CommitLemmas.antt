use Rattle.std.proofs.Common.{◌≡◌, ℕ, Bool, true, false, Option, Some, [], ◌∷◌, inl, inr, refl, ap, subst}
use Rattle.std.specs.Prelude.{◌==◌, if◌then◌else◌}
use Rattle.std.specs.Option.{option_map}
use Rattle.std.proofs.lemmas.Bool.{eqb-true}
use Rattle.mr_base.specs.declared.ids.AttemptId.{AttemptId}
use Rattle.mr_base.specs.declared.ids.MsgId.{MsgId}
use Rattle.mr_base.specs.declared.ids.RangeId.{RangeId}
use Rattle.mr_base.specs.declared.timestamps.Ts.{Ts}
use Rattle.range_log.specs.declared.entries.Entry.TheVariants as log
use Rattle.range_log.specs.declared.entries.TxnState.{TxnState}
use Rattle.range_log.specs.declared.entries.TxnState.TheVariants as states
use Rattle.journal.specs.declared.entries.JournalEntry.TheVariants as entry
use Rattle.range_rules.specs.Records.{Goes}
use Rattle.run_laws.specs.Lawful.{IsLawful}
use Rattle.run_words.specs.Happened.{IsPlace}
use Rattle.run_words.specs.History.{Item, Made, History}
use Rattle.run_words.specs.Puts.{CommitMade, commit, record_of}
use Rattle.run_words.specs.Setup.{Setup}

abbrev state_of : Option CommitMade → Option TxnState
state_of made = option_map (λ m. states.Committed m.ts) made

-- where the record says that it is committed, it goes nowhere
no_way_on : (old : Option TxnState) (state : TxnState) (made : CommitMade) → old ≡ Some (states.Committed made.ts) → Goes old state → ⊥
no_way_on old state made e g = subst (λ (o : Option TxnState). Goes o state) e g

same : (b a : AttemptId) → (b.0 == a.0) ≡ true → b ≡ a
same b a e = ap (λ (k : ℕ). let c : AttemptId = record { 0 = k } in c) (eqb-true b.0 a.0 e)

-- the record of the attempt of the entry, as that of the attempt in question
goes_of : (h : History) (b a : AttemptId) (state : TxnState) → Goes (record_of h b) state → (b.0 == a.0) ≡ true → Goes (record_of h a) state
goes_of h b a state g e = subst (λ (c : AttemptId). Goes (record_of h c) state) (same b a e) g

committed_here : (t : Bool) (j : RangeId) (via : Option MsgId) (ts : Ts) (old : Option CommitMade) (said : Option TxnState) (made : CommitMade)
    → (old ≡ Some made → said ≡ Some (states.Committed made.ts))
    → (if t then Some (record { range = j; ts = ts; via = via }) else old) ≡ Some made
    → (if t then Some (states.Committed ts) else said) ≡ Some (states.Committed made.ts)
committed_here true j via ts old said made f e = ap state_of e
committed_here false j via ts old said made f e = f e

changed_here : (t : Bool) (state : TxnState) (said : Option TxnState) (made : CommitMade) → (t ≡ true → Goes said state)
    → said ≡ Some (states.Committed made.ts) → (if t then Some state else said) ≡ Some (states.Committed made.ts)
changed_here true state said made g e = absurd (no_way_on said state made e (g refl))
changed_here false state said made g e = e

-- the record of an attempt that committed says so
pub commit_is_record : (setup : Setup) (h : History) (a : AttemptId) (made : CommitMade) → IsLawful setup h → commit h a ≡ Some made
    → record_of h a ≡ Some (states.Committed made.ts)
commit_is_record setup [] a made l e = ap state_of e
commit_is_record setup (Made (entry.Append j index (log.State b (states.Committed ts))) ∷ h) a made l e =
    committed_here (b.0 == a.0) j _ ts (commit h a) (record_of h a) made (commit_is_record setup h a made l.1) e
commit_is_record setup (Made (entry.Append j index (log.State b (states.Pending ts))) ∷ h) a made l e =
    changed_here (b.0 == a.0) (states.Pending ts) (record_of h a) made (goes_of h b a (states.Pending ts) l.0.records.goes)
    (commit_is_record setup h a made l.1 e)
commit_is_record setup (Made (entry.Append j index (log.State b (states.Aborted by))) ∷ h) a made l e =
    changed_here (b.0 == a.0) (states.Aborted by) (record_of h a) made (goes_of h b a (states.Aborted by) l.0.records.goes)
    (commit_is_record setup h a made l.1 e)
commit_is_record setup (x ∷ h) a made l e = commit_is_record setup h a made l.1 e

kept_here : (t : Bool) (j : RangeId) (via : Option MsgId) (ts : Ts) (old : Option CommitMade) (said : Option TxnState) (made : CommitMade)
    → (t ≡ true → Goes said (states.Committed ts)) → said ≡ Some (states.Committed made.ts) → old ≡ Some made
    → (if t then Some (record { range = j; ts = ts; via = via }) else old) ≡ Some made
kept_here true j via ts old said made g s e = absurd (no_way_on said (states.Committed ts) made s (g refl))
kept_here false j via ts old said made g s e = e

-- a commit stays over one more item
stays_over : (setup : Setup) (x : Item) (h : History) (a : AttemptId) (made : CommitMade) → IsLawful setup (x ∷ h) → commit h a ≡ Some made
    → commit (x ∷ h) a ≡ Some made
stays_over setup (Made (entry.Append j index (log.State b (states.Committed ts)))) h a made l e =
    kept_here (b.0 == a.0) j _ ts (commit h a) (record_of h a) made (goes_of h b a (states.Committed ts) l.0.records.goes)
    (commit_is_record setup h a made l.1 e) e
stays_over setup x h a made l e = e

abbrev IsCommit : AttemptId → CommitMade → History → Type 0
IsCommit a made h = commit h a ≡ Some made

-- a commit stays
pub commit_stays : (setup : Setup) (h older : History) (a : AttemptId) (made : CommitMade) → IsLawful setup h → IsPlace older h
    → commit older a ≡ Some made → commit h a ≡ Some made
commit_stays setup [] older a made l p e = subst (IsCommit a made) p e
commit_stays setup (x ∷ h) older a made l (inl p) e = subst (IsCommit a made) p e
commit_stays setup (x ∷ h) older a made l (inr p) e = stays_over setup x h a made l (commit_stays setup h older a made l.1 p e)
