use Rattle.std.proofs.Common.{◌≡◌, ℕ, Bool, true, false, Option, Some, None, List, [], ◌∷◌, ⊎_elim, refl, sym, ap, ◌∙◌, subst, arith, rules}
use Rattle.std.specs.Prelude.{◌==◌, if◌then◌else◌}
use Rattle.std.specs.List.{Contains}
use Rattle.std.proofs.lemmas.Bool.{eqb-true}
use Rattle.std.proofs.lemmas.Bool.Decides.{nat_tests}
use Rattle.mr_base.specs.Timestamps.{IsBelow, later, ts_lt}
use Rattle.mr_base.specs.declared.ids.AttemptId.{AttemptId}
use Rattle.mr_base.specs.declared.ids.MsgId.{MsgId}
use Rattle.mr_base.specs.declared.ids.RangeId.{RangeId}
use Rattle.mr_base.specs.declared.timestamps.Ts.{Ts}
use Rattle.range_log.specs.declared.entries.Entry.TheVariants as log
use Rattle.range_log.specs.declared.entries.TxnState.TheVariants as states
use Rattle.journal.specs.declared.entries.JournalEntry.TheVariants as entry
use Rattle.run_laws.specs.Lawful.{IsLawful}
use Rattle.run_words.proofs.MemberLemmas.{contains_cases, contains_none}
use Rattle.run_words.specs.History.{Made, History}
use Rattle.run_words.specs.Puts.{CommitMade, PutMade, commit, greatest_with, puts}
use Rattle.run_words.specs.Setup.{Setup}

tested_below : (a b : Ts) → ts_lt a b ≡ true → IsBelow a b
tested_below a b t = grind (arith, nat_tests, rules)

tested_not_below : (a b : Ts) → ts_lt a b ≡ false → ¬ IsBelow a b
tested_not_below a b t below = grind (arith, nat_tests, rules)

not_below_through : (a b c : Ts) → ¬ IsBelow a b → ¬ IsBelow b c → ¬ IsBelow a c
not_below_through a b c p q below = grind (arith, p, q, below)

not_below_after : (a b : Ts) → IsBelow a b → ¬ IsBelow b a
not_below_after a b p q = grind (arith, p, q)

itself_not_below : (a : Ts) → ¬ IsBelow a a
itself_not_below a p = grind (arith, p)

-- the later of two is below neither
later_first : (a b : Ts) (t : Bool) → ts_lt a b ≡ t → ¬ IsBelow (if t then b else a) a
later_first a b true e = not_below_after a b (tested_below a b e)
later_first a b false e = itself_not_below a

later_second : (a b : Ts) (t : Bool) → ts_lt a b ≡ t → ¬ IsBelow (if t then b else a) b
later_second a b true e = itself_not_below b
later_second a b false e = tested_not_below a b e

-- the greatest of a timestamp and of puts is below none of them
greatest_above : (ts : Ts) (ps : List PutMade) (put : PutMade) → Contains ps put → ¬ IsBelow (greatest_with ts ps) put.ts
greatest_above ts [] put c = absurd (contains_none put c)
greatest_above ts (p ∷ ps) put c =
    ⊎_elim
    (λ same. subst (λ (q : PutMade). ¬ IsBelow (later (greatest_with ts ps) p.ts) q.ts) same (later_second (greatest_with ts ps) p.ts (ts_lt (greatest_with ts ps) p.ts) refl))
    (λ rest. not_below_through (later (greatest_with ts ps) p.ts) (greatest_with ts ps) put.ts (later_first (greatest_with ts ps) p.ts (ts_lt (greatest_with ts ps) p.ts) refl) (greatest_above ts ps put rest))
    (contains_cases p put ps c)

abbrev ts_of : Ts → Option CommitMade → Ts
ts_of ts None = ts
ts_of ts (Some made) = made.ts

none_made : (made : CommitMade) → None ≡ Some made → ⊥
none_made made e = cc

same : (b a : AttemptId) → (b.0 == a.0) ≡ true → b ≡ a
same b a e = ap (λ (k : ℕ). let c : AttemptId = record { 0 = k } in c) (eqb-true b.0 a.0 e)

committed_here : (t : Bool) (j : RangeId) (via : Option MsgId) (ts : Ts) (old : Option CommitMade) (made : CommitMade) (put : PutMade)
    → (t ≡ true → ¬ IsBelow ts put.ts) → (old ≡ Some made → ¬ IsBelow made.ts put.ts)
    → (if t then Some (record { range = j; ts = ts; via = via }) else old) ≡ Some made → ¬ IsBelow made.ts put.ts
committed_here true j via ts old made put f g e = subst (λ (x : Ts). ¬ IsBelow x put.ts) (ap (ts_of ts) e) (f refl)
committed_here false j via ts old made put f g e = g e

put_here : (t : Bool) (old : Option CommitMade) (new put : PutMade) (ps : List PutMade) (made : CommitMade) → (t ≡ true → old ≡ None)
    → old ≡ Some made → (Contains ps put → ¬ IsBelow made.ts put.ts) → Contains (if t then new ∷ ps else ps) put → ¬ IsBelow made.ts put.ts
put_here true old new put ps made f e g c = absurd (none_made made (sym (f refl) ∙ e))
put_here false old new put ps made f e g c = g c

abbrev IsNotCommitted : History → AttemptId → Type 0
IsNotCommitted h a = commit h a ≡ None

-- at the greatest of its puts the commit is below none
at_greatest : (h : History) (b a : AttemptId) (ts read : Ts) (put : PutMade) → Contains (puts h a) put → b ≡ a → ts ≡ greatest_with read (puts h b)
    → ¬ IsBelow ts put.ts
at_greatest h b a ts read put c e at =
    subst (λ (x : Ts). ¬ IsBelow x put.ts) (sym (subst (λ (x : AttemptId). ts ≡ greatest_with read (puts h x)) e at)) (greatest_above read (puts h a) put c)

-- a commit is above the puts of its attempt
pub commit_is_above_puts : (setup : Setup) (h : History) (a : AttemptId) (made : CommitMade) (put : PutMade) → IsLawful setup h
    → commit h a ≡ Some made → Contains (puts h a) put → ¬ IsBelow made.ts put.ts
commit_is_above_puts setup [] a made put l e c = absurd (none_made made e)
commit_is_above_puts setup (Made (entry.Append j index (log.State b (states.Committed ts))) ∷ h) a made put l e c =
    committed_here (b.0 == a.0) j _ ts (commit h a) made put
    (λ s. at_greatest h b a ts l.0.records.by.attempt.read_at put c (same b a s) l.0.records.by.at_is)
    (λ old. commit_is_above_puts setup h a made put l.1 old c) e
commit_is_above_puts setup (Made (entry.Append j index (log.Put b start anchor ts key value)) ∷ h) a made put l e c =
    put_here (b.0 == a.0) (commit h a) _ put (puts h a) made
    (λ s. subst (IsNotCommitted h) (same b a s) l.0.laid.undecided) e (λ old. commit_is_above_puts setup h a made put l.1 e old) c
commit_is_above_puts setup (x ∷ h) a made put l e c = commit_is_above_puts setup h a made put l.1 e c
