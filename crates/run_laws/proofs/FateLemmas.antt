use Rattle.std.proofs.Common.{◌≡◌, ℕ, Bool, true, false, Option, Some, None, [], ◌∷◌, inl, inr, refl, ap, subst, arith}
use Rattle.std.specs.Prelude.{◌==◌, if◌then◌else◌}
use Rattle.std.specs.Option.{option_map}
use Rattle.std.proofs.lemmas.Bool.{eqb-true}
use Rattle.mr_base.specs.Timestamps.{IsBelow}
use Rattle.mr_base.specs.declared.ids.AttemptId.{AttemptId}
use Rattle.mr_base.specs.declared.ids.TxnId.{TxnId}
use Rattle.mr_base.specs.declared.messages.Fate.{Fate}
use Rattle.mr_base.specs.declared.messages.Fate.TheVariants as fates
use Rattle.mr_base.specs.declared.timestamps.Ts.{Ts}
use Rattle.range_log.specs.declared.entries.Entry.TheVariants as log
use Rattle.range_log.specs.declared.entries.TxnState.{TxnState}
use Rattle.range_log.specs.declared.entries.TxnState.TheVariants as states
use Rattle.journal.specs.declared.entries.JournalEntry.TheVariants as entry
use Rattle.range_rules.specs.Records.{Goes, IsAbovePending}
use Rattle.run_laws.specs.Lawful.{IsLawful}
use Rattle.run_laws.specs.Staying.{HoldsOf, IsPast}
use Rattle.run_words.specs.History.{Item, Made, History}
use Rattle.run_words.specs.Puts.{fate_of, record_of}
use Rattle.run_words.specs.Relations.{Stood}
use Rattle.run_words.specs.Setup.{Setup}

not_below_itself : (a : Ts) → ¬ IsBelow a a
not_below_itself a e = grind (arith, e)

not_below_through : (a b c : Ts) → ¬ IsBelow a b → ¬ IsBelow b c → ¬ IsBelow a c
not_below_through a b c f g e = grind (arith, e, f, g)

below_through : (a b c : Ts) → ¬ IsBelow a b → IsBelow a c → IsBelow b c
below_through a b c f g = grind (arith, f, g)

none_shown : (f : Fate) → None ≡ Some f → ⊥
none_shown f e = cc

abbrev or_else : Fate → Option Fate → Fate
or_else f None = f
or_else f (Some g) = g

-- what a record shows holds of it
shown_holds : (state : Option TxnState) (f : Fate) → option_map fate_of state ≡ Some f → HoldsOf f state
shown_holds None f e = absurd (none_shown f e)
shown_holds (Some (states.Pending ts)) f e =
    subst (λ (g : Fate). HoldsOf g (Some (states.Pending ts))) (ap (or_else f) e) (not_below_itself ts)
shown_holds (Some (states.Committed ts)) f e =
    subst (λ (g : Fate). HoldsOf g (Some (states.Committed ts))) (ap (or_else f) e) refl
shown_holds (Some (states.Aborted by)) f e =
    subst (λ (g : Fate). HoldsOf g (Some (states.Aborted by))) (ap (or_else f) e) (by, refl)

-- that a record changes as it may
abbrev Changes : Option TxnState → TxnState → Type 0
Changes old (states.Committed at) = Goes old (states.Committed at) × IsAbovePending old at
Changes old (states.Pending ts) = Goes old (states.Pending ts)
Changes old (states.Aborted by) = Goes old (states.Aborted by)

goes_by : (old : Option TxnState) (new : TxnState) → Changes old new → Goes old new
goes_by old (states.Committed at) c = c.0
goes_by old (states.Pending ts) c = c
goes_by old (states.Aborted by) c = c

past_on : (ts : Ts) (old : Option TxnState) (new : TxnState) → Changes old new → IsPast ts old → IsPast ts (Some new)
past_on ts None new c p = absurd p
past_on ts (Some (states.Pending y)) (states.Pending z) c p = not_below_through z y ts c p
past_on ts (Some (states.Pending y)) (states.Committed at) c p = below_through y ts at p c.1
past_on ts (Some (states.Pending y)) (states.Aborted by) c p = tt
past_on ts (Some (states.Committed at)) new c p = absurd (goes_by (Some (states.Committed at)) new c)
past_on ts (Some (states.Aborted by)) new c p = absurd (goes_by (Some (states.Aborted by)) new c)

holds_on : (f : Fate) (old : Option TxnState) (new : TxnState) → Changes old new → HoldsOf f old → HoldsOf f (Some new)
holds_on (fates.Committed ts) old new c p = absurd (subst (λ (o : Option TxnState). Goes o new) p (goes_by old new c))
holds_on fates.Aborted old new c p = absurd (subst (λ (o : Option TxnState). Goes o new) p.1 (goes_by old new c))
holds_on (fates.Pushed ts) old new c p = past_on ts old new c p

changed : (t : Bool) (f : Fate) (old : Option TxnState) (new : TxnState) → (t ≡ true → Changes old new) → HoldsOf f old
    → HoldsOf f (if t then Some new else old)
changed true f old new c p = holds_on f old new (c refl) p
changed false f old new c p = p

same : (b a : AttemptId) → (b.0 == a.0) ≡ true → b ≡ a
same b a e = ap (λ (k : ℕ). let c : AttemptId = record { 0 = k } in c) (eqb-true b.0 a.0 e)

changes_of : (h : History) (a b : AttemptId) (new : TxnState) → Changes (record_of h a) new → (a.0 == b.0) ≡ true → Changes (record_of h b) new
changes_of h a b new c e = subst (λ (x : AttemptId). Changes (record_of h x) new) (same a b e) c

-- what holds of a record holds over one more item
holds_over : (setup : Setup) (y : Item) (h : History) (b : AttemptId) (f : Fate) → IsLawful setup (y ∷ h) → HoldsOf f (record_of h b)
    → HoldsOf f (record_of (y ∷ h) b)
holds_over setup (Made (entry.Append j index (log.State a (states.Committed ts)))) h b f l p =
    changed (a.0 == b.0) f (record_of h b) (states.Committed ts)
    (changes_of h a b (states.Committed ts) (l.0.records.goes, l.0.records.by.changes.above)) p
holds_over setup (Made (entry.Append j index (log.State a (states.Pending ts)))) h b f l p =
    changed (a.0 == b.0) f (record_of h b) (states.Pending ts) (changes_of h a b (states.Pending ts) l.0.records.goes) p
holds_over setup (Made (entry.Append j index (log.State a (states.Aborted by)))) h b f l p =
    changed (a.0 == b.0) f (record_of h b) (states.Aborted by) (changes_of h a b (states.Aborted by) l.0.records.goes) p
holds_over setup y h b f l p = p

-- what stood holds
pub what_stood_holds : (setup : Setup) (h : History) (t : TxnId) (b : AttemptId) (f : Fate) → IsLawful setup h → Stood t b f h
    → HoldsOf f (record_of h b)
what_stood_holds setup [] t b f l s = absurd s
what_stood_holds setup (y ∷ h) t b f l (inl s) = shown_holds (record_of (y ∷ h) b) f s.1
what_stood_holds setup (y ∷ h) t b f l (inr s) = holds_over setup y h b f l (what_stood_holds setup h t b f l.1 s)
