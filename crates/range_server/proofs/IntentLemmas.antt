-- The intents of a log, and the fates that a request carries.
use Rattle.std.proofs.Common.{◌≡◌, ◌≢◌, ◌⊎◌, ◌∙◌, ℕ, Bool, true, false, nat_eq, List, [], ◌∷◌, Option, None, Some, fold, inl, inr, refl, sym, ap, subst, arith}
use Rattle.std.proofs.lemmas.Bool.Decides.{nat_tests}
use Rattle.mr_base.specs.declared.ids.AttemptId.{AttemptId}
use Rattle.mr_base.specs.declared.messages.Fate.{Fate}
use Rattle.mr_base.specs.declared.messages.Fate.TheVariants as fates
use Rattle.mr_base.specs.declared.messages.Known.{Known}
use Rattle.mr_base.specs.declared.timestamps.Ts.{Ts}
use Rattle.mvcc_range.specs.Answer.{TellsFate}
use Rattle.mvcc_range.specs.Lookups.{IsIntentAt, laid_as}
use Rattle.mvcc_range.specs.declared.key_state.Intent.{Intent}
use Rattle.range_log.specs.Facts.{HasIntent, Laid}
use Rattle.range_log.specs.declared.entries.Entry.{Entry}
use Rattle.range_log.specs.declared.entries.Entry.TheVariants as log
use Rattle.range_rules.specs.Resolves.{Decides, HasIntentOf}
use Rattle.range_server.specs.Puts.{Put, put_asked}
use Rattle.range_server.specs.Ways.{IsTold, IsWay, fate_with, last_fate}
use Rattle.range_server.specs.declared.puts.Way.TheVariants as ways

-- one intent stands at a key
pub one_intent : (key : List ℕ) (i j : Laid) (entries : List Entry) → HasIntent key i entries → HasIntent key j entries → i ≡ j
one_intent key i j [] h k = absurd h
one_intent key i j (log.Put attempt start anchor ts k value ∷ older) (inl h) (inl m) = h.1 ∙ sym m.1
one_intent key i j (log.Put attempt start anchor ts k value ∷ older) (inl h) (inr m) = absurd (m.0 h.0)
one_intent key i j (log.Put attempt start anchor ts k value ∷ older) (inr h) (inl m) = absurd (h.0 m.0)
one_intent key i j (log.Put attempt start anchor ts k value ∷ older) (inr h) (inr m) = one_intent key i j older h.1 m.1
one_intent key i j (log.Resolve attempt k fate ∷ older) h m = one_intent key i j older h.0 m.0
one_intent key i j (log.Lease lease ∷ older) h m = one_intent key i j older h m
one_intent key i j (log.State attempt state ∷ older) h m = one_intent key i j older h m
one_intent key i j (log.Close ts ∷ older) h m = one_intent key i j older h m
one_intent key i j (log.Load ts k value ∷ older) h m = one_intent key i j older h m

-- after it was resolved none stands there
pub none_after : (key : List ℕ) (other : AttemptId) (fate : Fate) (entries : List Entry) → HasIntentOf other key entries
    → (i : Laid) → ¬ HasIntent key i (log.Resolve other key fate ∷ entries)
none_after key other fate entries (there, stands, of) i h =
    let same : there ≡ i = one_intent key there i entries stands h.0 in
    h.1 refl (sym of ∙ ap (λ (l : Laid). l.attempt) same)

-- a list tells one fate of an attempt
pub told_once : (a : AttemptId) (f g : Fate) (known : List Known) → TellsFate known a f → TellsFate known a g → f ≡ g
told_once a f g [] h k = absurd h
told_once a f g (x ∷ known) (inl h) (inl k) = told_once a f g known h k
told_once a f g (x ∷ known) (inl h) (inr k) = absurd (k.2 f h)
told_once a f g (x ∷ known) (inr h) (inl k) = absurd (h.2 g k)
told_once a f g (x ∷ known) (inr h) (inr k) = sym h.1 ∙ k.1

module _ (a : AttemptId) where
  -- what a walk over a list has found: the fate that it tells, or what was found before
  abbrev IsFound : Option Fate → List Known → Type 0
  IsFound found known =
      ((f : Fate) × TellsFate known a f × (fold (fate_with a) found known ≡ Some f))
      ⊎ (((f : Fate) → ¬ TellsFate known a f) × (fold (fate_with a) found known ≡ found))

  of_or_not : (k : Known) (found : Option Fate) → ((k.attempt ≡ a) × (fate_with a found k ≡ Some k.fate)) ⊎ ((k.attempt ≢ a) × (fate_with a found k ≡ found))
  of_or_not k found = when (nat_eq k.attempt.0 a.0) refl
    where
      when : (b : Bool) → nat_eq k.attempt.0 a.0 ≡ b → ((k.attempt ≡ a) × (fate_with a found k ≡ Some k.fate)) ⊎ ((k.attempt ≢ a) × (fate_with a found k ≡ found))
      when true h = let n : k.attempt.0 ≡ a.0 = grind (arith, nat_tests) in inl ((λ i. record { 0 = n i }), rw h)
      when false h = inr ((λ e. let n : k.attempt.0 ≡ a.0 = ap (λ (x : AttemptId). x.0) e in grind (arith, nat_tests)), rw h)

  found_in : (known : List Known) (found : Option Fate) → IsFound found known
  found_in [] found = inr ((λ f h. h), refl)
  found_in (k ∷ known) found = elim (found_in known (fate_with a found k)) as (λ _. IsFound found (k ∷ known)) [
    | inl (f, t, e) ↦ inl (f, inl t, e)
    | inr (untold, e) ↦ elim (of_or_not k found) as (λ _. IsFound found (k ∷ known)) [
      | inl (same, s) ↦ inl (k.fate, inr (same, refl, untold), e ∙ s)
      | inr (other, s) ↦ inr ((λ f h. elim h [ inl x ↦ untold f x | inr x ↦ other x.0 ]), e ∙ s)
    ]
  ]

  -- the last fate of the attempt in a list is the one that the list tells
  pub told_is : (known : List Known) → IsTold known a (last_fate a known)
  told_is known = elim (found_in known None) as (λ _. IsTold known a (last_fate a known)) [
    | inl (f, t, e) ↦ rw e t
    | inr (untold, e) ↦ rw e untold
  ]

-- an attempt is another or not, by its number
pub same_attempt : (a b : AttemptId) (r : Bool) → r ≡ nat_eq a.0 b.0 → r ≡ true → a ≡ b
same_attempt a b r t h = let n : a.0 ≡ b.0 = grind (arith, nat_tests) in λ i. record { 0 = n i }

pub other_attempt : (a b : AttemptId) (r : Bool) → r ≡ nat_eq a.0 b.0 → r ≡ false → a ≢ b
other_attempt a b r t h = λ e. let n : a.0 ≡ b.0 = ap (λ (x : AttemptId). x.0) e in grind (arith, nat_tests)

-- an attempt whose intent isn't the one that stands has none
pub not_of : (entries : List Entry) (key : List ℕ) (there : Intent) (a : AttemptId) → IsIntentAt entries key (Some there) → there.attempt ≢ a
    → ¬ HasIntentOf a key entries
not_of entries key there a at apart x = apart (ap (λ (l : Laid). l.attempt) (one_intent key (laid_as there at.0) x.0 entries at.1 x.1) ∙ x.2)

-- what stands at the key of a put, by the intent that stands there
module _ (entries : List Entry) (asked : Intent) (key : List ℕ) (value : Option (List ℕ)) (known : List Known) where
  abbrev asks : Put
  asks = put_asked asked key value known

  pub way_none : IsIntentAt entries key None → IsWay entries asks ways.Clear
  way_none none = λ i h. absurd (none i h)

  module _ (there : Intent) (at : IsIntentAt entries key (Some there)) where
    pub way_own : there.attempt ≡ asked.attempt → IsWay entries asks ways.Clear
    way_own own = λ i h. ap (λ (l : Laid). l.attempt) (one_intent key i (laid_as there at.0) entries h at.1) ∙ own

    pub way_settled : (fate : Fate) → there.attempt ≢ asked.attempt → last_fate there.attempt known ≡ Some fate → Decides fate
        → IsWay entries asks (ways.Settled there.attempt fate)
    way_settled fate apart e decides =
        let told : TellsFate known there.attempt fate = subst (λ (o : Option Fate). IsTold known there.attempt o) e (told_is there.attempt known) in
        ((laid_as there at.0, at.1, refl), apart, told, decides)

    pub way_pushed : (ts : Ts) → there.attempt ≢ asked.attempt → last_fate there.attempt known ≡ Some (fates.Pushed ts)
        → IsWay entries asks (ways.Blocked there)
    way_pushed ts apart e =
        let told : TellsFate known there.attempt (fates.Pushed ts) = subst (λ (o : Option Fate). IsTold known there.attempt o) e (told_is there.attempt known) in
        (at.0, (at.1, apart, (λ f t d. subst (λ (g : Fate). Decides g) (told_once there.attempt f (fates.Pushed ts) known t told) d)))

    pub way_untold : there.attempt ≢ asked.attempt → last_fate there.attempt known ≡ None → IsWay entries asks (ways.Blocked there)
    way_untold apart e =
        let no : (f : Fate) → ¬ TellsFate known there.attempt f = subst (λ (o : Option Fate). IsTold known there.attempt o) e (told_is there.attempt known) in
        (at.0, (at.1, apart, (λ f t d. no f t)))
