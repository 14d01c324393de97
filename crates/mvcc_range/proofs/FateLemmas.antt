-- The fates that a read carries.
use Rattle.std.proofs.Common.{◌≡◌, ◌≢◌, ◌⊎◌, Bool, true, false, cond, nat_eq, List, [], ◌∷◌, Option, None, Some, MatchOption, inl, inr, refl, ap, arith, fold, subst, sym}
use Rattle.std.proofs.lemmas.Bool.Decides.{nat_tests}
use Rattle.mr_base.specs.declared.ids.AttemptId.{AttemptId}
use Rattle.mr_base.specs.declared.messages.Fate.{Fate}
use Rattle.mr_base.specs.declared.messages.Known.{Known}
use Rattle.mvcc_range.specs.Answer.{TellsFate}
use Rattle.mvcc_range.specs.KeyView.{last_fate}

id_or_not : (x a : AttemptId) → ((nat_eq x.0 a.0 ≡ true) × (x ≡ a)) ⊎ ((nat_eq x.0 a.0 ≡ false) × (x ≢ a))
id_or_not x a = when (nat_eq x.0 a.0) refl
  where
    same : x.0 ≡ a.0 → x ≡ a
    same h = λ i. record { 0 = h i }

    when : (b : Bool) → nat_eq x.0 a.0 ≡ b → ((nat_eq x.0 a.0 ≡ true) × (x ≡ a)) ⊎ ((nat_eq x.0 a.0 ≡ false) × (x ≢ a))
    when true h = inl (h, same (grind (arith, nat_tests)))
    when false h = inr (h, λ e. let n : x.0 ≡ a.0 = ap (λ (y : AttemptId). y.0) e in grind (arith, nat_tests))

pub id_same : (x a : AttemptId) → nat_eq x.0 a.0 ≡ true → x ≡ a
id_same x a h = elim (id_or_not x a) as (λ _. x ≡ a) [ inl k ↦ k.1 | inr k ↦ let f = k.0 in cc ]

pub id_other : (x a : AttemptId) → nat_eq x.0 a.0 ≡ false → x ≢ a
id_other x a h = elim (id_or_not x a) as (λ _. x ≢ a) [ inl k ↦ let f = k.0 in cc | inr k ↦ k.1 ]

-- a test that fails doesn't hold
pub not_true : {P : Type 0} (b : Bool) → b ≡ false → (P → b ≡ true) → ¬ P
not_true b f h p = let t = h p in cc

-- the fate is told and no other, or none is
abbrev pub IsTheFate : List Known → AttemptId → Option Fate → Type 0
IsTheFate known a o =
    MatchOption o ((f : Fate) → ¬ TellsFate known a f) (λ f. TellsFate known a f × ((g : Fate) → TellsFate known a g → g ≡ f))

module _ (a : AttemptId) where
  abbrev step : Option Fate → Known → Option Fate
  step last k = cond (nat_eq k.attempt.0 a.0) (Some k.fate) last

  -- a fold gives what it began with, or the last
  abbrev Folded : Option Fate → List Known → Type 0
  Folded acc known =
      (((fold step acc known) ≡ acc) × ((f : Fate) → ¬ TellsFate known a f))
      ⊎ ((f : Fate) × ((fold step acc known) ≡ Some f) × TellsFate known a f × ((g : Fate) → TellsFate known a g → g ≡ f))

  folded : (acc : Option Fate) (known : List Known) → Folded acc known
  folded acc [] = inl (refl, λ f h. h)
  folded acc (k ∷ ks) = when (folded (step acc k) ks) (id_or_not k.attempt a)
    where
      when : Folded (step acc k) ks → ((nat_eq k.attempt.0 a.0 ≡ true) × (k.attempt ≡ a)) ⊎ ((nat_eq k.attempt.0 a.0 ≡ false) × (k.attempt ≢ a)) → Folded acc (k ∷ ks)
      when (inr (f, e, t, u)) is = inr (f, e, inl t, λ g h. elim h as (λ _. g ≡ f) [ inl x ↦ u g x | inr x ↦ absurd (x.2 f t) ])
      when (inl (e, none)) (inl is) =
          let this : step acc k ≡ Some k.fate = rw is.0 refl in
          inr (k.fate, subst (λ (o : Option Fate). fold step (step acc k) ks ≡ o) this e, inr (is.1, refl, none), λ g h. elim h as (λ _. g ≡ k.fate) [ inl x ↦ absurd (none g x) | inr x ↦ sym x.1 ])
      when (inl (e, none)) (inr is) =
          let this : step acc k ≡ acc = rw is.0 refl in
          inl (subst (λ (o : Option Fate). fold step (step acc k) ks ≡ o) this e, λ f h. elim h [ inl x ↦ none f x | inr x ↦ is.1 x.0 ])

-- of several fates of an attempt the last is told
pub fate_told : (known : List Known) (a : AttemptId) → IsTheFate known a (last_fate a known)
fate_told known a = when (folded a None known)
  where
    when : Folded a None known → IsTheFate known a (last_fate a known)
    when (inl (e, none)) = subst (λ (o : Option Fate). IsTheFate known a o) (sym e) none
    when (inr (f, e, t, u)) = subst (λ (o : Option Fate). IsTheFate known a o) (sym e) (t, u)

pub fate_is : (known : List Known) (a : AttemptId) (f : Fate) → TellsFate known a f → last_fate a known ≡ Some f
fate_is known a f t = when (last_fate a known) (fate_told known a)
  where
    when : (o : Option Fate) → IsTheFate known a o → o ≡ Some f
    when None n = absurd (n f t)
    when (Some g) h = ap (λ (x : Fate). Some x) (sym (h.1 f t))

pub fate_tells : (known : List Known) (a : AttemptId) (f : Fate) → last_fate a known ≡ Some f → TellsFate known a f × ((g : Fate) → TellsFate known a g → g ≡ f)
fate_tells known a f is = subst (λ (o : Option Fate). IsTheFate known a o) is (fate_told known a)

pub fate_none : (known : List Known) (a : AttemptId) → last_fate a known ≡ None → (f : Fate) → ¬ TellsFate known a f
fate_none known a is = subst (λ (o : Option Fate). IsTheFate known a o) is (fate_told known a)

pub some_fate : {f g : Fate} → Some f ≡ Some g → f ≡ g
some_fate h = cc
