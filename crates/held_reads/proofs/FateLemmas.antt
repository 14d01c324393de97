use Rattle.std.proofs.Common.{◌≡◌, ◌≢◌, List, [], ◌∷◌, inl, inr, refl, sym, ◌∙◌}
use Rattle.std.specs.Prelude.{◌⊎◌}
use Rattle.mr_base.specs.declared.ids.AttemptId.{AttemptId}
use Rattle.mr_base.specs.declared.messages.Fate.{Fate}
use Rattle.mr_base.specs.declared.messages.Known.{Known}
use Rattle.mvcc_range.specs.Answer.{TellsFate}
use Rattle.held_reads.proofs.Licenses.{same_attempt}

-- a list tells one fate of an attempt
pub tells_one : (ks : List Known) (a : AttemptId) (f g : Fate) → TellsFate ks a f → TellsFate ks a g → f ≡ g
tells_one [] a f g p q = absurd p
tells_one (k ∷ ks) a f g (inl p) (inl q) = tells_one ks a f g p q
tells_one (k ∷ ks) a f g (inl p) (inr q) = absurd (q.2 f p)
tells_one (k ∷ ks) a f g (inr p) (inl q) = absurd (p.2 g q)
tells_one (k ∷ ks) a f g (inr p) (inr q) = sym p.1 ∙ q.1

abbrev Tells : List Known → AttemptId → Type 0
Tells ks a = ((f : Fate) × TellsFate ks a f) ⊎ ((f : Fate) → ¬ TellsFate ks a f)

first_tells : (k : Known) (ks : List Known) (a : AttemptId) → Tells ks a → (k.attempt ≡ a) ⊎ (k.attempt ≢ a) → Tells (k ∷ ks) a
first_tells k ks a (inl (f, t)) same = inl (f, inl t)
first_tells k ks a (inr none) (inl e) = inl (k.fate, inr (e, refl, none))
first_tells k ks a (inr none) (inr n) = inr (none_told)
  where
    none_told : (f : Fate) → ¬ TellsFate (k ∷ ks) a f
    none_told f (inl t) = none f t
    none_told f (inr t) = n t.0

-- or none
pub tells_or_not : (ks : List Known) (a : AttemptId) → ((f : Fate) × TellsFate ks a f) ⊎ ((f : Fate) → ¬ TellsFate ks a f)
tells_or_not [] a = inr (λ f t. t)
tells_or_not (k ∷ ks) a = first_tells k ks a (tells_or_not ks a) (same_attempt k.attempt a)
