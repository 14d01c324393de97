use Rattle.std.proofs.Common.{◌≡◌, ℕ, Bool, true, false, cond, ◌<◌, inl, inr, refl, sym, ap, ◌∙◌, arith, true≢false}
use Rattle.std.specs.Prelude.{◌⊎◌, ◌==◌, Option, Some, None}
use Rattle.std.proofs.lemmas.Bool.Decides.{nat_tests}
use Rattle.std.proofs.lemmas.Bool.{eqb-true}
use Rattle.mr_base.specs.declared.ids.AttemptId.{AttemptId}
use Rattle.mr_base.specs.declared.ids.RangeId.{RangeId}
use Rattle.mr_base.specs.declared.ids.TxnId.{TxnId}

-- a choice by a test
pub cond_cases : {X : Type 0} (t : Bool) (x y v : X) → cond t x y ≡ v → ((t ≡ true) × (x ≡ v)) ⊎ ((t ≡ false) × (y ≡ v))
cond_cases true x y v e = inl (refl, e)
cond_cases false x y v e = inr (refl, e)

pub cond_true : {X : Type 0} (t : Bool) (x y : X) → t ≡ true → cond t x y ≡ x
cond_true true x y e = refl
cond_true false x y e = absurd (true≢false (sym e))

pub cond_false : {X : Type 0} (t : Bool) (x y : X) → t ≡ false → cond t x y ≡ y
cond_false true x y e = absurd (true≢false e)
cond_false false x y e = refl

pub true_or_false : (t : Bool) → (t ≡ true) ⊎ (t ≡ false)
true_or_false true = inl refl
true_or_false false = inr refl

-- numbers that differ are told apart
pub told_apart : (m n : ℕ) → n < m → (m == n) ≡ false
told_apart m n h = grind (arith, nat_tests, h)

pub itself : (k : ℕ) → (k == k) ≡ true
itself k = grind arith

abbrev attempt_at : ℕ → AttemptId
attempt_at k = record { 0 = k }

abbrev range_at : ℕ → RangeId
range_at k = record { 0 = k }

abbrev txn_at : ℕ → TxnId
txn_at k = record { 0 = k }

pub by_number : (a b : AttemptId) → a.0 ≡ b.0 → a ≡ b
by_number a b e = ap attempt_at e

pub attempts_same : (a b : AttemptId) → (a.0 == b.0) ≡ true → a ≡ b
attempts_same a b e = by_number a b (eqb-true a.0 b.0 e)

pub ranges_same : (a b : RangeId) → (a.0 == b.0) ≡ true → a ≡ b
ranges_same a b e = ap range_at (eqb-true a.0 b.0 e)

pub txns_same : (a b : TxnId) → (a.0 == b.0) ≡ true → a ≡ b
txns_same a b e = ap txn_at (eqb-true a.0 b.0 e)

pub same_tests : (m n : ℕ) → m ≡ n → (m == n) ≡ true
same_tests m n e = ap (λ (k : ℕ). m == k) (sym e) ∙ itself m

pub some_same : {X : Type 0} {u v : X} → Some u ≡ Some v → u ≡ v
some_same e = cc

pub not_none : {X : Type 0} {v : X} → ◌≡◌ {A = Option X} None (Some v) → ⊥
not_none e = cc
