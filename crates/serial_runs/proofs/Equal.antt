use Rattle.std.proofs.Common.{◌≡◌, ◌≢◌, ℕ, Bool, true, false, List, [], ◌∷◌, inl, inr, refl, sym, ap, ◌∙◌, true≢false}
use Rattle.std.specs.Prelude.{◌⊎◌, ◌==◌, Option, Some, None}
use Rattle.std.proofs.lemmas.Bool.{eqb-true}
use Rattle.serial_runs.proofs.Numbers.{same_tests}

-- equal or not
number_by : (m n : ℕ) (t : Bool) → (m == n) ≡ t → (m ≡ n) ⊎ (m ≢ n)
number_by m n true e = inl (eqb-true m n e)
number_by m n false e = inr (λ q. true≢false (sym (same_tests m n q) ∙ e))

number_or : (m n : ℕ) → (m ≡ n) ⊎ (m ≢ n)
number_or m n = number_by m n (m == n) refl

cons_by : (x y : ℕ) (xs ys : List ℕ) → (x ≡ y) ⊎ (x ≢ y) → (xs ≡ ys) ⊎ (xs ≢ ys) → (x ∷ xs ≡ y ∷ ys) ⊎ (x ∷ xs ≢ y ∷ ys)
cons_by x y xs ys (inl e) (inl f) = inl (λ i. e i ∷ f i)
cons_by x y xs ys (inr n) q = inr (λ e. n (cc e))
cons_by x y xs ys (inl e) (inr n) = inr (λ f. n (cc f))

bytes_or : (xs ys : List ℕ) → (xs ≡ ys) ⊎ (xs ≢ ys)
bytes_or [] [] = inl refl
bytes_or [] (y ∷ ys) = inr (λ e. cc e)
bytes_or (x ∷ xs) [] = inr (λ e. cc e)
bytes_or (x ∷ xs) (y ∷ ys) = cons_by x y xs ys (number_or x y) (bytes_or xs ys)

some_by : (xs ys : List ℕ) → (xs ≡ ys) ⊎ (xs ≢ ys) → (Some xs ≡ Some ys) ⊎ (Some xs ≢ Some ys)
some_by xs ys (inl e) = inl (ap (λ (z : List ℕ). Some z) e)
some_by xs ys (inr n) = inr (λ e. n (cc e))

pub value_or : (u v : Option (List ℕ)) → (u ≡ v) ⊎ (u ≢ v)
value_or None None = inl refl
value_or None (Some y) = inr (λ e. cc e)
value_or (Some x) None = inr (λ e. cc e)
value_or (Some x) (Some y) = some_by x y (bytes_or x y)
