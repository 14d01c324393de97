-- Lists at a place: what stands there, before it and after it.
use Rattle.std.proofs.Common.{◌≡◌, ℕ, zero, suc, ◌+◌, ◌<◌, ◌≤◌, List, [], ◌∷◌, ◌++◌, length, take, drop, refl, ap, arith, add-one, slice_get}
use Rattle.std.specs.Prelude.{Some, None}
use Rattle.std.specs.List.{remove}
use Rattle.std.specs.Option.{option_to_list}
use Rattle.local_search.specs.Searching.{with_first}

pub slice_get-drop : {X : Type 0} (xs : List X) (n : ℕ) → slice_get xs n ≡ slice_get (drop n xs) 0
slice_get-drop [] zero = refl
slice_get-drop [] (suc n) = refl
slice_get-drop (x ∷ xs) zero = refl
slice_get-drop (x ∷ xs) (suc n) = slice_get-drop xs n

drop-suc : {X : Type 0} (xs rest : List X) (x : X) (n : ℕ) → drop n xs ≡ x ∷ rest → drop (suc n) xs ≡ rest
drop-suc [] rest x zero e = cc
drop-suc [] rest x (suc n) e = cc
drop-suc (y ∷ ys) rest x zero e = cc
drop-suc (y ∷ ys) rest x (suc n) e = drop-suc ys rest x n e

pub drop_next : {X : Type 0} (xs rest : List X) (x : X) (n : ℕ) → drop n xs ≡ x ∷ rest → drop (n + 1) xs ≡ rest
drop_next xs rest x n e = rw add-one (drop-suc xs rest x n e)

take-suc_at : {X : Type 0} (xs : List X) (n : ℕ) (x : X) → slice_get xs n ≡ Some x → take (suc n) xs ≡ take n xs ++ x ∷ []
take-suc_at [] n x e = cc
take-suc_at (y ∷ ys) zero x e = let same : y ≡ x = cc in ap (λ z. z ∷ []) same
take-suc_at (y ∷ ys) (suc n) x e = ap (λ zs. y ∷ zs) (take-suc_at ys n x e)

pub take_next : {X : Type 0} (xs : List X) (n : ℕ) (x : X) → slice_get xs n ≡ Some x → take (n + 1) xs ≡ take n xs ++ x ∷ []
take_next xs n x e = rw add-one (take-suc_at xs n x e)

pub none_is_past : {X : Type 0} (xs : List X) (n : ℕ) → slice_get xs n ≡ None → length xs ≤ n
none_is_past [] n e = omega arith
none_is_past (x ∷ xs) zero e = cc
none_is_past (x ∷ xs) (suc n) e = let rest : length xs ≤ n = none_is_past xs n e in omega arith

-- A list parts at each of its places.
pub record PartsAt {X : Type 0} (xs : List X) (i : ℕ) : Type 0 where
  pub here : X
  pub is : slice_get xs i ≡ Some here
  pub whole : xs ≡ take i xs ++ (here ∷ drop (suc i) xs)

pub parts_at : {X : Type 0} (xs : List X) (i : ℕ) → i < length xs → PartsAt xs i
parts_at [] i within = absurd (omega arith)
parts_at (x ∷ xs) zero within = record { here = x; is = refl; whole = refl }
parts_at (x ∷ xs) (suc i) within =
    let rest : PartsAt xs i = parts_at xs i (omega arith) in
    record { here = rest.here; is = rest.is; whole = ap (λ ys. x ∷ ys) rest.whole }

pub with_first_is : {X : Type 0} (xs : List X) (i : ℕ) (x : X) → slice_get xs i ≡ Some x →
    with_first i xs ≡ x ∷ (take i xs ++ drop (suc i) xs)
with_first_is xs i x e = ap (λ o. option_to_list o ++ remove xs i) e
