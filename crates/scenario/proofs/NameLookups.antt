-- Looking names up by their places.
use Rattle.std.proofs.Common.{◌≡◌, ℕ, suc, ◌+◌, ◌<◌, ◌≤◌, ◌^◌, Bool, cond, List, [], ◌∷◌, ◌++◌, Option, Some, length, length-append, refl, ap, ◌∙◌, arith}
use Rattle.std.specs.List.{position_from}
use Rattle.std.specs.Map.{lookup}
use Rattle.std.specs.Str.{bytes_eq}
use Rattle.scenario.specs.NamePlaces.{numbered, place_of}
use Rattle.scenario.proofs.PlaceLemmas.{found_place}

-- one more name is one more pair
pub numbered-push : (n : ℕ) (xs : List (List ℕ)) (x : List ℕ) → numbered n (xs ++ x ∷ []) ≡ numbered n xs ++ (x, n + length xs) ∷ []
numbered-push n [] x = let e : n ≡ n + 0 = omega arith in ap (λ (k : ℕ). (x, k) ∷ []) e
numbered-push n (y ∷ xs) x =
    let e : n + 1 + length xs ≡ n + suc (length xs) = omega arith in
    ap (λ (t : List (List ℕ × ℕ)). (y, n) ∷ t) (numbered-push (n + 1) xs x ∙ ap (λ (k : ℕ). numbered (n + 1) xs ++ (x, k) ∷ []) e)

-- the pair that is found has the place of the name
pub lookup-numbered : (test : List ℕ → Bool) (n : ℕ) (xs : List (List ℕ)) → lookup test (numbered n xs) ≡ position_from test n xs
lookup-numbered test n [] = refl
lookup-numbered test n (x ∷ xs) = ap (cond (test x) (Some n)) (lookup-numbered test (n + 1) xs)

-- the pairs are those of the names, with one name more at the end
pub pushed_with_place : (places new : List (List ℕ × ℕ)) (names items : List (List ℕ)) (name key : List ℕ) (place : ℕ) → places ≡ numbered 0 names → new ≡ places ++ (key, place) ∷ []
    → key ≡ name → place ≡ length names → items ≡ names ++ name ∷ [] → new ≡ numbered 0 items
pushed_with_place places new names items name key place p n k l i =
    let h : numbered 0 (names ++ name ∷ []) ≡ numbered 0 names ++ (name, 0 + length names) ∷ [] = numbered-push 0 names name in
    let z : 0 + length names ≡ length names = omega arith in
    cc

-- the place that is found among the pairs is that among the names
pub place_found : (result : Option ℕ) (places : List (List ℕ × ℕ)) (items names : List (List ℕ)) (name : List ℕ) → result ≡ lookup (bytes_eq name) places → places ≡ numbered 0 items → items ≡ names → result ≡ place_of names name
place_found result places items names name r p i = r ∙ ap (lookup (bytes_eq name)) p ∙ lookup-numbered (bytes_eq name) 0 items ∙ ap (λ (ns : List (List ℕ)). place_of ns name) i

-- a place that is found is small, as the names are few
pub small_place : (items names : List (List ℕ)) (name : List ℕ) (place : ℕ) → items ≡ names → length items ≤ 2 ^ 32 → place_of names name ≡ Some place → place < 2 ^ 32
small_place items names name place i few at = omega (arith, (found_place names name place at).0, few, ap length i)

-- one name more, whose place is a number of 32 bits, leaves them few
pub few_more : (items new names : List (List ℕ)) (name : List ℕ) (place : ℕ) → items ≡ names → place ≡ length names → place < 2 ^ 32 → new ≡ items ++ name ∷ [] → length new ≤ 2 ^ 32
few_more items new names name place i p small n = omega (arith, p, small, ap length i, ap length n, length-append items (name ∷ []))
