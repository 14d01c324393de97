-- Names with their places.
use Rattle.std.specs.Prelude.{ℕ, ◌+◌, List, [], ◌∷◌, Option, bytes_eq}
use Rattle.std.specs.List.{position_from}

-- The place of a name among others, from 0 on.
abbrev pub place_of : List (List ℕ) → List ℕ → Option ℕ
place_of names name = position_from (bytes_eq name) 0 names

-- Names with places that rise from n on.
abbrev pub numbered : ℕ → List (List ℕ) → List (List ℕ × ℕ)
numbered n [] = []
numbered n (name ∷ names) = (name, n) ∷ numbered (n + 1) names
