use Rattle.std.specs.Prelude.{ℕ, Bool, false, not, ◌||◌, List, [], ◌∷◌, filter, if◌then◌else◌}
use Rattle.std.specs.List.{list_any}
use Rattle.std.specs.Str.{bytes_eq}

-- Whether a name stands among these.
abbrev pub has_name : List (List ℕ) → List ℕ → Bool
has_name names name = list_any (bytes_eq name) names

-- Whether some name stands twice among these.
abbrev pub has_twice : List (List ℕ) → Bool
has_twice [] = false
has_twice (name ∷ names) = has_name names name || has_twice names

-- The other names.
abbrev pub without : List ℕ → List (List ℕ) → List (List ℕ)
without name names = filter (λ n. not (bytes_eq name n)) names

-- The first item that passes the test changed, the others as they are.
abbrev pub changed : {X : Type 0} → (X → Bool) → (X → X) → List X → List X
changed test change [] = []
changed test change (x ∷ xs) = if test x then change x ∷ xs else x ∷ changed test change xs
