use Rattle.std.specs.Prelude.{◌≡◌, ◌≢◌, ◌⊎◌, ℕ, List, [], ◌∷◌, ◌++◌, Option, Some, None, length}
use Rattle.mr_shell.specs.Content.{AreAllLines, AreLines, IsCut, IsWithinLimit}
use Rattle.mr_shell.specs.Course.{Course, Tells}

-- The status that a scenario gives, where every call succeeds.

-- A scenario isn't too large, and its lines have no fault.
abbrev pub IsFaultless : Course → (bytes : List ℕ) → Type 0
IsFaultless c bytes =
    IsWithinLimit bytes × (lines : List (List ℕ)) × AreAllLines bytes (Some []) lines × (state : c.State) × Tells c lines state

-- A scenario begins with these lines, and they end within the limit.
abbrev pub EndWithinLimit : (bytes : List ℕ) → List (List ℕ) → Type 0
EndWithinLimit bytes lines =
    ((front beyond : List ℕ) × AreLines front lines × (bytes ≡ front ++ beyond) × IsWithinLimit front)
    ⊎ (AreAllLines bytes (Some []) lines × IsWithinLimit bytes)

-- A line that ends within the limit is the first with a fault, whatever follows it.
abbrev pub IsFaulty : Course → (bytes : List ℕ) → Type 0
IsFaulty c bytes =
    (line : List ℕ) × (lines : List (List ℕ)) × EndWithinLimit bytes (line ∷ lines) × (state : c.State) × Tells c lines state
    × (fault : ℕ) × c.HasFault state line fault

-- A scenario is too large, and no line that ends within the limit has a fault.
abbrev pub IsTooLarge : Course → (bytes : List ℕ) → Type 0
IsTooLarge c bytes =
    (first beyond rest : List ℕ) × (bytes ≡ first ++ beyond) × (length first ≡ 16777216) × (beyond ≢ [])
    × (lines : List (List ℕ)) × IsCut first lines rest × (state : c.State) × Tells c lines state

-- The status that the bytes that a source holds give, where they are told.
abbrev pub LinesGive : Course → (known : Option (List ℕ)) → (status : ℕ) → Type 0
LinesGive c None status = ⊥
LinesGive c (Some bytes) status =
    ((status ≡ 0) × IsFaultless c bytes) ⊎ (((status ≡ 1) × IsFaulty c bytes) ⊎ ((status ≡ 7) × IsTooLarge c bytes))
