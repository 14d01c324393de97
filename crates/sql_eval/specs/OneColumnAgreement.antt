use Rattle.std.specs.Prelude.{◌≡◌, ◌⊎◌, ◌↔◌, ℕ, List, [], ◌∷◌, Option, Some, None}
use Rattle.mr_base.specs.Spans.{InSpan}
use Rattle.mr_base.specs.declared.spans.Pair.{Pair}
use Rattle.mr_base.specs.declared.spans.Span.{Span}
use Rattle.row_locality.specs.OneColumnDatabases.{Database, pairs_of}

abbrev pub pair : List ℕ → List ℕ → Pair
pair key value = record { key = key; value = value }

-- One of these is the pair.
abbrev pub HasPair : Pair → List Pair → Type 0
HasPair p [] = ⊥
HasPair p (q ∷ qs) = (q ≡ p) ⊎ HasPair p qs

-- A database holds a pair.
abbrev pub Holds : Database → List ℕ → List ℕ → Type 0
Holds d key value = HasPair (pair key value) (pairs_of d)

-- A database agrees with what was served of a span: in it the same pairs are there.
abbrev pub AgreesOn : Database → Span → (List ℕ → List ℕ → Type 0) → Type 0
AgreesOn d span IsServed = (key value : List ℕ) → InSpan span key → (Holds d key value ↔ IsServed key value)

-- From one database to another a key gets a value, or loses it.
abbrev pub IsChange : Database → Database → List ℕ → Option (List ℕ) → Type 0
IsChange before after key (Some value) = Holds after key value × (¬ Holds before key value)
IsChange before after key None = (value : List ℕ) × Holds before key value × ((other : List ℕ) → ¬ Holds after key other)
