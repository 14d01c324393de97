use Rattle.std.specs.Prelude.{◌≡◌, ℕ, ◌+◌, Bool, true, if◌then◌else◌, List, [], ◌∷◌, All}
use Rattle.std.specs.Str.{bytes_eq}
use Rattle.descriptors.specs.declared.store.Entry.{Entry}
use Rattle.descriptors.specs.declared.table.Table.{Table}

-- The names of the items that pass the test, with their places, the first item standing at this place.
abbrev pub placed : {X : Type 0} → (X → Bool) → (X → List ℕ) → ℕ → List X → List (List ℕ × ℕ)
placed test name place [] = []
placed test name place (x ∷ xs) = if test x then (name x, place) ∷ placed test name (place + 1) xs else placed test name (place + 1) xs

-- The place of each database by its name, and beside each database the places of its tables by theirs.
pub record IsIndexed (places : List (List ℕ × ℕ)) (entries : List Entry) (tables : List Table) : Type 0 where
  pub databases : places ≡ placed (λ e. true) (λ e. e.database.name) 0 entries
  pub each : All (λ e. e.tables ≡ placed (λ t. bytes_eq e.database.name t.database) (λ t. t.name) 0 tables) entries
