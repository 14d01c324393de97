use Rattle.std.specs.Prelude.{◌≡◌, ◌⊎◌, ⊤, [], ◌∷◌}
use Rattle.run_words.specs.History.{Item, History}

-- Two words by which all is said that looks back over a history. A predicate here is of an item and of what
-- happened before it.

-- It holds of some item.
abbrev pub Happened : (Item → History → Type 0) → History → Type 0
Happened P [] = ⊥
Happened P (x ∷ h) = P x h ⊎ Happened P h

-- It holds of every item.
abbrev pub Always : (Item → History → Type 0) → History → Type 0
Always P [] = ⊤
Always P (x ∷ h) = P x h × Always P h

-- A history once stood so: it is this one, or the older part from some item on.
abbrev pub IsPlace : History → History → Type 0
IsPlace older [] = older ≡ []
IsPlace older (x ∷ h) = (older ≡ x ∷ h) ⊎ IsPlace older h
