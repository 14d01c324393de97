-- Forms: what a grammar is made of, which tokens fit a form, and the value that they then have.
use Rattle.std.specs.Prelude.{◌≡◌, ℕ, ◌⊎◌, List, [], ◌∷◌, ◌++◌, Option, Some, None}
use Rattle.region_sql.specs.declared.tokens.Token.{Token}
use Rattle.region_sql.specs.Tokens.{kind_of}

-- A form whose tokens have a value of type A.
pub data Form : Type 0 → Type 1 where
  -- one token of these kinds
  one : {A : Type 0} → List ℕ → (Token → Option A) → Form A
  -- a form, and another value of it
  as_value : {A B : Type 0} → Form A → (A → B) → Form B
  -- one form, then the other
  both : {A B C : Type 0} → Form A → Form B → (A → B → C) → Form C
  -- one form or the other
  either : {A : Type 0} → Form A → Form A → Form A
  -- a form that may be left out
  maybe : {A : Type 0} → Form A → Form (Option A)
  -- a form once or more, with a token of this kind between each two
  listed : {A : Type 0} → ℕ → Form A → Form (List A)
  -- the same, where such a token may stand after the last one too
  ended : {A : Type 0} → ℕ → Form A → Form (List A)

-- One value or more, each with the tokens of its own, and a token of one kind between each two.
abbrev pub AreListed : {A : Type 0} → ℕ → (A → List Token → Type 0) → List A → List Token → Type 0
AreListed kind P [] ts = ⊥
AreListed kind P (v ∷ []) ts = P v ts
AreListed kind P (v ∷ w ∷ vs) ts = (front : List Token) × (mark : Token) × (back : List Token)
    × (ts ≡ front ++ mark ∷ back) × (kind_of mark ≡ kind) × P v front × AreListed kind P (w ∷ vs) back

-- The same, where a token of that kind may stand after the last value too.
abbrev pub AreEnded : {A : Type 0} → ℕ → (A → List Token → Type 0) → List A → List Token → Type 0
AreEnded kind P [] ts = ⊥
AreEnded kind P (v ∷ []) ts = P v ts ⊎ ((front : List Token) × (mark : Token) × (ts ≡ front ++ mark ∷ []) × (kind_of mark ≡ kind) × P v front)
AreEnded kind P (v ∷ w ∷ vs) ts = (front : List Token) × (mark : Token) × (back : List Token)
    × (ts ≡ front ++ mark ∷ back) × (kind_of mark ≡ kind) × P v front × AreEnded kind P (w ∷ vs) back

-- The tokens fit the form and have this value.
abbrev pub Fits : {A : Type 0} → Form A → A → List Token → Type 0
Fits (one kinds take) v ts = (t : Token) × (ts ≡ t ∷ []) × (take t ≡ Some v)
Fits (as_value {A} f h) v ts = (a : A) × (v ≡ h a) × Fits f a ts
Fits (both {A} {B} f g h) v ts = (a : A) × (b : B) × (front : List Token) × (back : List Token)
    × (v ≡ h a b) × (ts ≡ front ++ back) × Fits f a front × Fits g b back
Fits (either f g) v ts = Fits f v ts ⊎ Fits g v ts
Fits (maybe f) v ts = (elim v [ None ↦ ts ≡ [] | Some a ↦ Fits f a ts ])
Fits (listed kind f) v ts = AreListed kind (λ a us. Fits f a us) v ts
Fits (ended kind f) v ts = AreEnded kind (λ a us. Fits f a us) v ts
