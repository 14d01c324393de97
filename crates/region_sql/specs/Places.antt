-- Where a text that doesn't fit is refused: just after the longest run of its tokens with which the
-- form goes on.
use Rattle.std.specs.Prelude.{◌≡◌, ℕ, ◌+◌, List, [], ◌∷◌, ◌++◌, length, Some}
use Rattle.region_sql.specs.declared.tokens.Token.{Token}
use Rattle.region_sql.specs.Forms.{Form, Fits}
use Rattle.region_sql.specs.Lexing.{after_blanks, token_at, Splits}

-- Some tokens that fit the form begin with these.
abbrev pub CanGoOn : {A : Type 0} → Form A → List Token → Type 0
CanGoOn {A = A} f run = (more : List Token) × (v : A) × Fits f v (run ++ more)

-- Up to the place the text is a run of tokens with which the form goes on, and with one more it doesn't.
abbrev pub IsPlace : {A : Type 0} → Form A → List ℕ → ℕ → Type 0
IsPlace f text at = (run : List Token) × (rest : List ℕ) × Splits text run rest × (at + length rest ≡ length text) × CanGoOn f run
    × ((t : Token) (after : List ℕ) → token_at (after_blanks rest) ≡ Some (t, after) → CanGoOn f (run ++ t ∷ []) → ⊥)
