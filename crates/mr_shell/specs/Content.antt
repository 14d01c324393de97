use Rattle.std.specs.Prelude.{◌≡◌, ◌≢◌, ◌⊎◌, ◌<◌, ◌≤◌, ℕ, List, [], ◌∷◌, ◌++◌, All, Option, length}
use Rattle.std.specs.Io.KnownBytes.{IsAtEnd}

-- A byte that isn't the line feed.
abbrev pub IsWithinLine : ℕ → Type 0
IsWithinLine b = b ≢ 10

-- What stands before a line feed is this line: one carriage return there belongs to the line's end.
abbrev pub IsContent : (before line : List ℕ) → Type 0
IsContent before line = (before ≡ line ++ 13 ∷ []) ⊎ ((before ≡ line) × ((front : List ℕ) → before ≢ front ++ 13 ∷ []))

-- Bytes are exactly these lines, the newest first, each with its end.
abbrev pub AreLines : (bytes : List ℕ) → (lines : List (List ℕ)) → Type 0
AreLines bytes [] = bytes ≡ []
AreLines bytes (line ∷ lines) =
    (front before : List ℕ) × AreLines front lines × All IsWithinLine before × IsContent before line × (bytes ≡ front ++ (before ++ 10 ∷ []))

-- Bytes are these lines, and then a rest without a line feed.
pub record IsCut (bytes : List ℕ) (lines : List (List ℕ)) (rest : List ℕ) : Type 0 where
  pub front : List ℕ
  pub ended : AreLines front lines
  pub within : All IsWithinLine rest
  pub whole : bytes ≡ front ++ rest

-- A source has ended: what stands behind the last line feed is a line too, if anything does.
abbrev pub with_last : (rest : List ℕ) → (lines : List (List ℕ)) → List (List ℕ)
with_last [] lines = lines
with_last (b ∷ bs) lines = (b ∷ bs) ∷ lines

-- The bytes taken of a source that has ended are these lines.
pub record AreAllLines (taken : List ℕ) (left : Option (List ℕ)) (lines : List (List ℕ)) : Type 0 where
  pub ended : List (List ℕ)
  pub rest : List ℕ
  pub cut : IsCut taken ended rest
  pub last : lines ≡ with_last rest ended
  pub source : IsAtEnd left

-- No more bytes than the largest scenario has. (This project's profile.)
abbrev pub IsWithinLimit : (taken : List ℕ) → Type 0
IsWithinLimit taken = length taken ≤ 16777216

-- Bytes are these lines, and then less than a piece of 65,536 bytes: the end of the newest line came with the last
-- piece.
pub record EndWithPiece (taken : List ℕ) (lines : List (List ℕ)) : Type 0 where
  pub front : List ℕ
  pub ahead : List ℕ
  pub ended : AreLines front lines
  pub whole : taken ≡ front ++ ahead
  pub piece : length ahead < 65536

-- Bytes are these lines and a rest without a line feed, and then a piece at most.
pub record StopWithPiece (taken : List ℕ) (lines : List (List ℕ)) : Type 0 where
  pub front : List ℕ
  pub rest : List ℕ
  pub ahead : List ℕ
  pub cut : IsCut front lines rest
  pub whole : taken ≡ front ++ ahead
  pub piece : length ahead ≤ 65536

-- No piece was taken after the one with the end of the newest of these lines, or the source ended there.
abbrev pub AreTakenFor : (taken : List ℕ) → (left : Option (List ℕ)) → (lines : List (List ℕ)) → Type 0
AreTakenFor taken left lines = EndWithPiece taken lines ⊎ AreAllLines taken left lines

-- Each whole line that was taken before the last piece is one of these lines.
abbrev pub AreTakenBefore : (taken : List ℕ) → (left : Option (List ℕ)) → (lines : List (List ℕ)) → Type 0
AreTakenBefore taken left lines = StopWithPiece taken lines ⊎ AreAllLines taken left lines
