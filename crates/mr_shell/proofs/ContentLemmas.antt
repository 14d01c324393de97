-- Bytes that come one after the other, as lines.
use Rattle.std.proofs.Common.{◌≡◌, ◌≢◌, ℕ, List, [], ◌∷◌, ◌++◌, Option, refl, ap, sym, ◌∙◌, append_assoc, append-nil}
use Rattle.std.specs.Prelude.{◌⊎◌, All}
use Rattle.std.proofs.lemmas.List.Elements.{All-append, All-cons, All-nil}
use Rattle.std.specs.Io.KnownBytes.{IsAtEnd}
use Rattle.mr_shell.specs.Content.{AreLines, AreAllLines, IsContent, IsCut, IsWithinLine}

-- Bytes begin with these lines.
pub record BeginsWith (bytes : List ℕ) (lines : List (List ℕ)) : Type 0 where
  pub front : List ℕ
  pub beyond : List ℕ
  pub ended : AreLines front lines
  pub whole : bytes ≡ front ++ beyond

-- The bytes taken of a source, of which these are left, begin with these lines.
abbrev pub AreFirstLines : (taken : List ℕ) → (left : Option (List ℕ)) → (lines : List (List ℕ)) → Type 0
AreFirstLines taken left lines = BeginsWith taken lines ⊎ AreAllLines taken left lines

all_and : (P : ℕ → Type 0) (xs : List ℕ) (b : ℕ) → All P xs → P b → All P (xs ++ b ∷ [])
all_and P xs b h k = All-append P xs (b ∷ []) h (All-cons P b [] k (All-nil P))

-- a byte within a line
pub cut_more : (taken : List ℕ) (lines : List (List ℕ)) (rest : List ℕ) (b : ℕ) → b ≢ 10 → IsCut taken lines rest → IsCut (taken ++ b ∷ []) lines (rest ++ b ∷ [])
cut_more taken lines rest b other cut =
    record { front = cut.front; ended = cut.ended; within = all_and IsWithinLine rest b cut.within other; whole = ap (λ (l : List ℕ). l ++ b ∷ []) cut.whole ∙ append_assoc cut.front rest (b ∷ []) }

-- a line feed ends a line
pub lines_more : (taken : List ℕ) (lines : List (List ℕ)) (rest line : List ℕ) → IsContent rest line → IsCut taken lines rest → AreLines (taken ++ 10 ∷ []) (line ∷ lines)
lines_more taken lines rest line content cut =
    (cut.front, rest, cut.ended, cut.within, content, ap (λ (l : List ℕ). l ++ 10 ∷ []) cut.whole ∙ append_assoc cut.front rest (10 ∷ []))

pub cut_ended : (taken : List ℕ) (lines : List (List ℕ)) → AreLines taken lines → IsCut taken lines []
cut_ended taken lines h = record { front = taken; ended = h; within = All-nil IsWithinLine; whole = sym (append-nil taken) }

-- bytes begin with their lines, also once more bytes come
pub begins : (taken : List ℕ) (lines : List (List ℕ)) (rest : List ℕ) → IsCut taken lines rest → BeginsWith taken lines
begins taken lines rest cut = record { front = cut.front; beyond = rest; ended = cut.ended; whole = cut.whole }

pub begins_whole : (taken : List ℕ) (lines : List (List ℕ)) → AreLines taken lines → BeginsWith taken lines
begins_whole taken lines h = record { front = taken; beyond = []; ended = h; whole = sym (append-nil taken) }

pub begins_more : (taken more : List ℕ) (lines : List (List ℕ)) → BeginsWith taken lines → BeginsWith (taken ++ more) lines
begins_more taken more lines h =
    record { front = h.front; beyond = h.beyond ++ more; ended = h.ended; whole = ap (λ (l : List ℕ). l ++ more) h.whole ∙ append_assoc h.front h.beyond more }

pub all_with_last : (taken : List ℕ) (left : Option (List ℕ)) (lines : List (List ℕ)) (rest : List ℕ) → rest ≢ [] → IsCut taken lines rest → IsAtEnd left → AreAllLines taken left (rest ∷ lines)
all_with_last taken left lines [] some cut at_end = absurd (some refl)
all_with_last taken left lines (b ∷ bs) some cut at_end = record { ended = lines; rest = b ∷ bs; cut = cut; last = refl; source = at_end }
