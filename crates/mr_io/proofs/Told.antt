-- What is told of bytes, piece after piece.
use Rattle.std.proofs.Common.{◌≡◌, ℕ, ◌+◌, ◌≤◌, List, ◌++◌, [], take, drop, length, refl, ap, sym, ◌∙◌, append_assoc, ◌-◌, length-drop, Option, Some, None, arith, IfSome}
use Rattle.std.proofs.Math.Seq.{take-add, take-length}
use Rattle.std.proofs.lemmas.List.{append-nil}
use Rattle.std.proofs.lemmas.Grind.{common_steps}
use Rattle.std.specs.Io.KnownBytes.{append_known, prepend_known, IsAtEnd}
use Rattle.mr_io.specs.Faults.{CountsFault}

-- a piece and then another are the two as one
pub append_known-append : (o : Option (List ℕ)) (xs ys : List ℕ) → append_known (append_known o xs) ys ≡ append_known o (xs ++ ys)
append_known-append None xs ys = refl
append_known-append (Some zs) xs ys = ap (λ (l : List ℕ). Some l) (append_assoc zs xs ys)

pub append_known-nil : (o : Option (List ℕ)) → o ≡ append_known o []
append_known-nil None = refl
append_known-nil (Some zs) = ap (λ (l : List ℕ). Some l) (sym (append-nil zs))

pub prepend_known-prepend : (o : Option (List ℕ)) (xs ys : List ℕ) → prepend_known xs (prepend_known ys o) ≡ prepend_known (xs ++ ys) o
prepend_known-prepend None xs ys = refl
prepend_known-prepend (Some zs) xs ys = ap (λ (l : List ℕ). Some l) (sym (append_assoc xs ys zs))

-- nothing given yet
pub prepend_known-nil : (o : Option (List ℕ)) → o ≡ prepend_known [] o
prepend_known-nil None = refl
prepend_known-nil (Some zs) = refl

-- at the end all was given
pub all_given : (o : Option (List ℕ)) (xs : List ℕ) → IsAtEnd o → IfSome (prepend_known xs o) (λ all. xs ≡ all)
all_given None xs h = tt
all_given (Some zs) xs h = grind (arith, common_steps)

-- the first i, and then the first n of the others, are the first i + n
pub append_known-more : (o : Option (List ℕ)) (xs : List ℕ) (i n : ℕ) → append_known (append_known o (take i xs)) (take n (drop i xs)) ≡ append_known o (take (i + n) xs)
append_known-more o xs i n = append_known-append o (take i xs) (take n (drop i xs)) ∙ ap (append_known o) (sym (take-add i n xs))

-- a fault counted in the last of several calls is counted in all of them
pub CountsFault-later : (old mid new most : ℕ) → old ≤ mid → CountsFault mid new most → CountsFault old new most
CountsFault-later old mid new most h f = grind arith

-- what a slice from i on to the end holds
pub take-rest : (xs : List ℕ) (i : ℕ) → take (length xs - i) (drop i xs) ≡ drop i xs
take-rest xs i = rw (← length-drop i xs) (take-length (drop i xs))

-- one more write of a loop that writes all
pub append_known-step : (old held new : Option (List ℕ)) (xs : List ℕ) (i n : ℕ) → held ≡ append_known old (take i xs) → new ≡ append_known held (take n (take (length xs - i) (drop i xs))) → new ≡ append_known old (take (i + n) xs)
append_known-step old held new xs i n h t = rw (t, take-rest xs i, h) (append_known-more old xs i n)
