use Rattle.std.proofs.Common.{◌≡◌, ℕ, ℤ, pos, negsuc, List, [], ◌∷◌, ◌<◌, ◌^◌, inl, inr, arith, ap, sym, ◌∙◌, drop, w64}
use Rattle.std.specs.Int.{to_be_bytes, from_be_bytes}
use Rattle.std.proofs.lemmas.Nat.{from_be_bytes-to_be_bytes_8}
use Rattle.mr_base.proofs.SpanLemmas.{not_below_itself, below_longer, only_itself}
use Rattle.mr_base.specs.Spans.{IsKeyBelow, InSpan}
use Rattle.row_locality.specs.OneColumnDatabases.{IsInt}
use Rattle.row_locality.specs.OneColumnRows.{int_place, int_key, point_of, the_primary_keys}

place_fits : (n : ℤ) → IsInt n → int_place n < 2 ^ 64
place_fits (pos n) h = omega (arith, h)
place_fits (negsuc n) h = omega (arith, h)

same_place : (m n : ℤ) → IsInt m → IsInt n → int_place m ≡ int_place n → m ≡ n
same_place (pos a) (pos b) p q e = ap pos (omega (arith, e))
same_place (pos a) (negsuc b) p q e = absurd (omega (arith, e, q))
same_place (negsuc a) (pos b) p q e = absurd (omega (arith, e, p))
same_place (negsuc a) (negsuc b) p q e = ap negsuc (omega (arith, e, p, q))

-- two INTs with one key are the same
pub same_key : (m n : ℤ) → IsInt m → IsInt n → int_key m ≡ int_key n → m ≡ n
unfolding int_key
same_key m n p q e =
    same_place m n p q
    (sym (from_be_bytes-to_be_bytes_8 (int_place m) (place_fits m p)) ∙ ap (λ bs. from_be_bytes w64 (drop 1 bs)) e
    ∙ from_be_bytes-to_be_bytes_8 (int_place n) (place_fits n q))

-- the point of an INT holds its key and no other
pub in_point : (n : ℤ) → InSpan (point_of n) (int_key n)
in_point n = (not_below_itself (int_key n), below_longer (int_key n) 0)

pub only_in_point : (n : ℤ) (key : List ℕ) → InSpan (point_of n) key → key ≡ int_key n
only_in_point n key h = only_itself (int_key n) key h.0 h.1

not_before : (b : ℕ) (bs : List ℕ) → ¬ IsKeyBelow (0 ∷ b ∷ bs) (0 ∷ [])
not_before b bs (inl h) = omega (arith, h)
not_before b bs (inr (e, h)) = h

tagged_in : (bs : List ℕ) → InSpan the_primary_keys (0 ∷ bs)
tagged_in [] = (not_below_itself (0 ∷ []), inl (omega arith))
tagged_in (b ∷ bs) = (not_before b bs, inl (omega arith))

-- the span of all primary keys holds each of them
pub in_primary_keys : (n : ℤ) → InSpan the_primary_keys (int_key n)
unfolding int_key
in_primary_keys n = tagged_in (to_be_bytes w64 (int_place n))
