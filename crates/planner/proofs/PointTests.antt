-- Whether a span is that of one key.
use Rattle.std.proofs.Common.{◌≡◌, ◌≢◌, ℕ, Bool, true, false, List, [], ◌∷◌, ◌++◌, nat_eq, refl, sym, ap, ◌∙◌}
use Rattle.std.proofs.lemmas.List.{same_from_push}
use Rattle.std.specs.Cmp.Lexicographic.{bytes_decides, pointwise}
use Rattle.mr_base.specs.declared.spans.Ask.{Ask}
use Rattle.planner.specs.Numbered.{ask_at, is_point}

-- a key followed by a zero byte, and the same with another end
pub last_zero : (front lo : List ℕ) → pointwise nat_eq (front ++ 0 ∷ []) (lo ++ 0 ∷ []) ≡ pointwise nat_eq front lo
last_zero front lo = when (pointwise nat_eq front lo) refl
  where
    when : (t : Bool) → pointwise nat_eq front lo ≡ t → pointwise nat_eq (front ++ 0 ∷ []) (lo ++ 0 ∷ []) ≡ pointwise nat_eq front lo
    when true h = (bytes_decides (front ++ 0 ∷ []) (lo ++ 0 ∷ [])).1 (ap (λ k. k ++ 0 ∷ []) ((bytes_decides front lo).0 h)) ∙ sym h
    when false h = other (pointwise nat_eq (front ++ 0 ∷ []) (lo ++ 0 ∷ [])) refl ∙ sym h
      where
        other : (t : Bool) → pointwise nat_eq (front ++ 0 ∷ []) (lo ++ 0 ∷ []) ≡ t → pointwise nat_eq (front ++ 0 ∷ []) (lo ++ 0 ∷ []) ≡ false
        other true k = let yes : pointwise nat_eq front lo ≡ true = (bytes_decides front lo).1 (same_from_push front lo 0 0 ((bytes_decides (front ++ 0 ∷ []) (lo ++ 0 ∷ [])).0 k)).0 in cc
        other false k = k

pub last_other : (front lo : List ℕ) (last : ℕ) → last ≢ 0 → pointwise nat_eq (front ++ last ∷ []) (lo ++ 0 ∷ []) ≡ false
last_other front lo last n = when (pointwise nat_eq (front ++ last ∷ []) (lo ++ 0 ∷ [])) refl
  where
    when : (t : Bool) → pointwise nat_eq (front ++ last ∷ []) (lo ++ 0 ∷ []) ≡ t → pointwise nat_eq (front ++ last ∷ []) (lo ++ 0 ∷ []) ≡ false
    when true h = absurd (n (same_from_push front lo last 0 ((bytes_decides (front ++ last ∷ []) (lo ++ 0 ∷ [])).0 h)).1)
    when false h = h

-- an ask for one key is that of its place
pub point_at : (ask : Ask) → is_point ask.span ≡ true → ask ≡ ask_at (ask.range, ask.span.lo)
point_at ask e =
    let hi : ask.span.hi ≡ ask.span.lo ++ 0 ∷ [] = (bytes_decides ask.span.hi (ask.span.lo ++ 0 ∷ [])).0 e in
    λ i. record { range = ask.range; span = record { lo = ask.span.lo; hi = hi i } }
