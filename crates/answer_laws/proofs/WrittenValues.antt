-- What own writes leave of the keys of a span.
use Rattle.std.proofs.Common.{◌≡◌, ℕ, Bool, true, false, cond, List, [], ◌∷◌, refl, sym, ap, ◌∙◌, inl, inr, arith}
use Rattle.std.specs.Prelude.{◌==◌, ◌&&◌, if◌then◌else◌, Option, Some, None, option_map}
use Rattle.std.specs.Cmp.{Equal-is, nat_cmp_is}
use Rattle.std.specs.FinMap.Entries.{find}
use Rattle.std.specs.List.{cons_option}
use Rattle.std.specs.Ordering.{eq_by_cmp, is_eq, nat_cmp, ordering_then}
use Rattle.std.specs.declared.cmp.Ordering.{Ordering}
use Rattle.std.specs.declared.cmp.Ordering.TheVariants.{Less, Equal, Greater}
use Rattle.std.proofs.lemmas.Bool.{cases_order, eq-eqb, ne_eqb}
use Rattle.std.proofs.lemmas.Map.Lookups.{exact_bytes}
use Rattle.mr_base.specs.declared.spans.Ask.{Ask}
use Rattle.row_locality.specs.Pairs.{bytes_cmp}
use Rattle.row_locality.specs.Spans.{is_in}
use Rattle.sql_eval.specs.OwnWrites.{OwnWrites, FirstAndLast, place_cmp, values_written}

-- the last value of a key of a span, where it was written
abbrev pub written_value : OwnWrites → Ask → List ℕ → Option (Option (List ℕ))
written_value own ask key = if is_in ask.span key then option_map (λ x. x.last) (find place_cmp (ask.range, key) own) else None

if_none : (c : Bool) → ◌≡◌ {A = Option (Option (List ℕ))} None (if c then None else None)
if_none true = refl
if_none false = refl

-- one more place, by whether its range is the one asked of, whether its key is in the span, and whether it
-- is the key
by_place : (a b c e : Bool) (x : FirstAndLast) (rest : List (List ℕ × Option (List ℕ))) (r : Option FirstAndLast) (key other : List ℕ) → eq_by_cmp bytes_cmp key other ≡ b
    → (b ≡ true → c ≡ e) → find bytes_cmp key rest ≡ (if c then option_map (λ y. y.last) r else None)
    → find bytes_cmp key (cons_option (if a && e then Some (other, x.last) else None) rest) ≡ (if c then option_map (λ y. y.last) (cond (a && b) (Some x) r) else None)
by_place false b c e x rest r key other f g h = h
by_place true true true true x rest r key other f g h = ap (λ (t : Bool). cond t (Some x.last) (find bytes_cmp key rest)) f
by_place true true true false x rest r key other f g h = absurd (cc (g refl))
by_place true true false true x rest r key other f g h = absurd (cc (g refl))
by_place true true false false x rest r key other f g h = h
by_place true false c true x rest r key other f g h = ap (λ (t : Bool). cond t (Some x.last) (find bytes_cmp key rest)) f ∙ h
by_place true false c false x rest r key other f g h = h

untied : (m n : ℕ) (o p : Ordering) → nat_cmp m n ≡ p → is_eq (ordering_then p o) ≡ false → (n ≡ m → ⊥) → is_eq (ordering_then (nat_cmp m n) o) ≡ ((n == m) && is_eq o)
untied m n o p f e h = ap (λ (t : Ordering). is_eq (ordering_then t o)) f ∙ e ∙ ap (λ (t : Bool). t && is_eq o) (sym (ne_eqb n m h))

place_tie : (m n : ℕ) (o : Ordering) → is_eq (ordering_then (nat_cmp m n) o) ≡ ((n == m) && is_eq o)
place_tie m n o =
    elim (cases_order m n) [
      | inl e ↦
          ap (λ (t : Ordering). is_eq (ordering_then t o)) (sym (nat_cmp_is m n Equal e)) ∙ ap (λ (t : Bool). t && is_eq o) (sym (eq-eqb n m (sym e)))
      | inr (inl h) ↦ untied m n o Less (sym (nat_cmp_is m n Less h)) refl (λ e. omega (arith, e, h))
      | inr (inr h) ↦ untied m n o Greater (sym (nat_cmp_is m n Greater h)) refl (λ e. omega (arith, e, h))
    ]

-- what is written of a key in a span is the last value of its place
pub written_at : (own : OwnWrites) (ask : Ask) (key : List ℕ) → find bytes_cmp key (values_written own ask) ≡ written_value own ask key
written_at [] ask key = if_none (is_in ask.span key)
written_at (x ∷ own) ask key =
    let same : eq_by_cmp bytes_cmp key x.0.1 ≡ true → is_in ask.span key ≡ is_in ask.span x.0.1 =
    λ e. ap (is_in ask.span) (exact_bytes key x.0.1 ((Equal-is (bytes_cmp key x.0.1)).0 e)) in
    by_place (x.0.0.0 == ask.range.0) (eq_by_cmp bytes_cmp key x.0.1) (is_in ask.span key) (is_in ask.span x.0.1) x.1 (values_written own ask)
    (find place_cmp (ask.range, key) own) key x.0.1 refl same (written_at own ask key)
    ∙ ap
    (λ (t : Bool). if is_in ask.span key then option_map (λ (y : FirstAndLast). y.last) (cond t (Some x.1) (find place_cmp (ask.range, key) own)) else None)
    (sym (place_tie ask.range.0 x.0.0.0 (bytes_cmp key x.0.1)))
