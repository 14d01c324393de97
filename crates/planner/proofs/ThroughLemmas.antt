-- The values that were written in a span, and what is read through them.
use Rattle.std.proofs.Common.{◌≡◌, ◌≢◌, ℕ, Bool, true, false, cond, List, [], ◌∷◌, map, refl, sym, ap, ◌∙◌}
use Rattle.std.specs.Prelude.{◌==◌, ◌&&◌, not, if◌then◌else◌, Option, Some, None, option_map}
use Rattle.std.specs.BTreeMap.Range.{entries_between, range_contains}
use Rattle.std.specs.Cmp.{tied_itself, nat_cmp_total}
use Rattle.std.specs.Cmp.Lexicographic.{nat_list_cmp_total}
use Rattle.std.specs.List.{cons_option}
use Rattle.std.specs.Ordering.{is_le, is_lt, nat_cmp, ordering_reverse, ordering_then}
use Rattle.std.specs.declared.cmp.Ordering.{Ordering}
use Rattle.std.specs.declared.cmp.Ordering.TheVariants.{Less, Equal, Greater}
use Rattle.std.specs.declared.ops.Bound.TheVariants.{Excluded, Included}
use Rattle.std.proofs.lemmas.Bool.{eq-eqb, eqb-true}
use Rattle.std.proofs.lemmas.Map.Lookups.{exact_unsigned}
use Rattle.mr_base.specs.declared.spans.Ask.{Ask}
use Rattle.mr_base.specs.declared.spans.Pair.{Pair}
use Rattle.row_locality.specs.Pairs.{bytes_cmp, key_value}
use Rattle.row_locality.specs.Spans.{is_in}
use Rattle.sql_eval.specs.OwnWrites.{FirstAndLast, OwnWrites, Place, is_asked, patched_pairs, place_cmp, reads_through, values_written}
use Rattle.sql_eval.specs.Reads.{Reads}
use Rattle.planner.proofs.PlaceOrder.{outside}

-- ---- the places of a span stand between two places

abbrev from : Ask → Place
from ask = (ask.range, ask.span.lo)

abbrev to : Ask → Place
to ask = (ask.range, ask.span.hi)

up_to : (o p : Ordering) → p ≡ ordering_reverse o → is_le o ≡ not (is_lt p)
up_to Less p e = ap (λ x. not (is_lt x)) (sym e)
up_to Equal p e = ap (λ x. not (is_lt x)) (sym e)
up_to Greater p e = ap (λ x. not (is_lt x)) (sym e)

below_end : (o p : Ordering) → p ≡ ordering_reverse o → not (is_le o) ≡ is_lt p
below_end Less p e = ap is_lt (sym e)
below_end Equal p e = ap is_lt (sym e)
below_end Greater p e = ap is_lt (sym e)

other_number : (a b : ℕ) (o : Ordering) → nat_cmp a b ≡ o → o ≢ Equal → (b == a) ≡ false
other_number a b o e n = when (b == a) refl
  where
    when : (t : Bool) → (b == a) ≡ t → (b == a) ≡ false
    when true h = absurd (n (sym e ∙ ap (nat_cmp a) (eqb-true b a h) ∙ tied_itself nat_cmp_total a))
    when false h = h

less_other : Less ≢ Equal
less_other e = absurd (cc)

greater_other : Greater ≢ Equal
greater_other e = absurd (cc)

asked_by : (ask : Ask) (p : Place) (o : Ordering) → nat_cmp ask.range.0 p.0.0 ≡ o
    → (is_le (ordering_then o (bytes_cmp ask.span.lo p.1)) && not (is_le (ordering_then o (bytes_cmp ask.span.hi p.1)))) ≡ is_asked ask p
asked_by ask p Less e = ap (λ (b : Bool). b && is_in ask.span p.1) (sym (other_number ask.range.0 p.0.0 Less e less_other))
asked_by ask p Equal e =
    (λ i. up_to (bytes_cmp ask.span.lo p.1) (bytes_cmp p.1 ask.span.lo) (nat_list_cmp_total.antisymm p.1 ask.span.lo) i
    && below_end (bytes_cmp ask.span.hi p.1) (bytes_cmp p.1 ask.span.hi) (nat_list_cmp_total.antisymm p.1 ask.span.hi) i)
    ∙ ap (λ (b : Bool). b && is_in ask.span p.1) (sym (eq-eqb p.0.0 ask.range.0 (sym (exact_unsigned ask.range.0 p.0.0 e))))
asked_by ask p Greater e = ap (λ (b : Bool). b && is_in ask.span p.1) (sym (other_number ask.range.0 p.0.0 Greater e greater_other))

asked_between : (ask : Ask) (p : Place) → range_contains place_cmp (Included (from ask)) (Excluded (to ask)) p ≡ is_asked ask p
asked_between ask p = asked_by ask p (nat_cmp ask.range.0 p.0.0) refl

-- ---- the values that were written in a span

abbrev value_of : Place × FirstAndLast → List ℕ × Option (List ℕ)
value_of x = (x.0.1, x.1.last)

pub values_between : (ask : Ask) (own : OwnWrites) → map (λ x. (x.0.1, x.1.last)) (entries_between place_cmp (Included (from ask)) (Excluded (to ask)) own) ≡ values_written own ask
values_between ask [] = refl
values_between ask (x ∷ own) =
    let rest = entries_between place_cmp (Included (from ask)) (Excluded (to ask)) own in
    ap (λ b. map value_of (cond b (x ∷ rest) rest)) (asked_between ask x.0)
    ∙ elim (is_asked ask x.0) as (λ b. map value_of (cond b (x ∷ rest) rest) ≡ cons_option (if b then Some (value_of x) else None) (values_written own ask)) [
      | true ↦ ap (λ l. value_of x ∷ l) (values_between ask own)
      | false ↦ values_between ask own
    ]

not_asked : (ask : Ask) (p : Place) → is_in ask.span p.1 ≡ false → is_asked ask p ≡ false
not_asked ask p e = ap (λ (b : Bool). (p.0.0 == ask.range.0) && b) e ∙ elim (p.0.0 == ask.range.0) as (λ b. (b && false) ≡ false) [ true ↦ refl | false ↦ refl ]

pub none_written : (ask : Ask) (own : OwnWrites) → is_lt (bytes_cmp ask.span.lo ask.span.hi) ≡ false → values_written own ask ≡ []
none_written ask [] e = refl
none_written ask (x ∷ own) e =
    ap (λ (b : Bool). cons_option (if b then Some (value_of x) else None) (values_written own ask)) (not_asked ask x.0 (outside ask.span x.0.1 e))
    ∙ none_written ask own e

-- ---- what is read through them

pub unread : (own : OwnWrites) (reads : Reads) (ask : Ask) → None ≡ reads ask → None ≡ reads_through own reads ask
unfolding reads_through
unread own reads ask e = ap (option_map (patched_pairs (values_written own ask))) e

pub rows_read : (own : OwnWrites) (reads : Reads) (ask : Ask) (written : List (List ℕ × Option (List ℕ))) (rows pairs : List Pair) → Some (map key_value rows) ≡ reads ask
    → written ≡ values_written own ask → map key_value pairs ≡ patched_pairs written (map key_value rows) → Some (map key_value pairs) ≡ reads_through own reads ask
unfolding reads_through
rows_read own reads ask written rows pairs e w p =
    ap Some (p ∙ ap (λ values. patched_pairs values (map key_value rows)) w)
    ∙ ap (option_map (patched_pairs (values_written own ask))) e
