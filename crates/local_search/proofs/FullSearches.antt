-- A search that is done has found the pairs of all spans.
use Rattle.std.proofs.Common.{◌≡◌, ℕ, zero, suc, ◌+◌, ◌≤◌, ◌==◌, true, false, not, cond, List, [], ◌∷◌, ◌++◌, length, map, take, drop, refl, ap, arith, sym, ◌∙◌, subst, ◌⊎◌, inl, inr, append-nil, length-append, slice_get, take_all}
use Rattle.std.proofs.lemmas.List.{take-append-drop}
use Rattle.std.proofs.lemmas.List.Concat.{flat_map-append}
use Rattle.std.proofs.lemmas.List.Elements.{filter-append}
use Rattle.std.specs.Prelude.{Some, None, filter, MatchOption}
use Rattle.mr_base.specs.declared.spans.Ask.{Ask}
use Rattle.mr_base.specs.declared.spans.Pair.{Pair}
use Rattle.row_locality.specs.Pairs.{KeyValue}
use Rattle.local_search.specs.Searching.{Searching, begun, next_in, after_rows, has_hit, with_first}
use Rattle.local_search.specs.SearchLaws.{pair_of, after_all, AreKnown, Held, reads_of, all_pairs, holds_pair, AtMostOneHolds, NearFirstIsFull}
use Rattle.local_search.proofs.Choices.{asked, some_from_if, none_from_if, not_both, both_second, some_is_no_nil, cons_is_some}
use Rattle.local_search.proofs.OrderLemmas.{take_next, none_is_past, PartsAt, parts_at, with_first_is}

-- ---- what a search has found so far

abbrev HasFound : Held → Searching → Type 0
HasFound held s = s.found ≡ all_pairs held (take s.answered s.order)

one_more : (held : Held) (before after : List Ask) (ask : Ask) (pairs : List KeyValue) (found : List Pair) → found ≡ all_pairs held before →
    held ask ≡ pairs → after ≡ before ++ ask ∷ [] → found ++ map pair_of pairs ≡ all_pairs held after
one_more held before after ask pairs found e is more =
    ap (λ zs. zs ++ map pair_of pairs) e
    ∙ ap (λ zs. all_pairs held before ++ map pair_of zs) (sym is)
    ∙ ap (λ zs. all_pairs held before ++ zs) (sym (append-nil (map pair_of (held ask))))
    ∙ sym (flat_map-append (λ a. map pair_of (held a)) before (ask ∷ []))
    ∙ ap (all_pairs held) (sym more)

found_more : (held : Held) (s : Searching) (pairs : List KeyValue) → HasFound held s →
    MatchOption (next_in s) ⊥ (λ ask. reads_of held ask ≡ Some pairs) → HasFound held (after_rows s (map pair_of pairs))
found_more held s pairs e m =
    let at : (ask : Ask) × (next_in s ≡ Some ask) × (reads_of held ask ≡ Some pairs) = asked (λ ask. reads_of held ask ≡ Some pairs) (next_in s) m in
    let is : held at.0 ≡ pairs = let same : Some (held at.0) ≡ Some pairs = at.2 in cc in
    one_more held (take s.answered s.order) (take (s.answered + 1) s.order) at.0 pairs s.found e is
    (take_next s.order s.answered at.0 (some_from_if (has_hit s) (slice_get s.order s.answered) at.0 at.1))

found_so_far : (held : Held) (known : List (List KeyValue)) (s : Searching) → HasFound held s → AreKnown (reads_of held) s known →
    HasFound held (after_all s known)
found_so_far held [] s e k = e
found_so_far held (pairs ∷ known) s e k =
    found_so_far held known (after_rows s (map pair_of pairs)) (found_more held s pairs e k.0) k.1

same_order : (known : List (List KeyValue)) (s : Searching) → (after_all s known).order ≡ s.order
same_order [] s = refl
same_order (pairs ∷ known) s = same_order known (after_rows s (map pair_of pairs))

-- ---- spans that hold no pair

abbrev count : Held → List Ask → ℕ
count held spans = length (filter (holds_pair held) spans)

some_or_none : (pairs : List KeyValue) (ask : Ask) →
    ((pairs ≡ []) × (length (cond (not (length pairs == 0)) (ask ∷ []) []) ≡ 0)) ⊎ (length (cond (not (length pairs == 0)) (ask ∷ []) []) ≡ 1)
some_or_none [] ask = inl (refl, refl)
some_or_none (p ∷ ps) ask = inr (ap (λ b. length (cond b (ask ∷ []) [])) (cons_is_some p ps))

holds_or_not : (held : Held) (ask : Ask) → ((held ask ≡ []) × (count held (ask ∷ []) ≡ 0)) ⊎ (count held (ask ∷ []) ≡ 1)
holds_or_not held ask = some_or_none (held ask) ask

count-append : (held : Held) (xs ys : List Ask) → count held (xs ++ ys) ≡ count held xs + count held ys
count-append held xs ys =
    ap length (filter-append (holds_pair held) xs ys) ∙ length-append (filter (holds_pair held) xs) (filter (holds_pair held) ys)

empty_first : (held : Held) (ask : Ask) (rest : List Pair) → held ask ≡ [] → map pair_of (held ask) ++ rest ≡ rest
empty_first held ask rest e = ap (λ zs. map pair_of zs ++ rest) e

none_found_behind : (held : Held) (x : Ask) (xs : List Ask) → count held (x ∷ []) + count held xs ≡ 0 →
    ((held x ≡ []) × (count held (x ∷ []) ≡ 0)) ⊎ (count held (x ∷ []) ≡ 1) →
    (count held xs ≡ 0 → all_pairs held xs ≡ []) → all_pairs held (x ∷ xs) ≡ []
none_found_behind held x xs none (inl empty) rest =
    empty_first held x (all_pairs held xs) empty.0 ∙ rest (omega (arith, empty.1))
none_found_behind held x xs none (inr one) rest = absurd (omega (arith, one))

none_found : (held : Held) (spans : List Ask) → count held spans ≡ 0 → all_pairs held spans ≡ []
none_found held [] none = refl
none_found held (x ∷ xs) none =
    none_found_behind held x xs (sym (count-append held (x ∷ []) xs) ∙ none) (holds_or_not held x) (none_found held xs)

-- ---- at most one span that holds a pair

swapped : (a b c : List Pair) → (a ≡ []) ⊎ (b ≡ []) → a ++ (b ++ c) ≡ b ++ (a ++ c)
swapped a b c (inl e) = ap (λ zs. zs ++ (b ++ c)) e ∙ ap (λ zs. b ++ (zs ++ c)) (sym e)
swapped a b c (inr e) = ap (λ zs. a ++ (zs ++ c)) e ∙ ap (λ zs. zs ++ (a ++ c)) (sym e)

one_is_empty : (held : Held) (x : Ask) (before after : List Ask) → count held before + (count held (x ∷ []) + count held after) ≤ 1 →
    ((held x ≡ []) × (count held (x ∷ []) ≡ 0)) ⊎ (count held (x ∷ []) ≡ 1) →
    (map pair_of (held x) ≡ []) ⊎ (all_pairs held before ≡ [])
one_is_empty held x before after few (inl empty) = inl (ap (map pair_of) empty.0)
one_is_empty held x before after few (inr one) = inr (none_found held before (omega (arith, one)))

counts : (held : Held) (x : Ask) (before after : List Ask) →
    count held (before ++ (x ∷ after)) ≡ count held before + (count held (x ∷ []) + count held after)
counts held x before after =
    count-append held before (x ∷ after) ∙ ap (λ n. count held before + n) (count-append held (x ∷ []) after)

pairs_in_any_order : (held : Held) (x : Ask) (before after : List Ask) → AtMostOneHolds held (before ++ (x ∷ after)) →
    all_pairs held (x ∷ (before ++ after)) ≡ all_pairs held (before ++ (x ∷ after))
pairs_in_any_order held x before after few =
    let all : (a : Ask) → List Pair = λ (a : Ask). map pair_of (held a) in
    let known : count held before + (count held (x ∷ []) + count held after) ≤ 1 = omega (arith, few, counts held x before after) in
    ap (λ zs. map pair_of (held x) ++ zs) (flat_map-append all before after)
    ∙ swapped (map pair_of (held x)) (all_pairs held before) (all_pairs held after) (one_is_empty held x before after known (holds_or_not held x))
    ∙ sym (flat_map-append all before (x ∷ after))

counts_first : (held : Held) (x : Ask) (before after : List Ask) →
    count held (x ∷ (before ++ after)) ≡ count held (before ++ (x ∷ after))
counts_first held x before after =
    let first : count held (x ∷ (before ++ after)) ≡ count held (x ∷ []) + count held (before ++ after) = count-append held (x ∷ []) (before ++ after) in
    let both : count held (before ++ after) ≡ count held before + count held after = count-append held before after in
    omega (arith, first, both, counts held x before after)

only_one : (a b : ℕ) → a + b ≤ 1 → (a ≡ 0 → ⊥) → b ≡ 0
only_one a zero few some = refl
only_one zero (suc b) few some = absurd (some refl)
only_one (suc a) (suc b) few some = absurd (omega arith)

-- Where the pairs so far are some, the spans to come hold none.
rest_is_empty : (held : Held) (done rest : List Ask) → AtMostOneHolds held (done ++ rest) → (all_pairs held done ≡ [] → ⊥) →
    all_pairs held done ≡ all_pairs held (done ++ rest)
rest_is_empty held done rest few some =
    let parts : count held (done ++ rest) ≡ count held done + count held rest = count-append held done rest in
    let none : all_pairs held rest ≡ [] = none_found held rest (only_one (count held done) (count held rest) (omega (arith, few, parts)) (λ z. some (none_found held done z))) in
    sym (append-nil (all_pairs held done))
    ∙ ap (λ zs. all_pairs held done ++ zs) (sym none)
    ∙ sym (flat_map-append (λ a. map pair_of (held a)) done rest)

-- ---- searches that are done

record Done (held : Held) (order : List Ask) (s : Searching) : Type 0 where
  same : s.order ≡ order
  found : HasFound held s
  end : next_in s ≡ None

ran_out : (held : Held) (order : List Ask) (s : Searching) → Done held order s → slice_get s.order s.answered ≡ None → s.found ≡ all_pairs held order
ran_out held order s d none =
    d.found ∙ ap (all_pairs held) (take_all s.answered s.order (none_is_past s.order s.answered none) ∙ d.same)

found_to_the_end : (held : Held) (order : List Ask) (s : Searching) → Done held order s →
    (has_hit s ≡ true) ⊎ (slice_get s.order s.answered ≡ None) → s.stops ≡ false → s.found ≡ all_pairs held order
found_to_the_end held order s d (inl hit) goes_on = absurd (not_both s.stops (not (length s.found == 0)) hit goes_on)
found_to_the_end held order s d (inr none) goes_on = ran_out held order s d none

found_with_one : (held : Held) (order : List Ask) (s : Searching) → Done held order s → AtMostOneHolds held order →
    (has_hit s ≡ true) ⊎ (slice_get s.order s.answered ≡ None) → s.found ≡ all_pairs held order
found_with_one held order s d few (inr none) = ran_out held order s d none
found_with_one held order s d few (inl hit) =
    let parts : take s.answered s.order ++ drop s.answered s.order ≡ order = take-append-drop s.answered s.order ∙ d.same in
    let some : all_pairs held (take s.answered s.order) ≡ [] → ⊥ =
    λ (none : all_pairs held (take s.answered s.order) ≡ []). some_is_no_nil s.found (both_second s.stops (not (length s.found == 0)) hit) (d.found ∙ none) in
    d.found
    ∙ rest_is_empty held (take s.answered s.order) (drop s.answered s.order) (subst (AtMostOneHolds held) (sym parts) few) some
    ∙ ap (all_pairs held) parts

pub near_first_is_full : NearFirstIsFull
near_first_is_full held spans near stops known within k end =
    let s : Searching = after_all (begun spans near stops) known in
    let d : Done held (with_first near spans) s = record {
      same = same_order known (begun spans near stops);
      found = found_so_far held known (begun spans near stops) refl k;
      end = end;
    } in
    let at : (has_hit s ≡ true) ⊎ (slice_get s.order s.answered ≡ None) = none_from_if (has_hit s) (slice_get s.order s.answered) end in
    let p : PartsAt spans near = parts_at spans near within in
    let first : with_first near spans ≡ p.here ∷ (take near spans ++ drop (suc near) spans) = with_first_is spans near p.here p.is in
    record {
      to_the_end = λ goes_on. found_to_the_end held (with_first near spans) s d at goes_on ∙ ap (all_pairs held) (sym d.same);
      near_first = λ few.
          let known_few : AtMostOneHolds held (take near spans ++ (p.here ∷ drop (suc near) spans)) = subst (AtMostOneHolds held) p.whole few in
          let few_first : AtMostOneHolds held (p.here ∷ (take near spans ++ drop (suc near) spans)) =
          omega (arith, known_few, counts_first held p.here (take near spans) (drop (suc near) spans)) in
          found_with_one held (with_first near spans) s d (subst (AtMostOneHolds held) (sym first) few_first) at
          ∙ ap (all_pairs held) first
          ∙ pairs_in_any_order held p.here (take near spans) (drop (suc near) spans) known_few
          ∙ ap (all_pairs held) (sym p.whole);
    }
