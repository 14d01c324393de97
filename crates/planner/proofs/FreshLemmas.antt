-- What is looked up in one partition, and what a read of bounded staleness looks at there.
use Rattle.std.proofs.Common.{◌≡◌, ℕ, ◌+◌, ◌≤◌, Bool, true, false, cond, List, [], ◌∷◌, ◌++◌, filter, map, refl, sym, ap, ◌∙◌, inl, inr, arith}
use Rattle.std.specs.Prelude.{◌==◌, ◌⊎◌, if◌then◌else◌, not, Option, Some, None, option_map, slice_get}
use Rattle.std.specs.List.{enumerate_from}
use Rattle.std.specs.Option.{option_map_or, option_or}
use Rattle.std.proofs.lemmas.Bool.Decides.{nat_tests}
use Rattle.std.proofs.lemmas.List.{map-append}
use Rattle.std.proofs.lemmas.List.Elements.{filter-append}
use Rattle.std.proofs.lemmas.Option.{same_Some}
use Rattle.mr_base.specs.declared.rows.Datum.{Datum}
use Rattle.mr_base.specs.declared.spans.Ask.{Ask}
use Rattle.mr_base.specs.declared.spans.Span.{Span}
use Rattle.region_sql.specs.declared.row_statements.Term.{Term}
use Rattle.descriptors.specs.declared.table.Table.{Table}
use Rattle.row_locality.specs.Keys.{index_key}
use Rattle.row_locality.specs.Plain.{Partition}
use Rattle.row_locality.specs.Rows.{unique_indexes}
use Rattle.row_locality.specs.Spans.{all_keys, point_of}
use Rattle.sql_eval.specs.Lookups.{first_fixed, fixed_region, fixed_values, index_for, is_in_region, key_lookup, near_first, row_lookups, searched_partitions, whole_partition}
use Rattle.sql_eval.specs.Search.{Lookup}
use Rattle.planner.specs.FreshAsks.{fresh_asks_in, fresh_span, looked_at}

-- ---- one partition

kept_or_not : (test : Partition → Bool) (p : Partition) (b : Bool) → test p ≡ b → (filter test (p ∷ []) ≡ []) ⊎ (filter test (p ∷ []) ≡ p ∷ [])
kept_or_not test p true e = inr (ap (λ (b : Bool). cond b (p ∷ []) []) e)
kept_or_not test p false e = inl (ap (λ (b : Bool). cond b (p ∷ []) []) e)

alone_by : (p : Partition) (o : Option (List ℕ)) → let ps = option_map_or (λ region. filter (is_in_region region) (p ∷ [])) o (p ∷ []) in (ps ≡ []) ⊎ (ps ≡ p ∷ [])
alone_by p None = inr refl
alone_by p (Some region) = kept_or_not (is_in_region region) p (is_in_region region p) refl

alone : (terms : List Term) (p : Partition) → (searched_partitions terms (p ∷ []) ≡ []) ⊎ (searched_partitions terms (p ∷ []) ≡ p ∷ [])
alone terms p = alone_by p (fixed_region terms)

near_alone : (gateway : List ℕ) (p : Partition) → near_first gateway (p ∷ []) ≡ p ∷ []
near_alone gateway p = elim (is_in_region gateway p) as (λ b. cond b (p ∷ []) [] ++ cond (not b) (p ∷ []) [] ≡ p ∷ []) [ true ↦ refl | false ↦ refl ]

-- ---- the look-up there

abbrev lookup_by : Option (ℕ × List Datum) → Partition → Lookup
lookup_by None p = whole_partition p
lookup_by (Some x) p = key_lookup x.0 x.1 p

nowhere : (gateway : List ℕ) (by : Option (ℕ × List Datum)) → row_lookups gateway by [] ≡ []
nowhere gateway None = refl
nowhere gateway (Some x) = refl

there : (gateway : List ℕ) (by : Option (ℕ × List Datum)) (p : Partition) → row_lookups gateway by (p ∷ []) ≡ lookup_by by p ∷ []
there gateway None p = refl
there gateway (Some x) p = ap (map (key_lookup x.0 x.1)) (near_alone gateway p)

-- ---- its span

abbrev span_by : Option (ℕ × List Datum) → Span
span_by None = all_keys
span_by (Some x) = if x.0 == 0 then point_of (index_key x.0 x.1) else all_keys

looked_by : (by : Option (ℕ × List Datum)) (p : Partition) → looked_at (option_map (λ x. x.0) by) (lookup_by by p) ≡ record { range = p.range; span = span_by by }
looked_by None p = refl
looked_by (Some x) p = refl

not_zero : (n : ℕ) → 1 ≤ n → (n == 0) ≡ false
not_zero n h = grind (arith, nat_tests)

later_by : (n : ℕ) (o : Option (List Datum)) (rest : Option (ℕ × List Datum)) → 1 ≤ n → span_by rest ≡ all_keys → span_by (option_or (option_map (λ vs. (n, vs)) o) rest) ≡ all_keys
later_by n None rest h e = e
later_by n (Some vs) rest h e = ap (λ (b : Bool). if b then point_of (index_key n vs) else all_keys) (not_zero n h)

later : (t : Table) (terms : List Term) (n : ℕ) (xs : List (List ℕ)) → 1 ≤ n → span_by (first_fixed t terms (enumerate_from n xs)) ≡ all_keys
later t terms n [] h = refl
later t terms n (x ∷ xs) h = later_by n (fixed_values t terms x) (first_fixed t terms (enumerate_from (n + 1) xs)) h (later t terms (n + 1) xs (omega (arith, h)))

first_by : (o : Option (List Datum)) (rest : Option (ℕ × List Datum)) → span_by rest ≡ all_keys
    → span_by (option_or (option_map (λ vs. (0, vs)) o) rest) ≡ option_map_or (λ values. point_of (index_key 0 values)) o all_keys
first_by None rest e = e
first_by (Some vs) rest e = refl

span_of_index : (t : Table) (terms : List Term) → span_by (index_for t terms) ≡ fresh_span t terms
unfolding index_for
span_of_index t terms = first_by (fixed_values t terms t.key) (first_fixed t terms (enumerate_from 1 (unique_indexes t))) (later t terms 1 (unique_indexes t) (omega (arith)))

-- ---- what is looked at

none_found : (l : Lookup) → Some l ≡ None → ⊥
none_found l e = cc

in_all : (t : Table) (terms : List Term) (ps qs : List Partition) → searched_partitions terms ps ≡ qs → fresh_asks_in t ps terms ≡ map (λ p. record { range = p.range; span = fresh_span t terms }) qs
in_all t terms ps qs e = ap (map (λ (p : Partition). record { range = p.range; span = fresh_span t terms })) e

-- where there is no look-up, nothing is looked at
pub none_looked_at : (t : Table) (terms : List Term) (p : Partition) (gateway : List ℕ) (lookups : List Lookup) → lookups ≡ row_lookups gateway (index_for t terms) (searched_partitions terms (p ∷ []))
    → None ≡ slice_get lookups 0 → fresh_asks_in t (p ∷ []) terms ≡ []
none_looked_at t terms p gateway lookups e n = when (alone terms p)
  where
    when : (searched_partitions terms (p ∷ []) ≡ []) ⊎ (searched_partitions terms (p ∷ []) ≡ p ∷ []) → fresh_asks_in t (p ∷ []) terms ≡ []
    when (inl s) = in_all t terms (p ∷ []) [] s
    when (inr s) =
        let one : lookups ≡ lookup_by (index_for t terms) p ∷ [] = e ∙ ap (row_lookups gateway (index_for t terms)) s ∙ there gateway (index_for t terms) p in
        absurd (none_found (lookup_by (index_for t terms) p) (sym (n ∙ ap (λ ls. slice_get ls 0) one)))

-- where there is one, it is looked at
pub first_looked_at : (t : Table) (terms : List Term) (p : Partition) (gateway : List ℕ) (index : Option ℕ) (lookups : List Lookup) (l : Lookup) → index ≡ option_map (λ x. x.0) (index_for t terms)
    → lookups ≡ row_lookups gateway (index_for t terms) (searched_partitions terms (p ∷ [])) → Some l ≡ slice_get lookups 0 → looked_at index l ∷ [] ≡ fresh_asks_in t (p ∷ []) terms
first_looked_at t terms p gateway index lookups l i e n = when (alone terms p)
  where
    when : (searched_partitions terms (p ∷ []) ≡ []) ⊎ (searched_partitions terms (p ∷ []) ≡ p ∷ []) → looked_at index l ∷ [] ≡ fresh_asks_in t (p ∷ []) terms
    when (inl s) =
        let none : lookups ≡ [] = e ∙ ap (row_lookups gateway (index_for t terms)) s ∙ nowhere gateway (index_for t terms) in
        absurd (none_found l (n ∙ ap (λ ls. slice_get ls 0) none))
    when (inr s) =
        let one : lookups ≡ lookup_by (index_for t terms) p ∷ [] = e ∙ ap (row_lookups gateway (index_for t terms)) s ∙ there gateway (index_for t terms) p in
        let same : l ≡ lookup_by (index_for t terms) p = same_Some _ _ (n ∙ ap (λ ls. slice_get ls 0) one) in
        let asked : Span → Ask = λ span. record { range = p.range; span = span } in
        (λ j. looked_at (i j) (same j) ∷ [])
        ∙ ap (λ (a : Ask). a ∷ []) (looked_by (index_for t terms) p ∙ ap asked (span_of_index t terms))
        ∙ sym (in_all t terms (p ∷ []) (p ∷ []) s)

-- ---- one partition more

searched_by : (o : Option (List ℕ)) (ps qs : List Partition)
    → option_map_or (λ region. filter (is_in_region region) (ps ++ qs)) o (ps ++ qs)
    ≡ option_map_or (λ region. filter (is_in_region region) ps) o ps ++ option_map_or (λ region. filter (is_in_region region) qs) o qs
searched_by None ps qs = refl
searched_by (Some region) ps qs = filter-append (is_in_region region) ps qs

pub looked_at_more : (t : Table) (terms : List Term) (ps qs : List Partition) → fresh_asks_in t (ps ++ qs) terms ≡ fresh_asks_in t ps terms ++ fresh_asks_in t qs terms
looked_at_more t terms ps qs =
    in_all t terms (ps ++ qs) _ (searched_by (fixed_region terms) ps qs)
    ∙ map-append (λ (p : Partition). record { range = p.range; span = fresh_span t terms }) (searched_partitions terms ps) (searched_partitions terms qs)
