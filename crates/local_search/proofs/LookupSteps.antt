-- Steps of the loops over partitions, columns, indexes and rows.
use Rattle.std.proofs.Common.{◌≡◌, ℕ, ◌+◌, ◌<◌, ◌≤◌, Bool, true, false, cond, List, [], ◌∷◌, ◌++◌, length, map, take, drop, get_or, refl, sym, ap, ◌∙◌, arith, append_assoc}
use Rattle.std.specs.Prelude.{Option, Some, None, filter, flat_map, slice_get, option_map, option_and_then, unwrap_or}
use Rattle.std.specs.List.{enumerate_from}
use Rattle.std.specs.Option.{option_or}
use Rattle.std.proofs.lemmas.List.{append-nil, drop_more, drop_all, take_all, take_more, length-map}
use Rattle.std.proofs.lemmas.List.Concat.{flat_map-append}
use Rattle.std.proofs.lemmas.List.Elements.{filter-append}
use Rattle.std.proofs.lemmas.List.FromFn.{length-enumerate_from, get_or-enumerate_from}
use Rattle.std.proofs.lemmas.Option.{slice_get_within, get_or_from_slice_get}
use Rattle.mr_base.specs.declared.rows.Datum.{Datum}
use Rattle.region_sql.specs.declared.row_statements.Term.{Term}
use Rattle.descriptors.specs.declared.table.Table.{Table}
use Rattle.row_locality.specs.Plain.{Partition}
use Rattle.row_locality.specs.Rows.{indexes, values_at, region_of}
use Rattle.sql_eval.specs.Lookups.{fixed_value_at, fixed_values, first_fixed, index_for, key_lookup, own_first, index_lookups, key_lookups, new_row_lookups, changed_row_lookups}
use Rattle.sql_eval.specs.Search.{Lookup}
use Rattle.local_search.specs.ChangedKeys.{is_new_in, new_indexes, index_values}

-- ---- values to which terms fix columns

fixed_here : (t : Table) (terms : List Term) (places : List ℕ) (i : ℕ) → i < length places
    → fixed_values t terms (drop i places) ≡ option_and_then (λ v. option_map (λ vs. v ∷ vs) (fixed_values t terms (drop (i + 1) places))) (fixed_value_at t terms (get_or places i 0))
fixed_here t terms places i h = ap (fixed_values t terms) (drop_more places i 0 h)

pub not_fixed : (t : Table) (terms : List Term) (places : List ℕ) (i : ℕ) (held : List Datum) (total : Option (List Datum)) → i < length places
    → fixed_value_at t terms (get_or places i 0) ≡ None → option_map (λ vs. held ++ vs) (fixed_values t terms (drop i places)) ≡ total → None ≡ total
not_fixed t terms places i held total h none so_far =
    let here : fixed_values t terms (drop i places) ≡ None =
    fixed_here t terms places i h ∙ ap (option_and_then (λ v. option_map (λ vs. v ∷ vs) (fixed_values t terms (drop (i + 1) places)))) none in
    sym (ap (option_map (λ vs. held ++ vs)) here) ∙ so_far

put_behind : (held : List Datum) (v : Datum) (o : Option (List Datum)) → option_map (λ vs. (held ++ v ∷ []) ++ vs) o ≡ option_map (λ vs. held ++ vs) (option_map (λ vs. v ∷ vs) o)
put_behind held v None = refl
put_behind held v (Some vs) = ap Some (append_assoc held (v ∷ []) vs)

pub fixed_more : (t : Table) (terms : List Term) (places : List ℕ) (i : ℕ) (held after : List Datum) (v : Datum) (total : Option (List Datum)) → i < length places
    → fixed_value_at t terms (get_or places i 0) ≡ Some v → after ≡ held ++ v ∷ [] → option_map (λ vs. held ++ vs) (fixed_values t terms (drop i places)) ≡ total
    → option_map (λ vs. after ++ vs) (fixed_values t terms (drop (i + 1) places)) ≡ total
fixed_more t terms places i held after v total h some pushed so_far =
    let here : fixed_values t terms (drop i places) ≡ option_map (λ vs. v ∷ vs) (fixed_values t terms (drop (i + 1) places)) =
    fixed_here t terms places i h ∙ ap (option_and_then (λ v. option_map (λ vs. v ∷ vs) (fixed_values t terms (drop (i + 1) places)))) some in
    ap (λ (ws : List Datum). option_map (λ vs. ws ++ vs) (fixed_values t terms (drop (i + 1) places))) pushed
    ∙ put_behind held v (fixed_values t terms (drop (i + 1) places))
    ∙ sym (ap (option_map (λ vs. held ++ vs)) here)
    ∙ so_far

pub all_fixed : (t : Table) (terms : List Term) (places : List ℕ) (i : ℕ) (held : List Datum) (total : Option (List Datum)) → length places ≤ i
    → option_map (λ vs. held ++ vs) (fixed_values t terms (drop i places)) ≡ total → Some held ≡ total
all_fixed t terms places i held total h so_far =
    let here : fixed_values t terms (drop i places) ≡ Some [] = ap (fixed_values t terms) (drop_all i places h) in
    ap Some (sym (append-nil held)) ∙ sym (ap (option_map (λ vs. held ++ vs)) here) ∙ so_far

-- ---- the index by which rows are found

index_here : (t : Table) (terms : List Term) (xs : List (List ℕ)) (i : ℕ) (columns : List ℕ) → slice_get xs i ≡ Some columns
    → first_fixed t terms (enumerate_from i (drop i xs)) ≡ option_or (option_map (λ vs. (i, vs)) (fixed_values t terms columns)) (first_fixed t terms (enumerate_from (i + 1) (drop (i + 1) xs)))
index_here t terms xs i columns at =
    let front : drop i xs ≡ columns ∷ drop (i + 1) xs = drop_more xs i columns (slice_get_within xs i columns at) ∙ ap (λ c. c ∷ drop (i + 1) xs) (get_or_from_slice_get xs i columns columns at) in
    ap (λ (ys : List (List ℕ)). first_fixed t terms (enumerate_from i ys)) front

pub index_found : (t : Table) (terms : List Term) (i : ℕ) (columns : List ℕ) (vs : List Datum) (total : Option (ℕ × List Datum)) → slice_get (indexes t) i ≡ Some columns
    → Some vs ≡ fixed_values t terms columns → first_fixed t terms (enumerate_from i (drop i (indexes t))) ≡ total → Some (i, vs) ≡ total
index_found t terms i columns vs total at found so_far =
    ap (λ o. option_or (option_map (λ vs. (i, vs)) o) (first_fixed t terms (enumerate_from (i + 1) (drop (i + 1) (indexes t))))) found
    ∙ sym (index_here t terms (indexes t) i columns at)
    ∙ so_far

pub index_passed : (t : Table) (terms : List Term) (i : ℕ) (columns : List ℕ) (total : Option (ℕ × List Datum)) → slice_get (indexes t) i ≡ Some columns
    → None ≡ fixed_values t terms columns → first_fixed t terms (enumerate_from i (drop i (indexes t))) ≡ total
    → first_fixed t terms (enumerate_from (i + 1) (drop (i + 1) (indexes t))) ≡ total
index_passed t terms i columns total at none so_far =
    ap (λ o. option_or (option_map (λ vs. (i, vs)) o) (first_fixed t terms (enumerate_from (i + 1) (drop (i + 1) (indexes t))))) none
    ∙ sym (index_here t terms (indexes t) i columns at)
    ∙ so_far

count_indexes : (t : Table) → length (indexes t) ≡ length t.unique + 1
count_indexes t = omega (arith, length-map t.unique (λ (c : ℕ). c ∷ []))

pub no_index : (t : Table) (terms : List Term) (i : ℕ) (total : Option (ℕ × List Datum)) → length t.unique + 1 ≤ i
    → first_fixed t terms (enumerate_from i (drop i (indexes t))) ≡ total → None ≡ total
no_index t terms i total h so_far =
    let past : length (indexes t) ≤ i = omega (arith, count_indexes t) in
    sym (ap (λ (ys : List (List ℕ)). first_fixed t terms (enumerate_from i ys)) (drop_all i (indexes t) past)) ∙ so_far

pub from_the_first : (t : Table) (terms : List Term) → first_fixed t terms (enumerate_from 0 (indexes t)) ≡ index_for t terms
unfolding index_for
from_the_first t terms = refl

-- ---- keys of new rows

-- the keys of a row in those of the first indexes in which it is new
abbrev pub keys_among : Table → List Partition → Option (List Datum) → List Datum → List (ℕ × List ℕ) → List Lookup
keys_among t ps old new xs = key_lookups t ps (filter (λ x. is_new_in old new x.1) xs) new

chosen : (t : Table) (ps : List Partition) (old : Option (List Datum)) (new : List Datum) (x : ℕ × List ℕ) (b : Bool) → is_new_in old new x.1 ≡ b
    → keys_among t ps old new (x ∷ []) ≡ cond b (index_lookups t ps new x) []
chosen t ps old new x true e = ap (λ (b : Bool). key_lookups t ps (cond b (x ∷ []) []) new) e ∙ append-nil (index_lookups t ps new x)
chosen t ps old new x false e = ap (λ (b : Bool). key_lookups t ps (cond b (x ∷ []) []) new) e

index_at : (t : Table) (i : ℕ) (columns : List ℕ) → slice_get (indexes t) i ≡ Some columns
    → take (i + 1) (enumerate_from 0 (indexes t)) ≡ take i (enumerate_from 0 (indexes t)) ++ (i, columns) ∷ []
index_at t i columns at =
    let within : i < length (indexes t) = slice_get_within (indexes t) i columns at in
    let within_all : i < length (enumerate_from 0 (indexes t)) = omega (arith, length-enumerate_from 0 (indexes t)) in
    let there : get_or (enumerate_from 0 (indexes t)) i (0, columns) ≡ (0 + i, get_or (indexes t) i columns) = get_or-enumerate_from 0 (indexes t) i (0, columns) within in
    let number : 0 + i ≡ i = omega arith in
    take_more (enumerate_from 0 (indexes t)) i (0, columns) within_all
    ∙ ap (λ (x : ℕ × List ℕ). take i (enumerate_from 0 (indexes t)) ++ x ∷ []) (there ∙ ap (λ (n : ℕ). (n, get_or (indexes t) i columns)) number ∙ ap (λ (cs : List ℕ). (i, cs)) (get_or_from_slice_get (indexes t) i columns columns at))

one_more_index : (t : Table) (ps : List Partition) (old : Option (List Datum)) (new : List Datum) (i : ℕ) (columns : List ℕ) → slice_get (indexes t) i ≡ Some columns
    → keys_among t ps old new (take (i + 1) (enumerate_from 0 (indexes t)))
    ≡ keys_among t ps old new (take i (enumerate_from 0 (indexes t))) ++ keys_among t ps old new ((i, columns) ∷ [])
one_more_index t ps old new i columns at =
    let test : ℕ × List ℕ → Bool = λ (x : ℕ × List ℕ). is_new_in old new x.1 in
    ap (keys_among t ps old new) (index_at t i columns at)
    ∙ ap (λ xs. key_lookups t ps xs new) (filter-append test (take i (enumerate_from 0 (indexes t))) ((i, columns) ∷ []))
    ∙ flat_map-append (index_lookups t ps new) (filter test (take i (enumerate_from 0 (indexes t)))) (filter test ((i, columns) ∷ []))

pub key_is_new : (t : Table) (ps : List Partition) (old : Option (List Datum)) (new : List Datum) (i : ℕ) (columns : List ℕ) (held before after : List Lookup)
    → slice_get (indexes t) i ≡ Some columns → true ≡ is_new_in old new columns → before ≡ held ++ keys_among t ps old new (take i (enumerate_from 0 (indexes t)))
    → after ≡ before ++ map (key_lookup i (index_values t i new)) (own_first (region_of t new) ps)
    → after ≡ held ++ keys_among t ps old new (take (i + 1) (enumerate_from 0 (indexes t)))
key_is_new t ps old new i columns held before after at is_new so_far pushed =
    let front : List Lookup = keys_among t ps old new (take i (enumerate_from 0 (indexes t))) in
    let values : index_values t i new ≡ values_at columns new = ap (λ (o : Option (List ℕ)). unwrap_or (option_map (λ places. values_at places new) o) []) at in
    let here : keys_among t ps old new ((i, columns) ∷ []) ≡ map (key_lookup i (index_values t i new)) (own_first (region_of t new) ps) =
    chosen t ps old new (i, columns) true (sym is_new) ∙ ap (λ (vs : List Datum). map (key_lookup i vs) (own_first (region_of t new) ps)) (sym values) in
    pushed
    ∙ ap (λ (ls : List Lookup). ls ++ map (key_lookup i (index_values t i new)) (own_first (region_of t new) ps)) so_far
    ∙ append_assoc held front (map (key_lookup i (index_values t i new)) (own_first (region_of t new) ps))
    ∙ ap (λ (ls : List Lookup). held ++ (front ++ ls)) (sym here)
    ∙ ap (λ (ls : List Lookup). held ++ ls) (sym (one_more_index t ps old new i columns at))

pub key_is_old : (t : Table) (ps : List Partition) (old : Option (List Datum)) (new : List Datum) (i : ℕ) (columns : List ℕ) (held before : List Lookup)
    → slice_get (indexes t) i ≡ Some columns → false ≡ is_new_in old new columns → before ≡ held ++ keys_among t ps old new (take i (enumerate_from 0 (indexes t)))
    → before ≡ held ++ keys_among t ps old new (take (i + 1) (enumerate_from 0 (indexes t)))
key_is_old t ps old new i columns held before at is_old so_far =
    let front : List Lookup = keys_among t ps old new (take i (enumerate_from 0 (indexes t))) in
    so_far
    ∙ ap (λ (ls : List Lookup). held ++ ls) (sym (append-nil front))
    ∙ ap (λ (ls : List Lookup). held ++ (front ++ ls)) (sym (chosen t ps old new (i, columns) false (sym is_old)))
    ∙ ap (λ (ls : List Lookup). held ++ ls) (sym (one_more_index t ps old new i columns at))

pub all_keys_seen : (t : Table) (ps : List Partition) (old : Option (List Datum)) (new : List Datum) (i : ℕ) (held after : List Lookup) → length t.unique + 1 ≤ i
    → after ≡ held ++ keys_among t ps old new (take i (enumerate_from 0 (indexes t))) → after ≡ held ++ key_lookups t ps (new_indexes t old new) new
all_keys_seen t ps old new i held after h so_far =
    let past : length (enumerate_from 0 (indexes t)) ≤ i = omega (arith, count_indexes t, length-enumerate_from 0 (indexes t)) in
    so_far ∙ ap (λ (xs : List (ℕ × List ℕ)). held ++ keys_among t ps old new xs) (take_all i (enumerate_from 0 (indexes t)) past)

-- ---- rows

all_pass : {X : Type 0} (xs : List X) → filter (λ x. true) xs ≡ xs
all_pass [] = refl
all_pass (x ∷ xs) = ap (λ ys. x ∷ ys) (all_pass xs)

pub all_are_new : (t : Table) (row : List Datum) → new_indexes t None row ≡ enumerate_from 0 (indexes t)
all_are_new t row = all_pass (enumerate_from 0 (indexes t))

pub row_inserted : (t : Table) (ps : List Partition) (rows : List (List Datum)) (i : ℕ) (row : List Datum) (before after : List Lookup) → i < length rows → row ≡ get_or rows i row
    → before ≡ flat_map (key_lookups t ps (enumerate_from 0 (indexes t))) (take i rows) → after ≡ before ++ key_lookups t ps (new_indexes t None row) row
    → after ≡ flat_map (key_lookups t ps (enumerate_from 0 (indexes t))) (take (i + 1) rows)
row_inserted t ps rows i row before after h is so_far pushed =
    let one : List Datum → List Lookup = key_lookups t ps (enumerate_from 0 (indexes t)) in
    pushed
    ∙ ap (λ xs. before ++ key_lookups t ps xs row) (all_are_new t row)
    ∙ ap (λ (ls : List Lookup). ls ++ one row) so_far
    ∙ ap (λ (ls : List Lookup). flat_map one (take i rows) ++ ls) (sym (append-nil (one row)))
    ∙ sym (flat_map-append one (take i rows) (row ∷ []))
    ∙ ap (λ (r : List Datum). flat_map one (take i rows ++ r ∷ [])) is
    ∙ ap (flat_map one) (sym (take_more rows i row h))

pub all_inserted : (t : Table) (ps : List Partition) (rows : List (List Datum)) (i : ℕ) (after : List Lookup) → length rows ≤ i
    → after ≡ flat_map (key_lookups t ps (enumerate_from 0 (indexes t))) (take i rows) → after ≡ new_row_lookups t ps rows
unfolding new_row_lookups
all_inserted t ps rows i after h so_far = so_far ∙ ap (flat_map (key_lookups t ps (enumerate_from 0 (indexes t)))) (take_all i rows h)

changed_one : (t : Table) (ps : List Partition) (old new : List Datum) (olds news : List (List Datum))
    → changed_row_lookups t ps (old ∷ olds) (new ∷ news) ≡ key_lookups t ps (new_indexes t (Some old) new) new ++ changed_row_lookups t ps olds news
unfolding changed_row_lookups
changed_one t ps old new olds news = refl

pub row_changed : (t : Table) (ps : List Partition) (olds news : List (List Datum)) (i : ℕ) (old new : List Datum) (before after total : List Lookup)
    → slice_get olds i ≡ Some old → i < length news → new ≡ get_or news i new → before ++ changed_row_lookups t ps (drop i olds) (drop i news) ≡ total
    → after ≡ before ++ key_lookups t ps (new_indexes t (Some old) new) new → after ++ changed_row_lookups t ps (drop (i + 1) olds) (drop (i + 1) news) ≡ total
row_changed t ps olds news i old new before after total at h is so_far pushed =
    let first_old : drop i olds ≡ old ∷ drop (i + 1) olds =
    drop_more olds i old (slice_get_within olds i old at) ∙ ap (λ r. r ∷ drop (i + 1) olds) (get_or_from_slice_get olds i old old at) in
    let first_new : drop i news ≡ new ∷ drop (i + 1) news = drop_more news i new h ∙ ap (λ r. r ∷ drop (i + 1) news) (sym is) in
    let keys : List Lookup = key_lookups t ps (new_indexes t (Some old) new) new in
    let rest : List Lookup = changed_row_lookups t ps (drop (i + 1) olds) (drop (i + 1) news) in
    ap (λ (ls : List Lookup). ls ++ rest) pushed
    ∙ append_assoc before keys rest
    ∙ ap (λ (ls : List Lookup). before ++ ls) (sym (changed_one t ps old new (drop (i + 1) olds) (drop (i + 1) news)))
    ∙ ap (λ (rs : List (List Datum)). before ++ changed_row_lookups t ps rs (new ∷ drop (i + 1) news)) (sym first_old)
    ∙ ap (λ (rs : List (List Datum)). before ++ changed_row_lookups t ps (drop i olds) rs) (sym first_new)
    ∙ so_far

no_old : (t : Table) (ps : List Partition) (news : List (List Datum)) → changed_row_lookups t ps [] news ≡ []
unfolding changed_row_lookups
no_old t ps news = refl

no_new : (t : Table) (ps : List Partition) (olds : List (List Datum)) → changed_row_lookups t ps olds [] ≡ []
unfolding changed_row_lookups
no_new t ps [] = refl
no_new t ps (old ∷ olds) = refl

pub olds_ended : (t : Table) (ps : List Partition) (olds news : List (List Datum)) (i : ℕ) (before total : List Lookup) → length olds ≤ i
    → before ++ changed_row_lookups t ps (drop i olds) (drop i news) ≡ total → before ≡ total
olds_ended t ps olds news i before total h so_far =
    sym (append-nil before)
    ∙ ap (λ (ls : List Lookup). before ++ ls) (sym (no_old t ps (drop i news)))
    ∙ ap (λ (rs : List (List Datum)). before ++ changed_row_lookups t ps rs (drop i news)) (sym (drop_all i olds h))
    ∙ so_far

pub news_ended : (t : Table) (ps : List Partition) (olds news : List (List Datum)) (i : ℕ) (before total : List Lookup) → length news ≤ i
    → before ++ changed_row_lookups t ps (drop i olds) (drop i news) ≡ total → before ≡ total
news_ended t ps olds news i before total h so_far =
    sym (append-nil before)
    ∙ ap (λ (ls : List Lookup). before ++ ls) (sym (no_new t ps (drop i olds)))
    ∙ ap (λ (rs : List (List Datum)). before ++ changed_row_lookups t ps (drop i olds) rs) (sym (drop_all i news h))
    ∙ so_far
