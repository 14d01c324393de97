-- The columns of the index of a number, and the span of its keys.
use Rattle.std.proofs.Common.{◌≡◌, ℕ, zero, suc, ◌-◌, ◌<◌, ◌≤◌, ◌==◌, true, false, List, [], ◌∷◌, length, map, get_or, refl, sym, ap, subst, ◌∙◌, inl, inr, arith, eqb}
use Rattle.std.specs.Prelude.{AllPairs, Contains, Option, Some, None, slice_get, option_map, option_and_then}
use Rattle.std.specs.List.{AllZip, position_or_len}
use Rattle.std.proofs.lemmas.Bool.Decides.{nat_tests}
use Rattle.std.proofs.lemmas.Bool.{cases_lt}
use Rattle.std.proofs.lemmas.List.Sums.{passes_at_first, fails_before_first}
use Rattle.std.proofs.lemmas.Option.{slice_get-get_or, slice_get-map}
use Rattle.mr_base.specs.declared.rows.Datum.{Datum}
use Rattle.mr_base.specs.declared.spans.Pair.{Pair}
use Rattle.mr_base.specs.declared.spans.Span.{Span}
use Rattle.region_sql.specs.declared.region_statements.ColumnType.{ColumnType}
use Rattle.descriptors.specs.declared.table.Table.{Table}
use Rattle.descriptors.specs.Sound.{IsSoundTable}
use Rattle.row_locality.specs.Decoding.{point_named}
use Rattle.row_locality.specs.Keys.{types_at, index_types}
use Rattle.row_locality.specs.Pairs.{key_value}
use Rattle.row_locality.specs.Reading.{primary_of}
use Rattle.row_locality.specs.Rows.{HasType, index_of, indexes}
use Rattle.row_locality.specs.Spans.{point_of}
use Rattle.row_locality.proofs.KeyPartLemmas.{index_types_of}
use Rattle.sql_eval.specs.Evaluation.{led_to}
use Rattle.sql_eval.specs.Lookups.{primary_lookup}
use Rattle.sql_eval.specs.Search.{Lookup}
use Rattle.local_search.specs.LookupOrder.{lookup_in}

-- ---- the columns of an index

pub columns_of_key : (t : Table) (index : ℕ) (columns : List ℕ) → index ≡ 0 → columns ≡ t.key → slice_get (indexes t) index ≡ Some columns
columns_of_key t index columns e f = ap (slice_get (indexes t)) e ∙ ap Some (sym f)

pub columns_of_unique : (t : Table) (index : ℕ) (xs columns : List ℕ) → (index ≡ 0 → ⊥) → index ≤ length t.unique → xs ≡ t.unique
    → columns ≡ get_or xs (index - 1) 0 ∷ [] → slice_get (indexes t) index ≡ Some columns
columns_of_unique t index xs columns some within same single =
    let number : index ≡ suc (index - 1) = omega arith in
    ap (slice_get (indexes t)) number
    ∙ slice_get-map (λ (c : ℕ). c ∷ []) t.unique (index - 1)
    ∙ ap (option_map (λ (c : ℕ). c ∷ [])) (slice_get-get_or t.unique (index - 1) 0 (omega arith))
    ∙ ap (λ (ys : List ℕ). Some (get_or ys (index - 1) 0 ∷ [])) (sym same)
    ∙ ap Some (sym single)

-- ---- the number of a UNIQUE column

first_is : (column : ℕ) (xs : List ℕ) (i : ℕ) → AllPairs (λ j k. j < k) xs → i < length xs → column ≡ get_or xs i 0 → position_or_len (λ c. c == column) xs ≡ i
first_is column xs i rise within is =
    let at = position_or_len (λ c. c == column) xs in
    let itself : eqb (get_or xs i 0) column ≡ true = grind (arith, nat_tests) in
    elim (cases_lt at i) [
      | inl below ↦
          let there : eqb (get_or xs at 0) column ≡ true = passes_at_first (λ c. c == column) xs 0 (omega arith) in
          let less : get_or xs at 0 < get_or xs i 0 = rise at i 0 below within in
          absurd (grind (arith, nat_tests))
      | inr above ↦
          elim (cases_lt i at) [
            | inl past ↦
                let fails : eqb (get_or xs i 0) column ≡ false = fails_before_first (λ c. c == column) xs i 0 past in
                absurd (cc)
            | inr reached ↦ omega arith
          ]
    ]

pub number_of_column : (t : Table) (index : ℕ) (xs : List ℕ) → IsSoundTable t → 1 ≤ index → index ≤ length t.unique → xs ≡ t.unique → index_of t (get_or xs (index - 1) 0) ≡ index
number_of_column t index xs sound some within same =
    let column : ℕ = get_or t.unique (index - 1) 0 in
    let at : position_or_len (λ c. c == column) t.unique ≡ index - 1 = first_is column t.unique (index - 1) sound.unique_rises (omega arith) refl in
    let number : index_of t column ≡ index = omega (arith, at) in
    ap (λ (ys : List ℕ). index_of t (get_or ys (index - 1) 0)) same ∙ number

-- ---- the value of a UNIQUE column

column_below : (t : Table) (column : ℕ) → IsSoundTable t → Contains t.unique column → column < length t.columns
column_below t column sound (k, lt, is) = subst (λ (c : ℕ). c < length t.columns) is (sound.unique_places k column lt)

got_column : {X : Type 0} (xs : List X) (i : ℕ) → i < length xs → (x : X) × (slice_get xs i ≡ Some x)
got_column [] i h = absurd (omega arith)
got_column (x ∷ xs) zero h = (x, refl)
got_column (x ∷ xs) (suc i) h = got_column xs i (omega arith)

one_type : (t : Table) (column : ℕ) → column < length t.columns → length (types_at t (column ∷ [])) ≡ 1
one_type t column h = let c = got_column t.columns column h in rw c.1 refl

single : (values : List Datum) (v : Datum) → length values ≡ 1 → v ≡ get_or values 0 v → values ≡ v ∷ []
single [] v h is = absurd (omega arith)
single (x ∷ []) v h is = ap (λ (y : Datum). y ∷ []) (sym is)
single (x ∷ y ∷ ys) v h is = absurd (omega arith)

unique_types : (t : Table) (index column : ℕ) (values : List Datum) → Contains t.unique column → index_of t column ≡ index → AllZip HasType (index_types t index) values
    → AllZip HasType (types_at t (column ∷ [])) values
unique_types t index column values there number typed =
    subst (λ tys. AllZip HasType tys values) (ap (index_types t) (sym number) ∙ index_types_of t column there) typed

same_length : (tys : List ColumnType) (values : List Datum) → AllZip HasType tys values → length tys ≡ length values
same_length [] [] h = refl
same_length [] (v ∷ vs) h = absurd h
same_length (ty ∷ tys) [] h = absurd h
same_length (ty ∷ tys) (v ∷ vs) h = ap suc (same_length tys vs h.1)

pub one_value : (t : Table) (index column : ℕ) (values : List Datum) → IsSoundTable t → Contains t.unique column → index_of t column ≡ index
    → AllZip HasType (index_types t index) values → length values ≡ 1
one_value t index column values sound there number typed =
    sym (same_length (types_at t (column ∷ [])) values (unique_types t index column values there number typed)) ∙ one_type t column (column_below t column sound there)

pub value_is_typed : (t : Table) (index column : ℕ) (values : List Datum) (v : Datum) → IsSoundTable t → Contains t.unique column → index_of t column ≡ index
    → AllZip HasType (index_types t index) values → v ≡ get_or values 0 v → AllZip HasType (types_at t (column ∷ [])) (v ∷ [])
value_is_typed t index column values v sound there number typed is =
    subst (AllZip HasType (types_at t (column ∷ []))) (single values v (one_value t index column values sound there number typed) is)
    (unique_types t index column values there number typed)

pub values_are_one : (t : Table) (index column : ℕ) (values : List Datum) (v : Datum) → IsSoundTable t → Contains t.unique column → index_of t column ≡ index
    → AllZip HasType (index_types t index) values → v ≡ get_or values 0 v → values ≡ v ∷ []
values_are_one t index column values v sound there number typed is = single values v (one_value t index column values sound there number typed) is

-- ---- the row to which a pair leads

led_by : (p : Lookup) (o : Option (List ℕ)) → option_map (λ key. primary_lookup key p.partition) o ≡ option_map (λ span. lookup_in 0 span p.partition) (option_map point_of o)
led_by p None = refl
led_by p (Some key) = refl

led_is : (t : Table) (by : Lookup) (pairs : List Pair) (pair : Pair) (column : ℕ) → Some pair ≡ slice_get pairs 0 → index_of t column ≡ by.index
    → led_to t by.index (by, map key_value pairs) ≡ option_map (λ span. lookup_in 0 span by.partition) (point_named t column (key_value pair))
led_is t by pairs pair column first number =
    ap (λ o. option_map (λ key. primary_lookup key by.partition) (option_and_then (primary_of t by.index) o)) (slice_get-map key_value pairs 0 ∙ ap (option_map key_value) (sym first))
    ∙ ap (λ (n : ℕ). option_map (λ key. primary_lookup key by.partition) (primary_of t n (key_value pair))) (sym number)
    ∙ led_by by (primary_of t (index_of t column) (key_value pair))

pub leads_there : (t : Table) (by : Lookup) (pairs : List Pair) (pair : Pair) (column : ℕ) (span : Span) → Some pair ≡ slice_get pairs 0 → index_of t column ≡ by.index
    → point_named t column (key_value pair) ≡ Some span → Some (lookup_in 0 span by.partition) ≡ led_to t by.index (by, map key_value pairs)
leads_there t by pairs pair column span first number named =
    sym (led_is t by pairs pair column first number ∙ ap (option_map (λ span. lookup_in 0 span by.partition)) named)

pub leads_nowhere : (t : Table) (by : Lookup) (pairs : List Pair) (pair : Pair) (column : ℕ) → Some pair ≡ slice_get pairs 0 → index_of t column ≡ by.index
    → point_named t column (key_value pair) ≡ None → None ≡ led_to t by.index (by, map key_value pairs)
leads_nowhere t by pairs pair column first number named =
    sym (led_is t by pairs pair column first number ∙ ap (option_map (λ span. lookup_in 0 span by.partition)) named)

pub no_pair : (t : Table) (by : Lookup) (pairs : List Pair) → None ≡ slice_get pairs 0 → None ≡ led_to t by.index (by, map key_value pairs)
no_pair t by pairs first =
    sym (ap (λ o. option_map (λ key. primary_lookup key by.partition) (option_and_then (primary_of t by.index) o)) (slice_get-map key_value pairs 0 ∙ ap (option_map key_value) (sym first)))
