-- Which spans a statement looks up, and in which order. Source: CockroachDB's documentation of locality
-- optimized search and of UNIQUE constraints in REGIONAL BY ROW tables, in this project's profile.
use Rattle.std.specs.Prelude.{ℕ, Bool, true, false, not, ◌&&◌, List, [], ◌∷◌, ◌++◌, map, filter, flat_map, find, slice_get, Option, Some, None, option_map, option_and_then}
use Rattle.std.specs.List.{enumerate_from}
use Rattle.std.specs.Option.{option_map_or, option_or}
use Rattle.std.specs.Str.{bytes_eq}
use Rattle.mr_base.specs.declared.rows.Datum.{Datum}
use Rattle.region_sql.specs.declared.row_statements.Comparison.{Comparison}
use Rattle.region_sql.specs.declared.row_statements.Comparison.TheVariants as comparisons
use Rattle.region_sql.specs.declared.row_statements.Term.{Term}
use Rattle.descriptors.specs.declared.table.Table.{Table}
use Rattle.row_locality.specs.Keys.{index_key}
use Rattle.row_locality.specs.Plain.{Partition}
use Rattle.row_locality.specs.Rows.{region_column, region_of, indexes, values_at, are_equal_in, text_of}
use Rattle.row_locality.specs.Spans.{point_of, all_rows}
use Rattle.sql_eval.specs.RowWords.{datum_of}
use Rattle.sql_eval.specs.Search.{Lookup}

-- ---- what terms fix

abbrev pub is_equality : Comparison → Bool
is_equality comparisons.Eq = true
is_equality comparisons.Lt = false
is_equality comparisons.Le = false
is_equality comparisons.Gt = false
is_equality comparisons.Ge = false
is_equality comparisons.Ne = false

-- The value to which the first term with `=` on a column fixes it.
abbrev pub fixed_value : List Term → List ℕ → Option Datum
fixed_value terms name = option_map (λ x. datum_of x.literal) (find (λ x. bytes_eq name x.column && is_equality x.op) terms)

-- The region to which the terms fix the rows.
abbrev pub fixed_region : List Term → Option (List ℕ)
fixed_region terms = option_and_then text_of (fixed_value terms region_column.0)

abbrev pub fixed_value_at : Table → List Term → ℕ → Option Datum
fixed_value_at t terms place = option_and_then (λ c. fixed_value terms c.0) (slice_get t.columns place)

-- The values of these columns, where each has a term with `=`.
abbrev pub fixed_values : Table → List Term → List ℕ → Option (List Datum)
fixed_values t terms [] = Some []
fixed_values t terms (place ∷ places) =
    option_and_then (λ v. option_map (λ vs. v ∷ vs) (fixed_values t terms places)) (fixed_value_at t terms place)

abbrev pub first_fixed : Table → List Term → List (ℕ × List ℕ) → Option (ℕ × List Datum)
first_fixed t terms [] = None
first_fixed t terms (x ∷ xs) = option_or (option_map (λ vs. (x.0, vs)) (fixed_values t terms x.1)) (first_fixed t terms xs)

-- The index by which rows are found, with the values of its columns: the first of the primary key and the
-- UNIQUE columns of which the terms fix each column. With none all rows are read.
unfoldable pub index_for : Table → List Term → Option (ℕ × List Datum)
index_for t terms = first_fixed t terms (enumerate_from 0 (indexes t))

-- ---- partitions in the order of a search

abbrev pub is_in_region : List ℕ → Partition → Bool
is_in_region region p = option_map_or (bytes_eq region) p.region false

-- The partition of this region first, where there is one, then the others as they stand.
abbrev pub near_first : List ℕ → List Partition → List Partition
near_first region ps = filter (is_in_region region) ps ++ filter (λ p. not (is_in_region region p)) ps

-- The partitions in which rows can match: those of the region to which the terms fix them.
abbrev pub searched_partitions : List Term → List Partition → List Partition
searched_partitions terms ps = option_map_or (λ region. filter (is_in_region region) ps) (fixed_region terms) ps

-- ---- rows that match

abbrev pub key_lookup : ℕ → List Datum → Partition → Lookup
key_lookup number values p = record { partition = p; index = number; span = point_of (index_key number values) }

abbrev pub primary_lookup : List ℕ → Partition → Lookup
primary_lookup key p = record { partition = p; index = 0; span = point_of key }

abbrev pub whole_partition : Partition → Lookup
whole_partition p = record { partition = p; index = 0; span = all_rows }

-- By an index: its key in the partitions, the near one first. Else all rows, in catalog order.
abbrev pub row_lookups : List ℕ → Option (ℕ × List Datum) → List Partition → List Lookup
row_lookups gateway None ps = map whole_partition ps
row_lookups gateway (Some x) ps = map (key_lookup x.0 x.1) (near_first gateway ps)

-- ---- rows that must not be there

abbrev pub own_first : Option (List ℕ) → List Partition → List Partition
own_first None ps = ps
own_first (Some region) ps = near_first region ps

-- A new row's key in an index, in its own partition first, then in the others in catalog order.
abbrev pub index_lookups : Table → List Partition → List Datum → ℕ × List ℕ → List Lookup
index_lookups t ps row x = map (key_lookup x.0 (values_at x.1 row)) (own_first (region_of t row) ps)

-- A new row in these indexes.
abbrev pub key_lookups : Table → List Partition → List (ℕ × List ℕ) → List Datum → List Lookup
key_lookups t ps xs row = flat_map (index_lookups t ps row) xs

-- The rows of an INSERT, each in all indexes.
unfoldable pub new_row_lookups : Table → List Partition → List (List Datum) → List Lookup
new_row_lookups t ps rows = flat_map (key_lookups t ps (enumerate_from 0 (indexes t))) rows

-- The indexes in which two rows differ.
abbrev pub changed_indexes : Table → (old new : List Datum) → List (ℕ × List ℕ)
changed_indexes t old new = filter (λ x. not (are_equal_in old new x.1)) (enumerate_from 0 (indexes t))

-- The rows of an UPDATE, each in the indexes in which it changes.
unfoldable pub changed_row_lookups : Table → List Partition → (olds news : List (List Datum)) → List Lookup
changed_row_lookups t ps [] news = []
changed_row_lookups t ps (old ∷ olds) [] = []
changed_row_lookups t ps (old ∷ olds) (new ∷ news) = key_lookups t ps (changed_indexes t old new) new ++ changed_row_lookups t ps olds news
