use Rattle.std.specs.Prelude.{ℕ, ◌+◌, ◌==◌, Bool, false, not, ◌||◌, nat_lt, List, [], ◌∷◌, ◌++◌, length, position, codes}
use Rattle.std.specs.List.{list_any, list_all, filter_map}
use Rattle.std.specs.Str.{bytes_eq}
use Rattle.region_sql.specs.declared.region_statements.ColumnType.{ColumnType}
use Rattle.region_sql.specs.declared.region_statements.ColumnKey.TheVariants.{Plain, Primary, Unique}
use Rattle.region_sql.specs.declared.region_statements.Item.{Item}
use Rattle.region_sql.specs.declared.region_statements.Item.TheVariants.{Column, Key}
use Rattle.descriptors.specs.Lists.{has_twice}

-- The columns that the items of CREATE TABLE declare, in their order.
abbrev pub columns_of : List Item → List (List ℕ × ColumnType)
columns_of [] = []
columns_of (Column name ty not_null key ∷ items) = (name, ty) ∷ columns_of items
columns_of (Key columns ∷ items) = columns_of items

-- How many primary keys they declare.
abbrev pub keys_declared : List Item → ℕ
keys_declared [] = 0
keys_declared (Column name ty not_null Primary ∷ items) = 1 + keys_declared items
keys_declared (Column name ty not_null Plain ∷ items) = keys_declared items
keys_declared (Column name ty not_null Unique ∷ items) = keys_declared items
keys_declared (Key columns ∷ items) = 1 + keys_declared items

-- The columns that these keys name, in their order.
abbrev pub key_names : List Item → List (List ℕ)
key_names [] = []
key_names (Column name ty not_null Primary ∷ items) = name ∷ key_names items
key_names (Column name ty not_null Plain ∷ items) = key_names items
key_names (Column name ty not_null Unique ∷ items) = key_names items
key_names (Key columns ∷ items) = columns ++ key_names items

-- The places of the UNIQUE columns, the next column being at this place.
abbrev pub unique_from : ℕ → List Item → List ℕ
unique_from place [] = []
unique_from place (Column name ty not_null Unique ∷ items) = place ∷ unique_from (place + 1) items
unique_from place (Column name ty not_null Plain ∷ items) = unique_from (place + 1) items
unique_from place (Column name ty not_null Primary ∷ items) = unique_from (place + 1) items
unique_from place (Key columns ∷ items) = unique_from place items

abbrev pub has_column : List (List ℕ × ColumnType) → List ℕ → Bool
has_column columns name = list_any (λ c. bytes_eq name c.0) columns

-- Whether a column is named twice.
abbrev pub has_column_twice : List (List ℕ × ColumnType) → Bool
has_column_twice [] = false
has_column_twice (c ∷ columns) = has_column columns c.0 || has_column_twice columns

-- The place of each of these columns.
abbrev pub places_of : List (List ℕ × ColumnType) → List (List ℕ) → List ℕ
places_of columns names = filter_map (λ name. position (λ c. bytes_eq name c.0) columns) names

-- Columns, with these in the key, that make no table: a column is named twice or is named crdb_region, a
-- key column isn't a column or is named twice, or there are more than 16 columns. (This project's profile.)
abbrev pub break_a_rule : List (List ℕ × ColumnType) → List (List ℕ) → Bool
break_a_rule columns names =
    nat_lt 16 (length columns)
    || has_column_twice columns
    || has_column columns (codes "crdb_region")
    || not (list_all (has_column columns) names)
    || has_twice names

-- Items that make no table: there is no primary key or more than one, or the columns make none.
abbrev pub make_no_table : List Item → Bool
make_no_table items =
    not (keys_declared items == 1)
    || (length (key_names items) == 0)
    || break_a_rule (columns_of items) (key_names items)
