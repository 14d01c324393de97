-- The indexes in which a row has values that it didn't have before. Source: this project's profile.
use Rattle.std.specs.Prelude.{ℕ, Bool, true, not, List, [], filter, slice_get, Option, option_map, unwrap_or}
use Rattle.std.specs.List.{enumerate_from}
use Rattle.std.specs.Option.{option_map_or}
use Rattle.mr_base.specs.declared.rows.Datum.{Datum}
use Rattle.descriptors.specs.declared.table.Table.{Table}
use Rattle.row_locality.specs.Rows.{indexes, values_at, are_equal_in}

-- Whether the row has other values in these columns than the old one, or there is no old one.
abbrev pub is_new_in : Option (List Datum) → List Datum → List ℕ → Bool
is_new_in old new places = option_map_or (λ o. not (are_equal_in o new places)) old true

abbrev pub new_indexes : Table → Option (List Datum) → List Datum → List (ℕ × List ℕ)
new_indexes t old new = filter (λ x. is_new_in old new x.1) (enumerate_from 0 (indexes t))

-- The values of a row in the columns of the index of a number.
abbrev pub index_values : Table → ℕ → List Datum → List Datum
index_values t index row = unwrap_or (option_map (λ places. values_at places row) (slice_get (indexes t) index)) []
