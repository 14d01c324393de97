-- What bounded staleness looks at: the ranges and spans that the gateway's replicas must be able to serve at
-- one time. Source: CockroachDB's documentation of bounded staleness reads, in this project's profile.
use Rattle.std.specs.Prelude.{ℕ, ◌==◌, if◌then◌else◌, List, [], ◌∷◌, map, Option, Some, None, option_and_then, Result, Ok, Err}
use Rattle.std.specs.Option.{option_map_or}
use Rattle.mr_base.specs.declared.spans.Ask.{Ask}
use Rattle.mr_base.specs.declared.spans.Span.{Span}
use Rattle.mr_base.specs.declared.states.SqlState.{SqlState}
use Rattle.region_sql.specs.declared.row_statements.RowStatement.{RowStatement}
use Rattle.region_sql.specs.declared.row_statements.RowStatement.TheVariants.{Insert, Select, Update, Delete}
use Rattle.region_sql.specs.declared.row_statements.Term.{Term}
use Rattle.descriptors.specs.declared.table.Table.{Table}
use Rattle.row_locality.specs.Keys.{index_key}
use Rattle.row_locality.specs.Plain.{Partition}
use Rattle.row_locality.specs.Spans.{all_keys, point_of}
use Rattle.sql_eval.specs.Evaluation.{Setting, partitions_of}
use Rattle.sql_eval.specs.Execution.{Named, named_table}
use Rattle.sql_eval.specs.Faults.{check_fault}
use Rattle.sql_eval.specs.Lookups.{fixed_values, searched_partitions}
use Rattle.sql_eval.specs.Search.{Lookup}

-- The point of the primary key where each of its columns has a term with `=`, else all keys of a partition.
abbrev pub fresh_span : Table → List Term → Span
fresh_span t terms = option_map_or (λ values. point_of (index_key 0 values)) (fixed_values t terms t.key) all_keys

-- That span in each range of the table, or in the one that a term `crdb_region = 'x'` names, in the order of
-- ranges.
abbrev pub fresh_asks_in : Table → List Partition → List Term → List Ask
fresh_asks_in t ps terms =
    map (λ p. record { range = p.range; span = fresh_span t terms }) (searched_partitions terms ps)

-- A look-up as it is looked at: the point, where it is in the primary index, else all keys of its range.
abbrev pub looked_at : Option ℕ → Lookup → Ask
looked_at by l = record {
  range = l.partition.range;
  span = option_map_or (λ number. if number == 0 then l.span else all_keys) by all_keys;
}

abbrev pub unless_faulty : Option SqlState → List Ask → Option (List Ask)
unless_faulty None asks = Some asks
unless_faulty (Some e) asks = None

-- Of a SELECT of this table, where it has no fault before any row is looked at.
abbrev pub fresh_asks_on : Setting → RowStatement → List Term → Named → Option (List Ask)
fresh_asks_on s one terms n =
    unless_faulty (check_fault n.table n.database one) (fresh_asks_in n.table (partitions_of s.layout n) terms)

abbrev pub fresh_asks_of : Setting → RowStatement → Option (List Ask)
fresh_asks_of s (Insert table names rows) = None
fresh_asks_of s (Select table wanted terms) =
    option_and_then (fresh_asks_on s (Select table wanted terms) terms) (named_table s.layout.catalog table)
fresh_asks_of s (Update table targets terms) = None
fresh_asks_of s (Delete table terms) = None

-- None unless the list is one SELECT without such a fault.
abbrev pub fresh_asks_of_list : Setting → Result (List RowStatement) SqlState → Option (List Ask)
fresh_asks_of_list s (Ok []) = None
fresh_asks_of_list s (Ok (one ∷ [])) = fresh_asks_of s one
fresh_asks_of_list s (Ok (one ∷ other ∷ more)) = None
fresh_asks_of_list s (Err e) = None

abbrev pub fresh_asks : Setting → Option (List Ask)
fresh_asks s = fresh_asks_of_list s s.list
