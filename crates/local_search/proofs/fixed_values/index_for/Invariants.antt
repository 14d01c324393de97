use Rattle.std.proofs.Common.{◌≡◌, drop}
use Rattle.std.specs.List.{enumerate_from}
use Rattle.row_locality.specs.Rows.{indexes}
use Rattle.sql_eval.specs.Lookups.{first_fixed, index_for}
use Rattle.local_search.proofs.fixed_values.index_for.Given as goal

abbrev pub invariant-loop-index : goal.invariant-loop-index
invariant-loop-index l = first_fixed l.t l.terms (enumerate_from l.index (drop l.index (indexes l.t))) ≡ index_for l.t l.terms
