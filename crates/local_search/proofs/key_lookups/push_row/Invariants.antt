use Rattle.std.proofs.Common.{◌≡◌, ◌++◌, take}
use Rattle.std.specs.Prelude.{filter}
use Rattle.std.specs.List.{enumerate_from}
use Rattle.std.specs.Option.{option_copied}
use Rattle.row_locality.specs.Rows.{indexes}
use Rattle.sql_eval.specs.Lookups.{key_lookups}
use Rattle.local_search.specs.ChangedKeys.{is_new_in}
use Rattle.local_search.proofs.key_lookups.push_row.Given as goal

abbrev pub invariant-loop-index : goal.invariant-loop-index
invariant-loop-index l =
    l.lookups ≡ l.fn.lookups ++ key_lookups l.t l.partitions (filter (λ x. is_new_in (option_copied l.old) l.new x.1) (take l.index (enumerate_from 0 (indexes l.t)))) l.new
