use Rattle.std.proofs.Common.{◌≡◌, ◌++◌, drop}
use Rattle.sql_eval.specs.Lookups.{changed_row_lookups}
use Rattle.local_search.proofs.key_lookups.changed_row_lookups.Given as goal

abbrev pub invariant-loop-i : goal.invariant-loop-i
invariant-loop-i l =
    l.lookups ++ changed_row_lookups l.t l.partitions (drop l.i l.olds) (drop l.i l.news) ≡ changed_row_lookups l.t l.partitions l.olds l.news
