use Rattle.std.proofs.Common.{◌≡◌, ◌≤◌, length, drop}
use Rattle.sql_eval.specs.Execution.{exec_list}
use Rattle.sql_eval.specs.Tables.{database_in}
use Rattle.sql_eval.proofs.ExecutionSteps.{answered_after}
use Rattle.sql_eval.proofs.execution.exec_list.Given as goal

abbrev pub invariant-loop-s : goal.invariant-loop-s
invariant-loop-s l =
    (length l.catalog.tables ≤ length l.tables.items)
    × (exec_list l.catalog l.gateway l.list (database_in l.initial.tables.items) ≡ answered_after l.answers (exec_list l.catalog l.gateway (drop l.s-index l.list) (database_in l.tables.items)))
