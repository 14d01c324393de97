use Rattle.std.proofs.Common.{◌≡◌, drop, map}
use Rattle.row_locality.specs.Pairs.{key_value}
use Rattle.sql_eval.specs.Evaluation.{meets_other}
use Rattle.planner.proofs.unique_check.meets_other.Given as goal

abbrev pub invariant-loop-pair : goal.invariant-loop-pair
invariant-loop-pair l =
    meets_other l.replaced (l.lookup, map key_value l.pairs) ≡ meets_other l.replaced (l.lookup, map key_value (drop l.pair-index l.pairs))
