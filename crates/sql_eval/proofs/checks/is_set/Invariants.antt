use Rattle.std.proofs.Common.{◌≡◌, map, drop}
use Rattle.descriptors.specs.Lists.{has_name}
use Rattle.sql_eval.proofs.checks.is_set.Given as goal

abbrev pub invariant-loop-x : goal.invariant-loop-x
invariant-loop-x l = has_name (map (λ x. x.column) l.targets) l.name ≡ has_name (map (λ x. x.column) (drop l.x-index l.targets)) l.name
