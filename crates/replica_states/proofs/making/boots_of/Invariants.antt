use Rattle.std.proofs.Common.{◌≡◌, map, take}
use Rattle.replica_states.specs.FirstRange.{boot_in}
use Rattle.replica_states.proofs.making.boots_of.Given as goal

abbrev pub invariant-loop-n : goal.invariant-loop-n
invariant-loop-n l = l.boots.items ≡ map (boot_in l.fn.nodes) (take l.n-index l.fn.replicas)
