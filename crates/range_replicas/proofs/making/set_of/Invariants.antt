use Rattle.std.proofs.Common.{◌≡◌, take}
use Rattle.range_replicas.specs.Voters.{set_of}
use Rattle.range_replicas.proofs.making.set_of.Given as goal

abbrev pub invariant-loop-n : goal.invariant-loop-n
invariant-loop-n l = l.set ≡ set_of (take l.n-index l.nodes)
