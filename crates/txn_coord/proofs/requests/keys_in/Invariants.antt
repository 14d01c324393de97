use Rattle.std.proofs.Common.{◌≡◌, ◌++◌, drop}
use Rattle.txn_coord.specs.Asking.{keys_in}
use Rattle.txn_coord.proofs.requests.keys_in.Given as goal

abbrev pub invariant-loop-write : goal.invariant-loop-write
invariant-loop-write l = l.keys ++ keys_in l.range (drop l.write-index l.writes) ≡ keys_in l.range l.writes
