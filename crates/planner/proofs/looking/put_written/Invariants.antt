use Rattle.std.proofs.Common.{◌≡◌, drop, map}
use Rattle.row_locality.specs.Pairs.{key_value}
use Rattle.planner.specs.Putting.{with_written}
use Rattle.planner.proofs.looking.put_written.Given as goal

-- what is left to put into the pairs leads to the same as all of it
abbrev pub invariant-loop-key : goal.invariant-loop-key
invariant-loop-key l =
    with_written (drop l.key-index l.written) (map key_value l.pairs.items) ≡ with_written l.written (map key_value l.fn.pairs.items)
