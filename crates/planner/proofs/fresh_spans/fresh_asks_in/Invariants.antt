use Rattle.std.proofs.Common.{◌≡◌, take}
use Rattle.planner.specs.FreshAsks.{fresh_asks_in}
use Rattle.planner.proofs.fresh_spans.fresh_asks_in.Given as goal

abbrev pub invariant-loop-partition : goal.invariant-loop-partition
invariant-loop-partition l = l.asks ≡ fresh_asks_in l.t (take l.partition-index l.partitions) l.terms
