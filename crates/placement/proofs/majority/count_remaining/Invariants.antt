use Rattle.std.proofs.Common.{◌≡◌, take}
use Rattle.std.specs.Prelude.{count_by}
use Rattle.placement.specs.Majority.{remains}
use Rattle.placement.proofs.majority.count_remaining.Given as goal

abbrev pub invariant-loop-voter : goal.invariant-loop-voter
invariant-loop-voter l = l.remaining ≡ count_by (remains l.lost) (take l.voter-index l.voters)
