use Rattle.zone_report.proofs.Placed.{ranges_are_placed}
use Rattle.zone_report.proofs.laws.ranges_are_placed.Goals as goal

pub returns : goal.returns
returns c = ranges_are_placed
