use Rattle.row_locality.proofs.PointLemmas.{point_holds}
use Rattle.row_locality.proofs.key_laws.point_holds_one_key.Goals as goal

pub returns : goal.returns
returns c = point_holds
