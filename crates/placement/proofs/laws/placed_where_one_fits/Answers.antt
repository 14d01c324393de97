use Rattle.placement.proofs.Lacking.{placed_where_one_fits}
use Rattle.placement.proofs.laws.placed_where_one_fits.Goals as goal

pub returns : goal.returns
returns c = placed_where_one_fits
