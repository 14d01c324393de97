use Rattle.row_locality.proofs.RowLemmas.{reshaped_row_fits}
use Rattle.row_locality.proofs.reshaping.reshape.Goals as goal

pub returns-clause-fits : goal.returns-clause-fits
returns-clause-fits c = λ can. reshaped_row_fits c.args.old.now c.args.new.now c.args.primary.now c.args.row.now c.reshaped.result c.reshaped.ensures can
