use Rattle.row_locality.proofs.PointLemmas.{all_rows_holds}
use Rattle.row_locality.proofs.key_laws.all_rows_are_the_primary_keys.Goals as goal

pub returns : goal.returns
returns c = all_rows_holds
