use Rattle.row_locality.proofs.KeyLemmas.{keys_order}
use Rattle.row_locality.proofs.key_laws.keys_order_as_values.Goals as goal

pub returns : goal.returns
returns c = keys_order
