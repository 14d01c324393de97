use Rattle.row_locality.proofs.KeyLemmas.{equal_keys}
use Rattle.row_locality.proofs.key_laws.equal_keys_have_equal_values.Goals as goal

pub returns : goal.returns
returns c = equal_keys
