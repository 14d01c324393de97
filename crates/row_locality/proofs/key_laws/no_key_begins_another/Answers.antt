use Rattle.row_locality.proofs.KeyLemmas.{no_key_begins_another}
use Rattle.row_locality.proofs.key_laws.no_key_begins_another.Goals as goal

pub returns : goal.returns
returns c = no_key_begins_another
