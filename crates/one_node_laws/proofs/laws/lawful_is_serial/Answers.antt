use Rattle.one_node_laws.proofs.SumOf.{serial}
use Rattle.one_node_laws.proofs.laws.lawful_is_serial.Goals as goal

pub returns : goal.returns
returns c = serial
