use Rattle.range_replicas.proofs.VoterLemmas.{majority}
use Rattle.range_replicas.proofs.making.majority_is_more_than_half.Goals as goal

pub returns : goal.returns
returns c = majority
