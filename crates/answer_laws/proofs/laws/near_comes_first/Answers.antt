use Rattle.answer_laws.proofs.NearSearches.{near_comes_first}
use Rattle.answer_laws.proofs.laws.near_comes_first.Goals as goal

pub returns : goal.returns
returns c = near_comes_first
