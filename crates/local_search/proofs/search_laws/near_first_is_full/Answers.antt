use Rattle.local_search.proofs.FullSearches.{near_first_is_full}
use Rattle.local_search.proofs.search_laws.near_first_is_full.Goals as goal

pub returns : goal.returns
returns c = near_first_is_full
