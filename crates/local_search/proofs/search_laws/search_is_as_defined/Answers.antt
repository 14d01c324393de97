use Rattle.local_search.proofs.SearchLemmas.{search_is_as_defined}
use Rattle.local_search.proofs.search_laws.search_is_as_defined.Goals as goal

pub returns : goal.returns
returns c = search_is_as_defined
