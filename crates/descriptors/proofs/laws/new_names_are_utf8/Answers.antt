use Rattle.descriptors.proofs.Names.{names_are_texts}
use Rattle.descriptors.proofs.laws.new_names_are_utf8.Goals as goal

pub returns : goal.returns
returns c = names_are_texts
