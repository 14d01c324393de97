use Rattle.region_sql.proofs.TextForms.{texts_of_list}
use Rattle.region_sql.proofs.literals.list_texts_are_utf8.Goals as goal

pub returns : goal.returns
returns c = texts_of_list
