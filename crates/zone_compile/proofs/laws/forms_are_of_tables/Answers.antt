use Rattle.zone_compile.proofs.OfTables.{forms_are_of_tables}
use Rattle.zone_compile.proofs.laws.forms_are_of_tables.Goals as goal

pub returns : goal.returns
returns c = forms_are_of_tables
