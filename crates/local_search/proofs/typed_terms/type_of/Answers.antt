use Rattle.std.proofs.Common.{◌∙◌}
use Rattle.local_search.proofs.ColumnTypes.{declared_type, undeclared_type}
use Rattle.local_search.proofs.typed_terms.type_of.Goals as goal

pub returns-in-Some : goal.returns-in-Some
returns-in-Some c = declared_type c.args.t.now c.args.name.now c.in-Some.column.now c.in-Some.ensures

pub returns-in-None : goal.returns-in-None
returns-in-None c = c.hidden.ensures ∙ undeclared_type c.args.t.now c.args.name.now c.in-None.ensures
