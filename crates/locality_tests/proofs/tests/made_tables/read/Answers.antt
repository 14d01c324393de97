use Rattle.std.proofs.Common.{subst}
use Rattle.region_sql.specs.Grammar.{IsStatementText}
use Rattle.locality_tests.proofs.tests.made_tables.read.Goals as goal

pub returns-in-Ok-Region : goal.returns-in-Ok-Region
returns-in-Ok-Region c = c.new_names_are_utf8.ensures _ c.in-Ok-Region.statement (subst (IsStatementText _) c.in-Ok-Region.field-0-is c.in-Ok-Region.ensures.value)
