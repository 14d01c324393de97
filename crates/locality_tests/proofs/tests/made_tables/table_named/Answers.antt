use Rattle.std.proofs.Common.{sym}
use Rattle.locality_tests.proofs.TableFacts.{sound_table_named}
use Rattle.locality_tests.proofs.tests.made_tables.table_named.Goals as goal

pub returns-in-Some : goal.returns-in-Some
returns-in-Some c = sound_table_named c.args.catalog.now c.args.name.now c.in-Some.table.now c.in-Some.ensures.sound (sym c.in-Some.ensures.found)
