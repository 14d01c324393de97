use Rattle.zone_tests.proofs.ExampleFacts.{example_is_sound, example_table_is_sound, unparted}
use Rattle.zone_tests.proofs.tests.configurations.config.Goals as goal

pub compile-requires-clause-database : goal.compile-requires-clause-database
compile-requires-clause-database c = example_is_sound _ c.in_ok-d.ensures

pub compile-requires-clause-table : goal.compile-requires-clause-table
compile-requires-clause-table c = example_table_is_sound _ _ c.in_ok-d.ensures c.in_ok-t.ensures

pub compile-requires-clause-partition : goal.compile-requires-clause-partition
compile-requires-clause-partition c = unparted c.in_ok-d.d c.in_ok-t.t.locality c.in_ok-t.ensures.locality
