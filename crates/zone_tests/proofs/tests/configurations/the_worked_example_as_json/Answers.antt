use Rattle.zone_tests.proofs.ExampleFacts.{t_is_text}
use Rattle.zone_tests.proofs.tests.configurations.the_worked_example_as_json.Goals as goal

pub json-requires-clause-table : goal.json-requires-clause-table
json-requires-clause-table g c = t_is_text
