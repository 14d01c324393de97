use Rattle.std.proofs.Common.{arith}
use Rattle.locality_tests.proofs.TableFacts.{all_named, name_added}
use Rattle.locality_tests.proofs.tests.made_tables.sixteen_names.Goals as goal

pub loop-place-preserved : goal.loop-place-preserved
loop-place-preserved c = name_added c.loop-place.place c.loop-place.names c.push.new.self c.in_ok-from_slice.field-0 c.loop-place.invariant c.in_ok-from_slice.ensures c.in_ok-push.ensures.ok

pub returns : goal.returns
returns c = all_named c.loop-place.place c.loop-place.names (omega arith) c.loop-place.invariant
