use Rattle.std.proofs.Common.{subst, sym, ◌∙◌}
use Rattle.descriptors.specs.Sound.{IsCluster}
use Rattle.locality_tests.proofs.TableFacts.{sixteen_are_a_cluster}
use Rattle.locality_tests.proofs.tests.made_tables.sixteen_regions.Goals as goal

pub new-requires : goal.new-requires
new-requires c = subst IsCluster (sym (c.as_slice.ensures ∙ c.in_ok-names.ensures)) sixteen_are_a_cluster
