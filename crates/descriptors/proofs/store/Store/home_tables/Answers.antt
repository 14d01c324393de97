use Rattle.std.proofs.Common.{map, ap, ◌∙◌}
use Rattle.descriptors.specs.Changes.{homed_in_primary}
use Rattle.descriptors.proofs.Index.{reindexed, homed-keys, table_key, written_whole}
use Rattle.descriptors.proofs.store.Store.home_tables.Goals as goal

pub invariant_of-self : goal.invariant_of-self
invariant_of-self c =
    reindexed c.self.inside.places c.self.inside.entries.items c.self.inside.tables.items _ c.self.invariant
    (ap (map table_key) (written_whole (homed_in_primary c.args.name.now) c.self.inside.tables.items c.deref_mut.result.now c.home_in_primary.new.tables c.self.inside.tables.len c.home_in_primary.ensures c.deref_mut.ensures.value c.self.inside.tables.ok.0)
    ∙ homed-keys c.args.name.now c.self.inside.tables.items)
