use Rattle.std.proofs.Common.{sym, ◌∙◌}
use Rattle.descriptors.specs.Changes.{after}
use Rattle.descriptors.proofs.Kept.{sound_after, sound_either_way}
use Rattle.descriptors.proofs.catalog.Catalog.apply.Goals as goal

pub invariant_of-self-in-None : goal.invariant_of-self-in-None
invariant_of-self-in-None c =
    sound_either_way c.change.result c.self.inside.store c.change.new.self (after c.self.inside.store c.args.s.now) c.change.ensures.ok c.change.ensures.err c.self.invariant
    (sound_after c.self.inside.store c.args.s.now c.self.invariant c.requires.names (sym c.in_ok-refusal.ensures ∙ c.in-None.is))
