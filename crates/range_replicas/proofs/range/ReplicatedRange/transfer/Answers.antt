use Rattle.std.proofs.Common.{All, ◌≡◌, ◌<◌, length, sym, subst}
use Rattle.range_replicas.proofs.SoundLemmas.{transferred_sound}
use Rattle.range_replicas.specs.RangeValue.{RangeValue}
use Rattle.range_replicas.specs.Sound.{IsSound}
use Rattle.range_server.specs.Scene.{moment}
use Rattle.range_replicas.proofs.range.ReplicatedRange.transfer.Goals as goal

pub returns-clause-sound : goal.returns-clause-sound
returns-clause-sound c =
    transferred_sound _ (subst IsSound (sym c.self.view_is) c.requires.sound) c.args.place
    (subst (λ (r : RangeValue). c.args.place < length r.servers) (sym c.self.view_is) c.requires.place) c.index_mut.result.now c.index_mut.ensures.value
    c.transfer.result (moment c.args.clock c.args.s.now c.args.running) c.args.to c.args.boot c.transfer.new.log c.transfer.new.self
    (subst (λ (r : RangeValue). All (λ s. s.node ≡ c.args.to → s.boot ≡ c.args.boot) r.servers) (sym c.self.view_is) c.requires.boot)
    c.transfer.ensures.answer c.transfer.ensures.server c.transfer.ensures.applied c.transfer.ensures.refused c.transfer.ensures.voters
