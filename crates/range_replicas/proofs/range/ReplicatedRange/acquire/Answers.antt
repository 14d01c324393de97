use Rattle.std.proofs.Common.{◌<◌, length, sym, subst}
use Rattle.range_replicas.proofs.SoundLemmas.{acquired_sound, node_here}
use Rattle.range_replicas.specs.RangeValue.{RangeValue}
use Rattle.range_replicas.specs.Sound.{IsSound}
use Rattle.range_server.specs.Scene.{moment}
use Rattle.range_replicas.proofs.range.ReplicatedRange.acquire.Goals as goal

pub acquire-requires-clause-node : goal.acquire-requires-clause-node
acquire-requires-clause-node c =
    node_here _ (subst IsSound (sym c.self.view_is) c.requires.sound) c.args.place
    (subst (λ (r : RangeValue). c.args.place < length r.servers) (sym c.self.view_is) c.requires.place) c.index_mut.result.now c.index_mut.ensures.value

pub returns-clause-sound : goal.returns-clause-sound
returns-clause-sound c =
    acquired_sound _ (subst IsSound (sym c.self.view_is) c.requires.sound) c.args.place
    (subst (λ (r : RangeValue). c.args.place < length r.servers) (sym c.self.view_is) c.requires.place) c.index_mut.result.now c.index_mut.ensures.value
    c.acquire.result (moment c.args.clock c.args.s.now c.args.running) c.acquire.new.log c.acquire.new.self c.acquire.ensures.answer c.acquire.ensures.server
    c.acquire.ensures.applied c.acquire.ensures.refused c.acquire.ensures.voters
