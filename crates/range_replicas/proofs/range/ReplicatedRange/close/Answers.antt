use Rattle.std.proofs.Common.{◌<◌, length, sym, subst}
use Rattle.range_replicas.proofs.SoundLemmas.{closed_sound}
use Rattle.range_replicas.specs.RangeValue.{RangeValue}
use Rattle.range_replicas.specs.Sound.{IsSound}
use Rattle.range_server.specs.Scene.{moment}
use Rattle.range_replicas.proofs.range.ReplicatedRange.close.Goals as goal

pub returns-clause-sound : goal.returns-clause-sound
returns-clause-sound c =
    closed_sound _ (subst IsSound (sym c.self.view_is) c.requires.sound) c.args.place
    (subst (λ (r : RangeValue). c.args.place < length r.servers) (sym c.self.view_is) c.requires.place) c.index_mut.result.now c.index_mut.ensures.value
    c.close.result (moment c.args.clock c.args.s.now c.args.running) c.close.new.log c.close.new.self c.close.ensures.answer c.close.ensures.server
    c.close.ensures.applied c.close.ensures.refused c.close.ensures.beside c.close.ensures.voters
