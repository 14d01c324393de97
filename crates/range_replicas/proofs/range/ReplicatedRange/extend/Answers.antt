use Rattle.std.proofs.Common.{◌<◌, length, sym, subst}
use Rattle.range_replicas.proofs.SoundLemmas.{extended_sound}
use Rattle.range_replicas.specs.RangeValue.{RangeValue}
use Rattle.range_replicas.specs.Sound.{IsSound}
use Rattle.range_server.specs.Scene.{moment}
use Rattle.range_replicas.proofs.range.ReplicatedRange.extend.Goals as goal

pub returns-clause-sound : goal.returns-clause-sound
returns-clause-sound c =
    extended_sound _ (subst IsSound (sym c.self.view_is) c.requires.sound) c.args.place
    (subst (λ (r : RangeValue). c.args.place < length r.servers) (sym c.self.view_is) c.requires.place) c.index_mut.result.now c.index_mut.ensures.value
    c.extend.result (moment c.args.clock c.args.s.now c.args.running) c.extend.new.log c.extend.new.self c.extend.ensures.answer c.extend.ensures.server
    c.extend.ensures.applied c.extend.ensures.refused c.extend.ensures.voters
