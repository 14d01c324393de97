use Rattle.std.proofs.Common.{◌<◌, length, sym, subst}
use Rattle.std.proofs.lemmas.List.{get_or_read}
use Rattle.range_replicas.proofs.SoundLemmas.{handled_sound}
use Rattle.range_replicas.specs.RangeValue.{RangeValue, nobody}
use Rattle.range_replicas.specs.Sound.{IsSound}
use Rattle.range_rules.specs.Added.{added_to}
use Rattle.range_server.specs.Scene.{moment}
use Rattle.range_replicas.proofs.range.ReplicatedRange.handle.Goals as goal

pub returns-clause-licensed : goal.returns-clause-licensed
returns-clause-licensed c =
    let within = subst (λ (r : RangeValue). c.args.place < length r.servers) (sym c.self.view_is) c.requires.place in
    rw (← c.self.view_is)
    (rw (← get_or_read c.self.inside.servers.items c.args.place c.index_mut.result.now within c.index_mut.ensures.value nobody) c.handle.ensures.licensed)

pub returns-clause-sound : goal.returns-clause-sound
returns-clause-sound c =
    handled_sound _ (subst IsSound (sym c.self.view_is) c.requires.sound) c.args.place
    (subst (λ (r : RangeValue). c.args.place < length r.servers) (sym c.self.view_is) c.requires.place) c.index_mut.result.now c.index_mut.ensures.value
    c.handle.result (moment c.args.clock c.args.s.now c.args.running) c.args.q.now c.handle.new.log c.handle.new.self
    (added_to c.self.inside.log.entries c.handle.new.log.entries) c.handle.ensures.grown c.handle.ensures.licensed c.handle.ensures.held
    c.handle.ensures.applied c.handle.ensures.server c.handle.ensures.beside c.handle.ensures.voters
