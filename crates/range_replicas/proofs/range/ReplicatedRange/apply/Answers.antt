use Rattle.std.proofs.Common.{◌≤◌, ◌<◌, length, sym, subst}
use Rattle.std.proofs.lemmas.List.{get_or_read}
use Rattle.range_server.specs.declared.standing.Standing.{Standing}
use Rattle.range_replicas.proofs.SoundLemmas.{applied_sound}
use Rattle.range_replicas.specs.RangeValue.{RangeValue, nobody, server_at}
use Rattle.range_replicas.specs.Sound.{IsSound}
use Rattle.range_replicas.proofs.range.ReplicatedRange.apply.Goals as goal

pub returns-clause-sound : goal.returns-clause-sound
returns-clause-sound c =
    applied_sound _ (subst IsSound (sym c.self.view_is) c.requires.sound) c.args.place
    (subst (λ (r : RangeValue). c.args.place < length r.servers) (sym c.self.view_is) c.requires.place) c.index_mut.result.now c.index_mut.ensures.value
    c.apply_to.result c.args.upto c.apply_to.new.self
    (subst (λ (s : Standing). s.replica.applied ≤ c.args.upto)
    (sym (get_or_read c.self.inside.servers.items c.args.place c.index_mut.result.now
    (subst (λ (r : RangeValue). c.args.place < length r.servers) (sym c.self.view_is) c.requires.place) c.index_mut.ensures.value nobody))
    (subst (λ (r : RangeValue). (server_at c.args.place r).replica.applied ≤ c.args.upto) (sym c.self.view_is) c.requires.from))
    (subst (λ (r : RangeValue). c.args.upto ≤ length r.log.entries) (sym c.self.view_is) c.requires.within) c.apply_to.ensures.replica _ c.apply_to.ensures.server
