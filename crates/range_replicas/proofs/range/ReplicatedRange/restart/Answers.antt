use Rattle.std.proofs.Common.{◌<◌, length, sym, subst}
use Rattle.std.proofs.lemmas.List.{get_or_read}
use Rattle.range_server.specs.declared.standing.Standing.{Standing}
use Rattle.range_replicas.proofs.SoundLemmas.{restarted_sound}
use Rattle.range_replicas.specs.RangeValue.{RangeValue, nobody, server_at}
use Rattle.range_replicas.specs.Sound.{IsSound}
use Rattle.range_replicas.proofs.range.ReplicatedRange.restart.Goals as goal

pub returns-clause-sound : goal.returns-clause-sound
returns-clause-sound c =
    restarted_sound _ (subst IsSound (sym c.self.view_is) c.requires.sound) c.args.place
    (subst (λ (r : RangeValue). c.args.place < length r.servers) (sym c.self.view_is) c.requires.place) c.index_mut.result.now c.index_mut.ensures.value
    c.args.boot c.restart.new.self _
    (subst (λ (s : Standing). s.boot < c.args.boot)
    (sym (get_or_read c.self.inside.servers.items c.args.place c.index_mut.result.now
    (subst (λ (r : RangeValue). c.args.place < length r.servers) (sym c.self.view_is) c.requires.place) c.index_mut.ensures.value nobody))
    (subst (λ (r : RangeValue). (server_at c.args.place r).boot < c.args.boot) (sym c.self.view_is) c.requires.later)) c.restart.ensures
