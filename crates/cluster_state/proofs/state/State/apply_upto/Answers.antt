use Rattle.std.proofs.Common.{◌≡◌, ◌<◌, ◌-◌, length, refl, sym, ap, subst}
use Rattle.std.specs.Vec.{with_item}
use Rattle.range_replicas.specs.RangeValue.{RangeValue, server_at}
use Rattle.range_server.specs.declared.standing.Standing.{Standing}
use Rattle.cluster_state.proofs.ApplyLemmas.{applied_keeps, from, upto}
use Rattle.cluster_state.proofs.RangeLemmas.{hints_apart, range_tied, read_at}
use Rattle.cluster_state.proofs.Written.{made_entry}
use Rattle.cluster_state.specs.Tied.{past}
use Rattle.cluster_state.proofs.state.State.apply_upto.Goals as goal

pub apply-requires-clause-from : goal.apply-requires-clause-from
apply-requires-clause-from c =
    let s = c.args.self.now in
    let at = read_at s (past s) c.requires.tied c.args.number c.requires.made c.index_mut-range.result.now c.index_mut-range.ensures.value in
    from s c.requires.tied c.args.number c.requires.made c.index_mut-range.result.now c.index_mut-range.ensures.value c.args.place c.args.node
    (subst (λ (r : RangeValue). c.args.place < length r.servers) (sym at) c.requires.place)
    (subst (λ (r : RangeValue). (server_at c.args.place r).node ≡ c.args.node) (sym at) c.requires.node) c.args.upto c.requires.due

pub apply-requires-clause-within : goal.apply-requires-clause-within
apply-requires-clause-within c =
    let s = c.args.self.now in
    let at = read_at s (past s) c.requires.tied c.args.number c.requires.made c.index_mut-range.result.now c.index_mut-range.ensures.value in
    upto s c.requires.tied c.args.number c.requires.made c.index_mut-range.result.now c.index_mut-range.ensures.value c.args.place c.args.node
    (subst (λ (r : RangeValue). c.args.place < length r.servers) (sym at) c.requires.place)
    (subst (λ (r : RangeValue). (server_at c.args.place r).node ≡ c.args.node) (sym at) c.requires.node) c.args.upto c.requires.due

pub returns-clause-made : goal.returns-clause-made
returns-clause-made c =
    let s = c.args.self.now in
    let at = read_at s (past s) c.requires.tied c.args.number c.requires.made c.index_mut-range.result.now c.index_mut-range.ensures.value in
    let done = c.in_ok-apply.ensures in
    made_entry s (record s { ranges = with_item s.ranges (c.args.number.0 - 1) c.apply.new.self; hints = _ }) refl c.reserve.new.self c.write.new.self _ _
    c.in_ok-reserve.ensures.history c.write.ensures
    (hints_apart _ _ _ (applied_keeps s c.requires.tied c.args.number c.requires.made c.index_mut-range.result.now c.index_mut-range.ensures.value c.args.place c.args.node
    (subst (λ (r : RangeValue). c.args.place < length r.servers) (sym at) c.requires.place)
    (subst (λ (r : RangeValue). (server_at c.args.place r).node ≡ c.args.node) (sym at) c.requires.node) c.args.upto c.requires.due
    c.apply.new.self done.applied (ap (λ (x : Standing). x.boot) done.server) (ap (λ (x : Standing). x.node) done.server) done.log done.changed done.sound))

pub applied-applied-requires-clause-sound : goal.applied-applied-requires-clause-sound
applied-applied-requires-clause-sound c =
    let s = c.args.self.now in
    (range_tied s (past s) c.requires.tied c.args.number c.requires.made c.index_mut-range.result.now c.index_mut-range.ensures.value).sound
