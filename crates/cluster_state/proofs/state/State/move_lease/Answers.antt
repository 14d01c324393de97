use Rattle.std.proofs.Common.{ℕ, ◌-◌, ◌≡◌, ◌<◌, ◌∙◌, ◌∷◌, length, refl, sym, ap, subst, inl, inr}
use Rattle.std.specs.Vec.{with_item}
use Rattle.journal.specs.declared.entries.JournalEntry.TheVariants as entry
use Rattle.range_log.specs.LogValue.{LogValue}
use Rattle.range_log.specs.declared.entries.Entry.TheVariants as log
use Rattle.run_words.specs.History.{Made}
use Rattle.range_replicas.specs.RangeValue.{RangeValue, scene_at, server_at}
use Rattle.range_server.specs.Scene.{moment}
use Rattle.cluster_state.proofs.LeaseLemmas.{answered_too, at_line, refused_keeps, refused_same, was_refused}
use Rattle.cluster_state.proofs.LeaseLaws.{appender, leased_grown, live, next_lease}
use Rattle.cluster_state.proofs.LeaseTies.{actor_at, leased_keeps}
use Rattle.cluster_state.proofs.RangeLemmas.{hints_apart, read_at}
use Rattle.replica_states.specs.Restarts.{no_node}
use Rattle.cluster_state.proofs.Written.{made_entry, made_two}
use Rattle.cluster_state.specs.Tied.{IsTiedTo, past, the_setup}
use Rattle.cluster_state.proofs.state.State.move_lease.Goals as goal

pub returns-in_ok-why-in-Err-clause-made : goal.returns-in_ok-why-in-Err-clause-made
returns-in_ok-why-in-Err-clause-made c =
    let s = c.args.self.now in
    let no = was_refused c.in-Err.refusal c.in_ok-why-in-Err.why c.in_ok-why-in-Err.ensures in
    let answered = c.in-Err.ensures in (
      _,
      inr (c.in_ok-why-in-Err.why, refl),
      made_entry s (record s { ranges = with_item s.ranges (c.args.number.0 - 1) c.ask_lease.new.range }) refl c.reserve.new.self c.write-in-Err.new.self _ _
          c.in_ok-reserve.ensures.history c.write-in-Err.ensures
          (refused_keeps s c.requires.tied c.args.number c.requires.made c.index_mut-range.result.now c.index_mut-range.ensures.value c.args.place c.ask_lease.new.range
          (c.in-Err.ensures.changed (answered_too c.in-Err.refusal no)) (c.in-Err.ensures.sound (answered_too c.in-Err.refusal no))
          (refused_same c.args.ask (scene_at c.args.place c.index_mut-range.result.now (moment c.args.clock s.stage.settings s.running)) c.in-Err.refusal
          c.ask_lease.new.range.log.entries c.in-Err.ensures.answer no)
          (c.in-Err.ensures.refused no) c.in_ok-why-in-Err.why (at_line (past s) c.args.ask c.args.number c.args.node c.requires.line) c.requires.line.1),
    )

pub returns-in-Ok-clause-made : goal.returns-in-Ok-clause-made
returns-in-Ok-clause-made c =
    let s = c.args.self.now in
    let j = c.args.number in
    let r = c.index_mut-range.result.now in
    let made = c.requires.made in
    let is = c.index_mut-range.ensures.value in
    let read = read_at s (past s) c.requires.tied j made r is in
    let there = subst (λ (x : RangeValue). c.args.place < length x.servers) (sym read) c.requires.place in
    let at = subst (λ (x : RangeValue). (server_at c.args.place x).node ≡ c.args.node) (sym read) c.requires.node in
    let law = c.majority_is_more_than_half.ensures in
    let found = scene_at c.args.place r (moment c.args.clock s.stage.settings s.running) in
    let r2 = c.ask_lease.new.range in
    let lease = c.in-Ok.lease in
    let grown = leased_grown c.args.ask found lease r2.log.entries c.in-Ok.ensures.answer in
    let next = next_lease law s c.requires.tied j made r is c.args.place c.args.node there at c.args.clock c.requires.clock c.requires.running no_node c.args.ask lease r2.log.entries
    c.requires.to c.in-Ok.ensures.answer in
    let is_live = live law s c.requires.tied j made r is c.args.place c.args.node there at c.args.clock c.requires.clock c.requires.running no_node in
    let acts = actor_at (the_setup s) (past s) c.args.ask j c.args.node c.requires.line
    (appender law s c.requires.tied j made r is c.args.place c.args.node there at c.args.clock c.requires.clock c.requires.running no_node c.args.ask lease r2.log.entries c.in-Ok.ensures.answer) in
    let keeps = leased_keeps s c.requires.tied j made r is c.args.place c.args.node there at r2 (c.in-Ok.ensures.changed tt) (c.in-Ok.ensures.sound tt) lease grown c.in-Ok.ensures.node
    c.in-Ok.ensures.boot c.in-Ok.ensures.applied c.args.ask c.requires.line acts is_live next in
    let counted : c.len-index.result ≡ length r2.log.entries = c.len-index.ensures ∙ ap (λ (l : LogValue). length l.entries) c.log.ensures in
    let tied = subst (λ (k : ℕ). IsTiedTo (Made (entry.Lease j lease.seq lease.holder lease.expiration) ∷ Made (entry.Append j k (log.Lease lease)) ∷ past s)
    (record s { ranges = with_item s.ranges (j.0 - 1) r2 })) (sym counted) keeps in (
      _,
      inl (lease, _, refl),
      made_two s (record s { ranges = with_item s.ranges (j.0 - 1) r2; hints = _ }) refl c.reserve.new.self c.write.new.self c.write-in-Ok.new.self _ _ _ _
          c.in_ok-reserve.ensures.history c.write.ensures c.write-in-Ok.ensures (hints_apart _ _ _ tied),
    )
