use Rattle.std.proofs.Common.{◌≡◌, ◌<◌, ◌+◌, ◌-◌, length, sym, subst, arith, Some}
use Rattle.std.specs.Prelude.{slice_get}
use Rattle.range_log.specs.declared.entries.Entry.{Entry}
use Rattle.cluster_state.proofs.EntryLemmas.{entry_copied}
use Rattle.cluster_state.proofs.serving.entries_past.Goals as goal

pub loop-index-preserved : goal.loop-index-preserved
loop-index-preserved c =
    let es = c.args.log.now.entries in
    let inside : c.loop-index.index < length es = omega (arith, c.loop-index-test.true, c.len-index-end.ensures) in
    let read : slice_get es (length es - (c.loop-index.index + 1)) ≡ Some c.in_ok-clone_in.field-0 =
    subst (λ (e : Entry). slice_get es (length es - (c.loop-index.index + 1)) ≡ Some e) (sym c.in_ok-clone_in.ensures.copy) c.entry.ensures in
    rw c.in_ok-push.ensures.items
    (entry_copied c.args.number c.args.before c.loop-index.index es c.in_ok-clone_in.field-0 c.loop-index.entries.items c.loop-index.auto.index inside read c.loop-index.invariant)
