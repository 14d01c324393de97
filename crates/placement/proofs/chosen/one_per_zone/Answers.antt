use Rattle.std.proofs.Common.{◌++◌, ◌∷◌, [], ap, sym, ◌∙◌}
use Rattle.placement.proofs.ChosenLemmas.{zones_with, zones_without}
use Rattle.placement.proofs.chosen.one_per_zone.Goals as goal
use Rattle.placement.proofs.chosen.one_per_zone.Goals.{then-is_first+in_ok-push, else-is_first}

pub loop-i-preserved : goal.loop-i-preserved
loop-i-preserved c =
    let node = c.index-nodes-i.result in
    elim c.if-is_first.branch [
      | then-is_first+in_ok-push w ↦ let more = zones_with c.args.region.now c.args.nodes.now c.loop-i.i node c.loop-i-test.true c.index-nodes-i.is (sym c.is_first.ensures ∙ w.if-is_first.true) in
          rw w.found-is (w.in_ok-push.ensures.items ∙ ap (λ xs. xs ++ node.id ∷ []) c.loop-i.invariant ∙ sym more)
      | else-is_first w ↦ let more = zones_without c.args.region.now c.args.nodes.now c.loop-i.i node c.loop-i-test.true c.index-nodes-i.is (sym c.is_first.ensures ∙ w.if-is_first.false) in
          rw w.found-is (c.loop-i.invariant ∙ sym more)
    ]
