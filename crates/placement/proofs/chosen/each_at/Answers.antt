use Rattle.std.proofs.Common.{ℕ, List, ◌++◌, map, take, ap, sym, ◌∙◌}
use Rattle.placement.specs.Fitting.{ids_of}
use Rattle.placement.specs.Placing.{each_at, other_at, other_regions}
use Rattle.placement.proofs.ChosenLemmas.{others_more}
use Rattle.placement.proofs.chosen.each_at.Goals as goal

pub loop-count-preserved : goal.loop-count-preserved
loop-count-preserved c =
    let place = c.args.place in let nodes = c.args.nodes.now in let home = c.args.home.now in let counts = c.args.counts.now in
    let i = c.loop-count.count-index in let item = c.count-item.result in
    c.in_ok-add_other.ensures
    ∙ ap (λ found. found ++ ids_of (other_at place nodes home item.0)) c.loop-count.invariant
    ∙ ap (λ (k : List ℕ × ℕ). ids_of (each_at place nodes (other_regions home (map (λ (j : List ℕ × ℕ). j.0) (take i counts)))) ++ ids_of (other_at place nodes home k.0)) c.count-item.is
    ∙ sym (others_more place nodes home counts i item c.loop-count-test.true)
