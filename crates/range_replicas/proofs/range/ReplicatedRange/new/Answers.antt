use Rattle.std.proofs.Common.{rules, ◌≡◌, ◌≢◌, ◌<◌, ◌++◌, ◌∙◌, List, All, AllPairs, length, sym, ap, subst, arith, length-append}
use Rattle.std.proofs.lemmas.List.{get_or_default}
use Rattle.mr_base.specs.Nodes.{IsNode}
use Rattle.mr_base.specs.declared.ids.NodeId.{NodeId}
use Rattle.range_replicas.proofs.PlaceLemmas.{begun_sound, front_node}
use Rattle.range_replicas.specs.Voters.{set_of}
use Rattle.range_replicas.proofs.range.ReplicatedRange.new.Goals as goal

pub returns-clause-sound : goal.returns-clause-sound
returns-clause-sound c =
    let voters : c.in_ok-to_vec.field-0.items ≡ c.args.voters.now = search rules in
    let others : c.in_ok-to_vec-2.field-0.items ≡ c.args.others.now = search rules in
    let nodes : c.as_slice.result.now ≡ c.args.voters.now ++ c.args.others.now = search rules in
    let some : 0 < length c.as_slice.result.now = omega (arith, c.requires.some, ap length nodes, length-append c.args.voters.now c.args.others.now) in
    let same = nodes ∙ ap (λ (x : List NodeId). x ++ c.args.others.now) (sym voters) ∙ ap (λ (x : List NodeId). c.in_ok-to_vec.field-0.items ++ x) (sym others) in
    begun_sound _ c.as_slice.result.now c.args.boots.now _ same c.in_ok-servers.ensures c.in_ok-log.ensures.entries
    (subst (λ (x : List NodeId). AllPairs ◌≢◌ x) (sym nodes) c.requires.distinct) some
    (front_node c.args.voters.now c.args.others.now c.as_slice.result.now _ _ nodes c.requires.some)
    (get_or_default c.args.boots.now 0 _ _ (omega (arith, c.requires.boots, c.requires.some, length-append c.args.voters.now c.args.others.now)))
    (subst (λ (x : List NodeId). All IsNode x) (sym nodes) c.requires.nodes) (c.in_ok-log.ensures.voters ∙ c.set_of.ensures ∙ ap set_of (sym voters))
