use Rattle.std.proofs.Common.{◌∙◌, refl}
use Rattle.std.specs.Vec.{with_items}
use Rattle.cluster_state.proofs.LineLemmas.{ahead_after, line_tied, nodes_after, ranges_after, with_nodes}
use Rattle.cluster_state.proofs.Written.{made_item}
use Rattle.cluster_state.proofs.state.State.line.Goals as goal

pub restart_moved-requires-clause-ahead : goal.restart_moved-requires-clause-ahead
restart_moved-requires-clause-ahead c =
    let s = c.args.self.now in
    ahead_after s c.args.event c.move_of-moving.result c.as_slice-2.result.now c.as_mut_slice-2.result.now c.requires.tied c.requires.names c.move_of-moving.ensures
    (c.as_slice-2.ensures.value
    ∙ nodes_after s c.args.event c.move_of-moving.result c.as_mut_slice.result.now c.move_all-self.new.nodes c.move_all-self.result c.move_of-moving.ensures
    c.as_mut_slice.ensures.value c.as_mut_slice.ensures.len c.move_all-self.ensures.nodes)
    c.as_mut_slice-2.ensures.value

pub returns-clause-made : goal.returns-clause-made
returns-clause-made c =
    let s = c.args.self.now in
    made_item s
    (record (with_nodes s c.move_all-self.new.nodes c.move_all-self.result) { ranges = with_items s.ranges c.restart_moved.new.ranges; hints = with_items s.hints c.restart_hints.new.hints })
    refl c.line.new.self _ c.in_ok-line.ensures.ran
    (line_tied s c.args.number c.args.event c.move_of-moving.result c.as_mut_slice.result.now c.move_all-self.new.nodes c.move_all-self.result c.requires.tied c.requires.due
    c.requires.names c.move_of-moving.ensures c.as_mut_slice.ensures.value c.as_mut_slice.ensures.len c.move_all-self.ensures.nodes c.move_all-self.ensures.running
    (with_items s.ranges c.restart_moved.new.ranges) (with_items s.hints c.restart_hints.new.hints)
    (ranges_after s c.args.number c.args.event c.move_of-moving.result c.as_slice-2.result.now c.as_mut_slice-2.result.now c.restart_moved.new.ranges c.requires.tied c.requires.names
    c.move_of-moving.ensures
    (c.as_slice-2.ensures.value
    ∙ nodes_after s c.args.event c.move_of-moving.result c.as_mut_slice.result.now c.move_all-self.new.nodes c.move_all-self.result c.move_of-moving.ensures
    c.as_mut_slice.ensures.value c.as_mut_slice.ensures.len c.move_all-self.ensures.nodes)
    c.as_mut_slice-2.ensures.value c.as_mut_slice-2.ensures.len c.restart_moved.ensures.servers c.restart_moved.ensures.sound))
