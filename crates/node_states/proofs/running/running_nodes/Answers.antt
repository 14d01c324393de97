use Rattle.std.proofs.Common.{arith}
use Rattle.node_states.proofs.RunningLemmas.{all_among_at, item_is_node, none_first, one_more}
use Rattle.node_states.proofs.running.running_nodes.Goals as goal

pub loop-node-init : goal.loop-node-init
loop-node-init c = none_first c.args.nodes.now Rattle.mr_base.specs.declared.nodes.TheConstants.NodeSet.EMPTY c.nodes_of_the_empty_set.ensures.none

pub with_running-running-requires : goal.with_running-running-requires
with_running-running-requires c =
    item_is_node c.args.nodes.now c.loop-node.node-index c.node-item.result c.node-item.is c.requires.numbered c.requires.few c.loop-node-test.true

pub loop-node-preserved : goal.loop-node-preserved
loop-node-preserved c =
    one_more c.args.nodes.now c.loop-node.node-index c.node-item.result c.loop-node.running c.with_running-running.result c.node-item.is c.loop-node-test.true
    c.loop-node.invariant c.with_running-running.ensures

pub returns : goal.returns
returns c =
    all_among_at c.args.nodes.now c.loop-node.node-index c.loop-node.running (omega (arith, c.loop-node-test.false, c.loop-node.auto.node-index-end)) c.requires.numbered c.requires.few
    c.loop-node.invariant
