use Rattle.one_node.proofs.cluster.Cluster.step.Goals as goal

pub returns-in-Txn-clause-ok : goal.returns-in-Txn-clause-ok
returns-in-Txn-clause-ok c = rw c.in-Txn.is c.transaction.ensures.ok
