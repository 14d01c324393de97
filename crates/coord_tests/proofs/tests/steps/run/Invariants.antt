use Rattle.txn_coord.specs.Machine.{machine}
use Rattle.txn_coord.specs.Soundness.{IsSoundTxn}
use Rattle.coord_tests.proofs.tests.steps.run.Given as goal

abbrev pub invariant-loop-made : goal.invariant-loop-made
invariant-loop-made g l = IsSoundTxn (g.S.Script.done l.txn.script) (machine g.S.Script.program g.S.Script.fed l.txn)
