use Rattle.server_tests.specs.Staged.{IsStaged}
use Rattle.server_tests.proofs.tests.scenes.first_wrong.Given as goal

abbrev pub invariant-loop-line : goal.invariant-loop-line
invariant-loop-line l = IsStaged l.server l.log
