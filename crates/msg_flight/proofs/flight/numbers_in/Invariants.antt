use Rattle.std.proofs.Common.{◌≡◌, ◌++◌}
use Rattle.msg_flight.specs.Places.{numbers_of}
use Rattle.msg_flight.proofs.flight.numbers_in.Given as goal

abbrev pub invariant-loop-number : goal.invariant-loop-number
invariant-loop-number l = l.numbers ++ numbers_of l.number-iterator ≡ numbers_of l.table.entries
