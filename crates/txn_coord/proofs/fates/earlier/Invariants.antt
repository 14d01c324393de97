use Rattle.std.proofs.Common.{◌≡◌, take, filter}
use Rattle.txn_coord.specs.Fates.{is_earlier}
use Rattle.txn_coord.proofs.fates.earlier.Given as goal

abbrev pub invariant-loop-fate : goal.invariant-loop-fate
invariant-loop-fate l = l.all.items ≡ filter (is_earlier l.known) (take l.fate-index l.fates)
