use Rattle.std.proofs.Common.{◌≡◌, ◌++◌, take, filter}
use Rattle.txn_coord.specs.Fates.{is_later}
use Rattle.txn_coord.proofs.fates.push_later.Given as goal

abbrev pub invariant-loop-fate : goal.invariant-loop-fate
invariant-loop-fate l = l.all.items ≡ l.fn.all.items ++ filter (is_later l.known) (take l.fate-index l.fates)
