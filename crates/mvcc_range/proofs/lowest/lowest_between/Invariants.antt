use Rattle.std.proofs.Common.{List, None, Option}
use Rattle.std.specs.Map.{keys_of}
use Rattle.mr_base.specs.declared.timestamps.Ts.{Ts}
use Rattle.mvcc_range.proofs.KeyOrder.{span_keys}
use Rattle.mvcc_range.proofs.LeastWalk.{LeastFrom}
use Rattle.mvcc_range.specs.Walks.{AllStand, IsOthersAt}
use Rattle.range_log.specs.declared.entries.Entry.{Entry}
use Rattle.mvcc_range.proofs.lowest.lowest_between.Given as goal

-- the answer from the keys that are left is that from all
abbrev pub invariant-loop-state : goal.invariant-loop-state
invariant-loop-state l =
    (entries : List Entry) (answer : Option Ts) → AllStand entries l.keys.entries → LeastFrom (IsOthersAt entries l.reader) l.span l.least (keys_of l.state-iterator) answer →
    LeastFrom (IsOthersAt entries l.reader) l.span None (span_keys l.span l.keys.entries) answer
