use Rattle.std.proofs.Common.{List, None}
use Rattle.std.specs.Map.{keys_of}
use Rattle.mvcc_range.proofs.KeyOrder.{span_keys}
use Rattle.mvcc_range.proofs.RefreshWalk.{RefreshFrom}
use Rattle.mvcc_range.specs.KeyView.{as_read}
use Rattle.mvcc_range.specs.Walks.{AllStand}
use Rattle.mvcc_range.specs.declared.answers.RefreshAnswer.{RefreshAnswer}
use Rattle.range_log.specs.declared.entries.Entry.{Entry}
use Rattle.mvcc_range.proofs.refreshes.refresh_between.Given as goal

-- the answer from the keys that are left is that from all
abbrev pub invariant-loop-key : goal.invariant-loop-key
invariant-loop-key l =
    (entries : List Entry) (answer : RefreshAnswer) → AllStand entries l.keys.entries → RefreshFrom entries (as_read l.later) l.from l.least (keys_of l.key-iterator) answer →
    RefreshFrom entries (as_read l.later) l.from None (span_keys l.later.span.now l.keys.entries) answer
