use Rattle.std.proofs.Common.{List, []}
use Rattle.std.specs.Map.{keys_of}
use Rattle.mvcc_range.proofs.KeyOrder.{span_keys}
use Rattle.mvcc_range.proofs.ReadWalk.{AnswerFrom}
use Rattle.mvcc_range.specs.KeyView.{as_read}
use Rattle.mvcc_range.specs.Walks.{AllStand}
use Rattle.mvcc_range.specs.declared.answers.ReadAnswer.{ReadAnswer}
use Rattle.range_log.specs.declared.entries.Entry.{Entry}
use Rattle.mvcc_range.proofs.reads.read_between.Given as goal

-- the answer from the keys that are left is that from all
abbrev pub invariant-loop-key : goal.invariant-loop-key
invariant-loop-key l =
    (entries : List Entry) (answer : ReadAnswer) → AllStand entries l.keys.entries → AnswerFrom entries (as_read l.read) l.rows (keys_of l.key-iterator) answer →
    AnswerFrom entries (as_read l.read) [] (span_keys l.read.span.now l.keys.entries) answer
