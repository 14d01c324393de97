use Rattle.std.proofs.Common.{◌≡◌, ◌≤◌}
use Rattle.std.specs.Io.KnownBytes.{append_known}
use Rattle.workload.specs.Generated.{transactions_text, words_after}
use Rattle.workload.proofs.generated.write_transactions.Given as goal

abbrev pub invariant-loop-done : goal.invariant-loop-done
invariant-loop-done g l = record {
  words : l.words ≡ words_after l.done l.seed;
  written : g.K.Sink.written l.sink ≡ append_known (g.K.Sink.written l.initial.sink) (transactions_text l.done l.seed);
  counted : g.K.Sink.faults l.initial.sink ≤ g.K.Sink.faults l.sink;
}
