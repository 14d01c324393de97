use Rattle.std.proofs.Common.{◌≡◌, ◌++◌}
use Rattle.workload.specs.Generated.{transactions_text, words_after}
use Rattle.workload.proofs.generated.add_transactions.Given as goal

abbrev pub invariant-loop-done : goal.invariant-loop-done
invariant-loop-done l = record {
  words : l.words ≡ words_after l.done l.seed;
  added : l.text.items ≡ l.initial.text.items ++ transactions_text l.done l.seed;
}
