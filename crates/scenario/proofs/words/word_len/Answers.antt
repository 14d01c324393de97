use Rattle.std.proofs.Common.{arith}
use Rattle.scenario.proofs.WordLemmas.{run_is, blank_stops}
use Rattle.scenario.proofs.words.word_len.Goals as goal

pub returns-then-byte-eq32-clause-value : goal.returns-then-byte-eq32-clause-value
returns-then-byte-eq32-clause-value c = run_is c.args.bytes.now c.loop-i.i (omega arith) c.loop-i.invariant (λ h. blank_stops _ c.if-byte-eq32.true)
