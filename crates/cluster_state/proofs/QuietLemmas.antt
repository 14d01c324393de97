use Rattle.std.proofs.Common.{◌∷◌}
use Rattle.journal.specs.declared.entries.JournalEntry.TheVariants as entry
use Rattle.mr_base.specs.declared.ids.AttemptId.{AttemptId}
use Rattle.mr_base.specs.declared.messages.Fate.{Fate}
use Rattle.run_laws.specs.OrderEvents.{IsInStep}
use Rattle.run_laws.specs.Places.{IsInOwnStep}
use Rattle.run_words.specs.History.{Made}
use Rattle.cluster_state.specs.Tied.{IsTied, IsTiedTo, past}
use Rattle.cluster_state.specs.declared.state.State.{State}

-- Entries at which no tie looks.

pub fated_keeps : (s : State) (a b : AttemptId) (f : Fate) → IsTied s → IsInStep (past s) → IsInOwnStep (past s) a
    → IsTiedTo (Made (entry.Fated a b f) ∷ past s) s
fated_keeps s a b f t step own =
    record {
      staged = t.staged;
      laws = (record { order = (step, own); message = tt; append = tt; waited = tt; begun = tt }, t.laws);
      count = t.count;
      nodes_are = t.nodes_are;
      ranges_are = t.ranges_are;
      mails_are = t.mails_are;
      begun_are = t.begun_are;
      sent_are = t.sent_are;
    }
