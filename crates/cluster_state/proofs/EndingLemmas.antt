use Rattle.std.proofs.Common.{List, ◌∷◌}
use Rattle.journal.specs.declared.entries.JournalEntry.TheVariants as entry
use Rattle.journal.specs.declared.entries.Why.{Why}
use Rattle.mr_base.specs.declared.ids.TxnId.{TxnId}
use Rattle.mr_base.specs.declared.results.StatementResult.{StatementResult}
use Rattle.mr_base.specs.declared.states.SqlState.{SqlState}
use Rattle.mr_base.specs.declared.timestamps.Ts.{Ts}
use Rattle.run_laws.specs.Order.{IsAnswerDue, IsLossDue, IsRefusalDue}
use Rattle.run_laws.specs.Waited.{HasWaited}
use Rattle.run_words.specs.History.{Made}
use Rattle.cluster_state.specs.Tied.{IsTied, IsTiedTo, past, the_setup}
use Rattle.cluster_state.specs.declared.state.State.{State}

-- The ends of transactions, at which no tie looks.

pub refused_keeps : (s : State) (txn : TxnId) (why : Why) → IsTied s → IsRefusalDue (past s) txn why
    → IsTiedTo (Made (entry.Refuse txn why) ∷ past s) s
refused_keeps s txn why t due =
    record {
      staged = t.staged;
      laws = (record { order = due; message = tt; append = tt; waited = tt; begun = tt }, t.laws);
      count = t.count;
      nodes_are = t.nodes_are;
      ranges_are = t.ranges_are;
      mails_are = t.mails_are;
      begun_are = t.begun_are;
      sent_are = t.sent_are;
    }

pub acknowledged_keeps : (s : State) (txn : TxnId) (ts : Ts) (results : List StatementResult) → IsTied s → IsAnswerDue (past s) txn → HasWaited (the_setup s) (past s) txn ts
    → IsTiedTo (Made (entry.Ack txn ts results) ∷ past s) s
acknowledged_keeps s txn ts results t due waited =
    record {
      staged = t.staged;
      laws = (record { order = due; message = tt; append = tt; waited = waited; begun = tt }, t.laws);
      count = t.count;
      nodes_are = t.nodes_are;
      ranges_are = t.ranges_are;
      mails_are = t.mails_are;
      begun_are = t.begun_are;
      sent_are = t.sent_are;
    }

pub faulted_keeps : (s : State) (txn : TxnId) (ts : Ts) (state : SqlState) → IsTied s → IsAnswerDue (past s) txn → HasWaited (the_setup s) (past s) txn ts
    → IsTiedTo (Made (entry.Fault txn ts state) ∷ past s) s
faulted_keeps s txn ts state t due waited =
    record {
      staged = t.staged;
      laws = (record { order = due; message = tt; append = tt; waited = waited; begun = tt }, t.laws);
      count = t.count;
      nodes_are = t.nodes_are;
      ranges_are = t.ranges_are;
      mails_are = t.mails_are;
      begun_are = t.begun_are;
      sent_are = t.sent_are;
    }

pub lost_keeps : (s : State) (txn : TxnId) → IsTied s → IsLossDue (past s) txn
    → IsTiedTo (Made (entry.Lost txn) ∷ past s) s
lost_keeps s txn t due =
    record {
      staged = t.staged;
      laws = (record { order = due; message = tt; append = tt; waited = tt; begun = tt }, t.laws);
      count = t.count;
      nodes_are = t.nodes_are;
      ranges_are = t.ranges_are;
      mails_are = t.mails_are;
      begun_are = t.begun_are;
      sent_are = t.sent_are;
    }
