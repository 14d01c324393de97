use Rattle.std.specs.Prelude.{Some, ⊤, ◌≡◌, ◌≤◌}
use Rattle.journal.specs.declared.entries.JournalEntry.TheVariants as entry
use Rattle.mr_base.specs.declared.ids.NodeId.{NodeId}
use Rattle.mr_base.specs.declared.ids.TxnId.{TxnId}
use Rattle.mr_base.specs.declared.timestamps.Ts.{Ts}
use Rattle.run_words.specs.Askers.{gateway_of}
use Rattle.run_words.specs.Clocks.{reading}
use Rattle.run_words.specs.History.{History, Item, Made}
use Rattle.run_words.specs.Setup.{Setup}

-- Waited: an answer is given once its gateway's clock has come to its timestamp's wall. (Commit wait: VanBenschoten et
-- al., SIGMOD 2022.)

abbrev pub HasWaited : Setup → History → TxnId → Ts → Type 0
HasWaited setup h t ts = (n : NodeId) × (gateway_of h t ≡ Some n) × (ts.wall ≤ (reading setup h n).wall)

abbrev pub Waited : Setup → History → Item → Type 0
Waited setup h (Made (entry.Ack t ts results)) = HasWaited setup h t ts
Waited setup h (Made (entry.Fault t ts state)) = HasWaited setup h t ts
Waited setup h _ = ⊤
