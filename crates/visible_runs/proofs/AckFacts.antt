use Rattle.std.proofs.Common.{◌≡◌, ◌≤◌, List, ◌∷◌, sym, subst, le_trans}
use Rattle.std.specs.Prelude.{Some}
use Rattle.std.specs.List.{Contains}
use Rattle.journal.specs.declared.entries.JournalEntry.TheVariants as entry
use Rattle.mr_base.specs.declared.ids.TxnId.{TxnId}
use Rattle.mr_base.specs.declared.results.StatementResult.{StatementResult}
use Rattle.mr_base.specs.declared.timestamps.Ts.{Ts}
use Rattle.run_laws.proofs.LawfulLemmas.{happened_so}
use Rattle.run_laws.specs.Beginnings.{IsSoundSetup}
use Rattle.run_laws.specs.Determined.{IsAcknowledged}
use Rattle.run_laws.specs.Lawful.{IsLawful, IsPermitted}
use Rattle.run_laws.specs.Visible.{Acknowledgement, Acknowledges}
use Rattle.run_laws.specs.Waited.{HasWaited}
use Rattle.run_words.specs.Clocks.{peak}
use Rattle.run_words.specs.Happened.{Happened, IsPlace}
use Rattle.run_words.specs.History.{History, Item, Made}
use Rattle.run_words.specs.Setup.{Setup, node_ids}
use Rattle.run_words.specs.Transactions.{last_attempt}
use Rattle.visible_runs.proofs.KnownNodes.{gateway_known}
use Rattle.visible_runs.proofs.Places.{before_item, older_names, peak_stays}
use Rattle.visible_runs.proofs.SeenLemmas.{bounded, shown_below}
use Rattle.visible_runs.specs.Laws.{NameNodes}

-- where an acknowledgement stands
pub record IsAcked (setup : Setup) (h : History) (ack : Acknowledgement) : Type 0 where
  pub results : List StatementResult
  pub older : History
  pub place : IsPlace (Made (entry.Ack ack.txn ack.ts results) ∷ older) h
  pub lawful : IsLawful setup older
  pub by : IsAcknowledged setup older ack.txn ack.ts results
  pub waited : HasWaited setup older ack.txn ack.ts
  pub last : last_attempt older ack.txn ≡ Some ack.attempt

acked_at : (setup : Setup) (h : History) (ack : Acknowledgement) (x : Item) (older : History) → IsPlace (x ∷ older) h → Acknowledges ack x older → IsPermitted setup older x → IsLawful setup older
    → IsAcked setup h ack
acked_at setup h ack (Made (entry.Ack t ts results)) older place (of_t, at, last) permitted lawful =
    let ty : t ≡ ack.txn = sym of_t in
    record {
      results = results;
      older = older;
      place = subst (λ (u : TxnId). IsPlace (Made (entry.Ack u ack.ts results) ∷ older) h) ty (subst (λ (s : Ts). IsPlace (Made (entry.Ack t s results) ∷ older) h) (sym at) place);
      lawful = lawful;
      by = subst (λ (u : TxnId). IsAcknowledged setup older u ack.ts results) ty (subst (λ (s : Ts). IsAcknowledged setup older t s results) (sym at) permitted.determined);
      waited = subst (λ (u : TxnId). HasWaited setup older u ack.ts) ty (subst (λ (s : Ts). HasWaited setup older t s) (sym at) permitted.waited);
      last = subst (λ (u : TxnId). last_attempt older u ≡ Some ack.attempt) ty last;
    }
acked_at setup h ack x older place a permitted lawful = absurd a

pub acked : (setup : Setup) (h : History) → IsLawful setup h → (ack : Acknowledgement) → Happened (Acknowledges ack) h → IsAcked setup h ack
acked setup h l ack w =
    let f : (x : Item) × (older : History) × IsPlace (x ∷ older) h × Acknowledges ack x older × IsPermitted setup older x × IsLawful setup older = happened_so setup h (Acknowledges ack) l w in
    acked_at setup h ack f.0 f.1 f.2 f.3 f.4 f.5

-- its wall isn't above the peak
pub ack_below : (setup : Setup) → IsSoundSetup setup → (h : History) → IsLawful setup h → NameNodes setup h → (ack : Acknowledgement) → IsAcked setup h ack → ack.ts.wall ≤ peak setup h
ack_below setup sound h l names ack a =
    let place : IsPlace a.older h = before_item h a.older _ a.place in
    let old : NameNodes setup a.older = older_names setup h a.older names place in
    let there : Contains (node_ids setup) a.waited.0 = gateway_known setup a.older a.lawful old ack.txn a.waited.0 a.waited.1 in
    le_trans a.waited.2
    (le_trans (shown_below setup a.older (peak setup a.older) (bounded setup sound a.waited.0 there a.older a.lawful old) a.waited.0) (peak_stays setup h a.older place))
