use Rattle.std.proofs.Common.{◌≡◌, ℕ, ◌+◌, ◌≤◌, Bool, true, false, cond, ◌∷◌, refl, sym, ap, ◌∙◌, subst, le_refl, arith}
use Rattle.std.specs.Prelude.{nat_lt, Option, Some, None}
use Rattle.std.specs.List.{Contains}
use Rattle.std.proofs.lemmas.Bool.Decides.{nat_tests}
use Rattle.hlc.specs.Readings.{next_of}
use Rattle.journal.specs.declared.entries.JournalEntry.TheVariants as entry
use Rattle.journal.specs.declared.events.Event.{Event}
use Rattle.journal.specs.declared.events.Event.TheVariants as events
use Rattle.mr_base.specs.Timestamps.{of_reading}
use Rattle.mr_base.specs.declared.ids.AttemptId.{AttemptId}
use Rattle.mr_base.specs.declared.ids.NodeId.{NodeId}
use Rattle.mr_base.specs.declared.ids.TxnId.{TxnId}
use Rattle.mr_base.specs.declared.timestamps.Reading.{Reading}
use Rattle.mr_base.specs.declared.timestamps.Ts.{Ts}
use Rattle.run_laws.proofs.AttemptLemmas.{beginning_stays}
use Rattle.run_laws.proofs.LawfulLemmas.{happened_so}
use Rattle.run_laws.specs.Begun.{limit_at}
use Rattle.run_laws.specs.Lawful.{IsLawful, IsPermitted}
use Rattle.run_laws.specs.Visible.{Acknowledgement, Acknowledges, BeginsAfter}
use Rattle.run_words.specs.Clocks.{AreWithinOffset, peak, phys, seen}
use Rattle.run_words.specs.Happened.{Happened, IsPlace}
use Rattle.run_words.specs.History.{History, Item, Made}
use Rattle.run_words.specs.Setup.{Setup, node_ids}
use Rattle.run_words.specs.Steps.{event_of}
use Rattle.run_words.specs.Transactions.{Beginning, beginning, last_attempt}
use Rattle.held_reads.proofs.Basics.{not_none}
use Rattle.visible_runs.proofs.KnownNodes.{running_known}
use Rattle.visible_runs.proofs.PeakLemmas.{peak_least}
use Rattle.visible_runs.proofs.Places.{before_item, older_names}
use Rattle.visible_runs.proofs.TxnFacts.{IsThere, begun_here, last_begun}
use Rattle.visible_runs.specs.Laws.{NameNodes}

-- the next reading isn't behind the physical clock
next_by : (p : ℕ) (k : Reading) (t : Bool) → nat_lt k.wall p ≡ t → p ≤ (cond {A = Reading} t (record { wall = p; logical = 0 }) (record { wall = k.wall; logical = k.logical + 1 })).wall
next_by p k true e = le_refl _
next_by p k false e = grind (arith, nat_tests, e)

next_high : (p : ℕ) (k : Reading) → p ≤ (next_of p k).wall
next_high p k = next_by p k (nat_lt k.wall p) refl

within_by : (n g s offset : ℕ) → n ≤ g + offset → g ≤ s → n ≤ s + offset
within_by n g s offset p q = omega (arith, p, q)

-- where a transaction begins after an acknowledgement, and its limit
pub record IsBegunAfter (setup : Setup) (h : History) (ack : Acknowledgement) (t : TxnId) : Type 0 where
  pub older : History
  pub place : IsPlace older h
  pub lawful : IsLawful setup older
  pub acks : Happened (Acknowledges ack) older
  pub unbegun : beginning older t ≡ None
  pub begun : Beginning
  pub is_begun : beginning h t ≡ Some begun
  pub limit : ℕ
  pub limit_is : begun.limit ≡ Some limit
  pub limit_high : peak setup older ≤ limit

module _ (setup : Setup) (h : History) (l : IsLawful setup h) (names : NameNodes setup h) (ack : Acknowledgement) (t : TxnId) where
  begin_high : (older : History) → NameNodes setup older → (gateway : NodeId) (start : Ts) (a : AttemptId) → AreWithinOffset setup older → Contains (node_ids setup) gateway
      → start ≡ of_reading (next_of (phys setup older gateway) (seen setup older gateway)) a.0 → peak setup older ≤ start.wall + setup.settings.max_offset
  begin_high older old gateway start a within there e =
      let high : phys setup older gateway ≤ start.wall = subst (λ (s : Ts). phys setup older gateway ≤ s.wall) (sym e) (next_high (phys setup older gateway) (seen setup older gateway)) in
      peak_least setup older (start.wall + setup.settings.max_offset)
      (λ n c. within_by (phys setup older n) (phys setup older gateway) start.wall setup.settings.max_offset (within n gateway c there) high)

  begun_at : (x : Item) (older : History) → IsPlace (x ∷ older) h → BeginsAfter setup ack t x older → IsPermitted setup older x → IsLawful setup older → IsBegunAfter setup h ack t
  begun_at (Made (entry.Begin u a gateway start limit)) older place (same, (list, event), within, acks) permitted lawful =
      let before : IsPlace older h = before_item h older (Made (entry.Begin u a gateway start limit)) place in
      let old : NameNodes setup older = older_names setup h older names before in
      let line : event_of older ≡ Some (events.Txn u gateway permitted.order.kind permitted.order.list) = permitted.order.line.0 in
      let here : beginning (Made (entry.Begin u a gateway start limit) ∷ older) u
      ≡ Some (record { attempt = a; gateway = gateway; start = start; limit = limit; kind = permitted.order.kind; list = permitted.order.list }) =
      begun_here (event_of older) u a gateway start limit permitted.order.kind permitted.order.list (beginning older u) line in
      record {
        older = older;
        place = before;
        lawful = lawful;
        acks = acks;
        unbegun = subst (λ (v : TxnId). beginning older v ≡ None) same permitted.order.once;
        begun = record { attempt = a; gateway = gateway; start = start; limit = limit; kind = permitted.order.kind; list = permitted.order.list };
        is_begun = subst (λ (v : TxnId). beginning h v ≡ Some (record { attempt = a; gateway = gateway; start = start; limit = limit; kind = permitted.order.kind; list = permitted.order.list })) same
            (beginning_stays setup h (Made (entry.Begin u a gateway start limit) ∷ older) u _ l place here);
        limit = start.wall + setup.settings.max_offset;
        limit_is = permitted.begun.limit_is ∙ ap (λ (v : Option Event). limit_at v start setup.settings) event;
        limit_high = begin_high older old gateway start a within (running_known setup older old gateway permitted.order.running) permitted.begun.start_is;
      }
  begun_at x older place b permitted lawful = absurd b

  pub begun_after : Happened (BeginsAfter setup ack t) h → IsBegunAfter setup h ack t
  begun_after w =
      let f : (x : Item) × (older : History) × IsPlace (x ∷ older) h × BeginsAfter setup ack t x older × IsPermitted setup older x × IsLawful setup older =
      happened_so setup h (BeginsAfter setup ack t) l w in
      begun_at f.0 f.1 f.2 f.3 f.4 f.5

-- before it began it had no attempt
pub no_attempt : (setup : Setup) (h : History) → IsLawful setup h → (t : TxnId) → beginning h t ≡ None → IsThere (last_attempt h t) → ⊥
no_attempt setup h l t none last =
    let b : IsThere (beginning h t) = last_begun setup h l t last.0 last.1 in not_none (sym none ∙ b.1)
