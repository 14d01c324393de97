use Rattle.std.proofs.Common.{◌≡◌, ℕ, List, ◌∷◌, Option, Some, refl, sym, ap, ap₂, ◌∙◌, subst, length, set, get_or, arith}
use Rattle.std.specs.Prelude.{◌+◌, ◌-◌, ◌<◌, ◌≤◌}
use Rattle.std.specs.Vec.{with_item}
use Rattle.hlc.specs.Readings.{IsEarlier, next_of}
use Rattle.journal.specs.declared.entries.JournalEntry.TheVariants as entry
use Rattle.mr_base.specs.Timestamps.{of_reading}
use Rattle.mr_base.specs.declared.ids.AttemptId.{AttemptId}
use Rattle.mr_base.specs.declared.ids.NodeId.{NodeId}
use Rattle.mr_base.specs.declared.ids.TxnId.{TxnId}
use Rattle.mr_base.specs.declared.timestamps.Reading.{Reading}
use Rattle.mr_base.specs.declared.timestamps.Ts.{Ts}
use Rattle.range_log.specs.declared.entries.RetryCause.{RetryCause}
use Rattle.std.proofs.lemmas.List.{length-set}
use Rattle.node_states.proofs.NodeLemmas.{begin_keeps, node_at_place, node_tied_at}
use Rattle.node_states.specs.Moves.{with_kept}
use Rattle.node_states.specs.Ties.{NodesTied}
use Rattle.node_states.specs.declared.states.NodeState.{NodeState}
use Rattle.run_laws.specs.Begun.{limit_at}
use Rattle.run_laws.specs.Order.{IsBeginDue}
use Rattle.run_laws.specs.OrderEvents.{IsInStep}
use Rattle.run_words.specs.Clocks.{phys, reading_at, seen}
use Rattle.run_words.specs.Nodes.{boot, is_running}
use Rattle.run_words.specs.Steps.{event_of}
use Rattle.run_words.specs.Askers.{own_txn}
use Rattle.run_words.specs.History.{Made}
use Rattle.run_words.specs.Transactions.{attempts}
use Rattle.cluster_state.specs.Tied.{IsThere, IsTied, IsTiedTo, past, the_setup}
use Rattle.cluster_state.specs.declared.state.State.{State}

-- Transactions begin, and are tried again.

abbrev pub with_attempts : State → ℕ → State
with_attempts s n = record s { attempts = n }

pub retried_keeps : (s : State) (t : TxnId) (a : AttemptId) (cause : RetryCause) → IsTied s → IsInStep (past s) → own_txn (past s) ≡ Some t → a.0 ≡ s.attempts + 1
    → IsTiedTo (Made (entry.Retry t a cause) ∷ past s) (with_attempts s a.0)
retried_keeps s t a cause i step own number =
    record {
      staged = i.staged;
      laws = (record { order = (step, own); message = tt; append = tt; waited = tt; begun = number ∙ ap (λ k. k + 1) i.begun_are }, i.laws);
      count = i.count;
      nodes_are = i.nodes_are;
      ranges_are = i.ranges_are;
      mails_are = i.mails_are;
      begun_are = number ∙ ap (λ k. k + 1) i.begun_are;
      sent_are = i.sent_are;
    }

abbrev pub place_of : NodeId → ℕ
place_of n = n.0 - 1

-- a node that is there has a place
place_within : (s : State) (n : NodeId) → IsTied s → IsThere s.stage n → place_of n < length s.nodes.items
place_within s n t there =
    let c : length s.nodes.items ≡ length s.stage.nodes = t.count in
    let low : 1 ≤ n.0 = there.0 in
    let high : n.0 ≤ length s.stage.nodes = there.1 in
    grind (arith, c, low, high)

place_next : (n : NodeId) → 1 ≤ n.0 → place_of n + 1 ≡ n.0
place_next n low = grind (arith, low)

-- a node whose clock keeps another reading, and a further attempt
abbrev pub with_start : State → NodeId → NodeState → ℕ → State
with_start s n y attempts = record s { nodes = with_item s.nodes (place_of n) y; attempts = attempts }

starts_next : (s : State) (gateway : NodeId) (x : NodeState) (r : Reading) (n : ℕ) (start : Ts) → IsTied s → IsThere s.stage gateway → x ≡ get_or s.nodes.items (place_of gateway) x
    → r ≡ next_of x.clock.physical x.clock.kept → start ≡ of_reading r n → start ≡ of_reading (next_of (phys (the_setup s) (past s) gateway) (seen (the_setup s) (past s) gateway)) n
starts_next s gateway x r n start t there item next is =
    let at : ((get_or s.nodes.items (place_of gateway) x).clock.physical ≡ phys (the_setup s) (past s) gateway) × ((get_or s.nodes.items (place_of gateway) x).clock.kept ≡ seen (the_setup s) (past s) gateway)
    × ((get_or s.nodes.items (place_of gateway) x).boot ≡ boot (the_setup s) (past s) gateway) × ((get_or s.nodes.items (place_of gateway) x).runs ≡ is_running (the_setup s) (past s) gateway) =
    node_tied_at (the_setup s) (past s) s.nodes.items s.running gateway (place_of gateway) x t.nodes_are (place_next gateway there.0) (place_within s gateway t there) in
    is ∙ ap (λ (y : Reading). of_reading y n) (next ∙ ap₂ next_of (ap (λ (y : NodeState). y.clock.physical) item ∙ at.0) (ap (λ (y : NodeState). y.clock.kept) item ∙ at.1))

nodes_begun : (s : State) (t : TxnId) (gateway : NodeId) (a : AttemptId) (x y : NodeState) (r : Reading) (start : Ts) (limit : Option ℕ) → IsTied s → IsThere s.stage gateway
    → x ≡ get_or s.nodes.items (place_of gateway) x → IsEarlier x.clock.kept r → y ≡ with_kept r x → start ≡ of_reading r a.0
    → NodesTied (the_setup s) (Made (entry.Begin t a gateway start limit) ∷ past s) (set s.nodes.items (place_of gateway) y) s.running
nodes_begun s t gateway a x y r start limit i there item later kept is =
    let l : place_of gateway < length s.nodes.items = place_within s gateway i there in
    subst (λ (z : NodeState). NodesTied (the_setup s) (Made (entry.Begin t a gateway start limit) ∷ past s) (set s.nodes.items (place_of gateway) z) s.running)
    (sym (kept ∙ ap (with_kept r) item))
    (begin_keeps (the_setup s) (past s) s.nodes.items s.running (place_of gateway) x t a gateway start limit r i.nodes_are l
    (node_at_place s.nodes.items gateway (place_of gateway) x i.nodes_are.numbered (place_next gateway there.0) l) (ap reading_at is)
    (subst (λ (z : NodeState). IsEarlier z.clock.kept r) item later))

pub begun_keeps : (s : State) (t : TxnId) (gateway : NodeId) (a : AttemptId) (x y : NodeState) (r : Reading) (start : Ts) (limit : Option ℕ) → IsTied s → IsThere s.stage gateway
    → IsBeginDue (the_setup s) (past s) t gateway → a.0 ≡ s.attempts + 1 → x ≡ get_or s.nodes.items (place_of gateway) x → r ≡ next_of x.clock.physical x.clock.kept
    → IsEarlier x.clock.kept r → y ≡ with_kept r x → start ≡ of_reading r a.0 → limit ≡ limit_at (event_of (past s)) start s.stage.settings
    → IsTiedTo (Made (entry.Begin t a gateway start limit) ∷ past s) (with_start s gateway y a.0)
begun_keeps s t gateway a x y r start limit i there due number item next later kept is lim =
    record {
      staged = i.staged;
      laws = (
        record {
          order = due;
          message = tt;
          append = tt;
          waited = tt;
          begun = record {
            attempt = number ∙ ap (λ k. k + 1) i.begun_are;
            start_is = starts_next s gateway x r a.0 start i there item next is;
            limit_is = lim;
          };
        },
        i.laws,
      );
      count = length-set s.nodes.items (place_of gateway) y ∙ i.count;
      nodes_are = nodes_begun s t gateway a x y r start limit i there item later kept is;
      ranges_are = i.ranges_are;
      mails_are = i.mails_are;
      begun_are = number ∙ ap (λ k. k + 1) i.begun_are;
      sent_are = i.sent_are;
    }
