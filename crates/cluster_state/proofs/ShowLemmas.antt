use Rattle.std.proofs.Common.{◌≡◌, ◌∷◌, ◌∙◌, ℕ, List, Bool, length, refl, sym, subst, ap, arith, Some}
use Rattle.std.specs.Prelude.{slice_index_or, ◌-◌, ◌+◌, ◌<◌, ◌≤◌}
use Rattle.std.specs.List.{All}
use Rattle.hlc.specs.Readings.{reading_of}
use Rattle.journal.specs.declared.entries.JournalEntry.TheVariants as entry
use Rattle.journal.specs.declared.events.Event.TheVariants as events
use Rattle.journal.specs.declared.entries.JournalEntry.{JournalEntry}
use Rattle.range_log.specs.Facts.{closed_of, lease_of}
use Rattle.range_log.specs.declared.entries.Entry.{Entry}
use Rattle.range_log.specs.declared.entries.Lease.{Lease}
use Rattle.mr_base.specs.declared.ids.NodeId.{NodeId}
use Rattle.mr_base.specs.declared.timestamps.Reading.{Reading}
use Rattle.mr_base.specs.declared.ids.MsgId.{MsgId}
use Rattle.mr_base.specs.declared.ids.RangeId.{RangeId}
use Rattle.mr_base.specs.declared.timestamps.Ts.{Ts}
use Rattle.node_states.specs.Ties.{IsNodeTied}
use Rattle.node_states.specs.declared.states.NodeState.{NodeState}
use Rattle.run_laws.specs.OrderEvents.{IsFirstAt}
use Rattle.run_words.specs.Clocks.{phys, reading, seen}
use Rattle.run_words.specs.History.{Made}
use Rattle.run_words.specs.Nodes.{boot, is_running}
use Rattle.cluster_state.proofs.NodeAt.{id_at, reading_at, runs_at, tied_at}
use Rattle.cluster_state.specs.Tied.{IsThere, IsTied, IsTiedTo, past, the_setup}
use Rattle.cluster_state.specs.declared.state.State.{State}

-- Entries that show what is: no tie looks at them.

pub shown_node_keeps : (s : State) (n : NodeId) (clock : Reading) (running : Bool) (at : ℕ) → IsTied s → IsFirstAt (past s) (events.ShowNode n)
    → IsTiedTo (Made (entry.ShowNode n clock running at) ∷ past s) s
shown_node_keeps s n clock running at t due =
    record {
      staged = t.staged;
      laws = (record { order = due; message = tt; append = tt; waited = tt; begun = tt }, t.laws);
      count = t.count;
      nodes_are = t.nodes_are;
      ranges_are = t.ranges_are;
      mails_are = t.mails_are;
      begun_are = t.begun_are;
      sent_are = t.sent_are;
    }

-- a node is shown as the words say of it
pub node_as_shown : (s : State) (n : NodeId) (x : NodeState) → IsTied s → IsThere s.stage n → x ≡ slice_index_or s.nodes.items (n.0 - 1) x
    → entry.ShowNode n (reading_of x.clock.physical x.clock.kept) x.runs x.boot
    ≡ entry.ShowNode n (reading (the_setup s) (past s) n) (is_running (the_setup s) (past s) n) (boot (the_setup s) (past s) n)
node_as_shown s n x t there e =
    let r : reading_of x.clock.physical x.clock.kept ≡ reading (the_setup s) (past s) n = reading_at s (past s) n x t there e in
    let u : x.runs ≡ is_running (the_setup s) (past s) n = runs_at s (past s) n x t there e in
    let b : x.boot ≡ boot (the_setup s) (past s) n =
    (tied_at s (past s) n x t there e).boot_is ∙ ap (boot (the_setup s) (past s)) (id_at s (past s) n x t there e) in
    rw (r, u, b) refl

pub shown_range_keeps : (s : State) (j : RangeId) (seq : ℕ) (holder : NodeId) (expiration : ℕ) (closed : Ts) (count : ℕ) → IsTied s → IsFirstAt (past s) (events.ShowRange j)
    → IsTiedTo (Made (entry.ShowRange j seq holder expiration closed count) ∷ past s) s
shown_range_keeps s j seq holder expiration closed count t due =
    record {
      staged = t.staged;
      laws = (record { order = due; message = tt; append = tt; waited = tt; begun = tt }, t.laws);
      count = t.count;
      nodes_are = t.nodes_are;
      ranges_are = t.ranges_are;
      mails_are = t.mails_are;
      begun_are = t.begun_are;
      sent_are = t.sent_are;
    }

pub shown_flight_keeps : (s : State) (ms : List MsgId) → IsTied s → IsFirstAt (past s) events.ShowFlight → IsTiedTo (Made (entry.ShowFlight ms) ∷ past s) s
shown_flight_keeps s ms t due =
    record {
      staged = t.staged;
      laws = (record { order = due; message = tt; append = tt; waited = tt; begun = tt }, t.laws);
      count = t.count;
      nodes_are = t.nodes_are;
      ranges_are = t.ranges_are;
      mails_are = t.mails_are;
      begun_are = t.begun_are;
      sent_are = t.sent_are;
    }

-- a range is shown as its log says
abbrev pub IsShownAs : RangeId → List Entry → JournalEntry → Type 0
IsShownAs j log shown = (lease : Lease) × (lease_of log ≡ Some lease) × (shown ≡ entry.ShowRange j lease.seq lease.holder lease.expiration (closed_of log) (length log))
