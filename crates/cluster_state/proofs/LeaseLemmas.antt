-- Leases are appended, or refused.
use Rattle.std.proofs.Common.{◌≡◌, ◌≢◌, ◌<◌, ◌≤◌, ◌-◌, ◌+◌, ◌∙◌, ◌⊎◌, ◌==◌, ◌||◌, ℕ, Bool, true, false, List, [], ◌∷◌, Option, None, Some, Result, Ok, Err, All, get_or, set, length, max, find, cond, refl, sym, ap, subst, inl, inr, arith, IsSome}
use Rattle.std.specs.Vec.{with_item}
use Rattle.std.specs.Prelude.{if◌then◌else◌, ⊤}
use Rattle.std.proofs.lemmas.Bool.{cases_eq}
use Rattle.std.proofs.lemmas.List.{set-get_or}
use Rattle.std.proofs.lemmas.List.Elements.{All-weaker}
use Rattle.journal.specs.declared.entries.JournalEntry.TheVariants as entry
use Rattle.journal.specs.declared.entries.LeaseWhy.{LeaseWhy}
use Rattle.journal.specs.declared.events.Event.{Event}
use Rattle.journal.specs.declared.events.Event.TheVariants as events
use Rattle.mr_base.specs.declared.ids.NodeId.{NodeId}
use Rattle.mr_base.specs.declared.ids.RangeId.{RangeId}
use Rattle.range_log.specs.declared.entries.Entry.{Entry}
use Rattle.range_log.specs.declared.entries.Entry.TheVariants as log
use Rattle.range_log.specs.declared.entries.Lease.{Lease}
use Rattle.range_replicas.specs.RangeValue.{IsChangedAt, RangeValue, nobody, server_at}
use Rattle.range_replicas.specs.Sound.{IsSound}
use Rattle.range_server.specs.Leases.{HasAnswered, HasRefused}
use Rattle.range_server.specs.Scene.{Scene}
use Rattle.range_server.specs.declared.leases.LeaseRefusal.{LeaseRefusal}
use Rattle.range_server.specs.declared.leases.LeaseRefusal.TheVariants as refusals
use Rattle.range_server.specs.declared.standing.Standing.{Standing}
use Rattle.replica_states.proofs.RangeLemmas.{range_changes}
use Rattle.replica_states.specs.RangeTies.{IsRangeTied, IsReplicaTied, RangesTied, planned}
use Rattle.run_laws.specs.OrderEvents.{IsFirstAt}
use Rattle.run_laws.specs.RangeLines.{IsLeaseEventAt}
use Rattle.run_words.specs.History.{History, Made}
use Rattle.run_words.specs.Logs.{applied, log_of}
use Rattle.run_words.specs.Nodes.{boot}
use Rattle.run_words.specs.Steps.{event_of, has_entry}
use Rattle.cluster_state.proofs.RangeLemmas.{numbered, range_tied, within}
use Rattle.cluster_state.specs.LeaseMoves.{Gives, IsWhy, lease_event}
use Rattle.cluster_state.specs.Tied.{IsTied, IsTiedTo, past, the_setup}
use Rattle.cluster_state.specs.declared.leases.Ask.{Ask}
use Rattle.cluster_state.specs.declared.leases.Ask.TheVariants as asks
use Rattle.cluster_state.specs.declared.state.State.{State}

-- the line speaks of the lease of the range
lease_line : (ask : Ask) (j : RangeId) (n : NodeId) → IsLeaseEventAt (Some (lease_event ask j n)) j
lease_line asks.Acquire j n = refl
lease_line (asks.Transfer to boot) j n = refl
lease_line asks.Extend j n = refl

pub at_line : (h : History) (ask : Ask) (j : RangeId) (n : NodeId) → IsFirstAt h (lease_event ask j n) → IsLeaseEventAt (event_of h) j
at_line h ask j n line = subst (λ (o : Option Event). IsLeaseEventAt o j) (sym line.0) (lease_line ask j n)

-- why a lease doesn't move is said only where that was refused
pub was_refused : (refusal : LeaseRefusal) (w : LeaseWhy) → IsWhy refusal w → HasRefused {A = Lease} (Err refusal)
was_refused refusals.NotVoter w h = tt
was_refused (refusals.Live expiration) w h = tt
was_refused refusals.NotHolder w h = tt
was_refused (refusals.NoQuorum down) w h = tt
was_refused refusals.Memory w h = h

-- a refusal leaves the log's entries
pub refused_same : (ask : Ask) (sc : Scene) (refusal : LeaseRefusal) (after : List Entry) → Gives ask sc (Err refusal) after → HasRefused {A = Lease} (Err refusal)
    → after ≡ sc.log.entries
refused_same asks.Acquire sc refusals.NotVoter after g h = g.1
refused_same asks.Acquire sc (refusals.Live e) after g h = g.2
refused_same asks.Acquire sc (refusals.NoQuorum down) after g h = g.3
refused_same asks.Acquire sc refusals.NotHolder after g h = absurd g
refused_same asks.Acquire sc refusals.Memory after g h = absurd h
refused_same (asks.Transfer to boot) sc refusals.NotVoter after g h = g.2
refused_same (asks.Transfer to boot) sc (refusals.Live e) after g h = absurd g
refused_same (asks.Transfer to boot) sc (refusals.NoQuorum down) after g h = g.3
refused_same (asks.Transfer to boot) sc refusals.NotHolder after g h = g.1
refused_same (asks.Transfer to boot) sc refusals.Memory after g h = absurd h
refused_same asks.Extend sc refusals.NotVoter after g h = absurd g
refused_same asks.Extend sc (refusals.Live e) after g h = absurd g
refused_same asks.Extend sc (refusals.NoQuorum down) after g h = g.2
refused_same asks.Extend sc refusals.NotHolder after g h = g.1
refused_same asks.Extend sc refusals.Memory after g h = absurd h

module _ (s : State) (t : IsTied s) (j : RangeId) (made : log_of (the_setup s) (past s) j ≢ []) (r : RangeValue) (is : r ≡ get_or s.ranges.items (j.0 - 1) r)
    (place : ℕ) (r2 : RangeValue) (changed : IsChangedAt place r r2) (sound : IsSound r2) where
  -- the range has changed but for its log's room
  module _ (same : r2.log.entries ≡ r.log.entries) (server : server_at place r2 ≡ server_at place r) where
    refused_range : IsRangeTied (log_of (the_setup s) (past s)) (applied (the_setup s) (past s)) (boot (the_setup s) (past s)) r2
    refused_range =
        let old = range_tied s (past s) t j made r is in
        let number : r.number ≡ r2.number = sym (ap (λ (x : RangeValue). x.number) changed) in
        let servers : r.servers ≡ r2.servers
        = sym (ap (λ (x : RangeValue). x.servers) changed ∙ ap (λ (x : Standing). set r.servers place x) server ∙ set-get_or r.servers place nobody) in
        record {
          sound = sound;
          log_is = same ∙ old.log_is ∙ ap (log_of (the_setup s) (past s)) number;
          servers_are = subst (λ (i : RangeId). All (IsReplicaTied (applied (the_setup s) (past s)) (boot (the_setup s) (past s)) i) r2.servers) number
              (subst (λ (xs : List Standing). All (IsReplicaTied (applied (the_setup s) (past s)) (boot (the_setup s) (past s)) r.number) xs) servers old.servers_are);
        }

    refused_ranges : RangesTied (the_setup s) (past s) (set s.ranges.items (j.0 - 1) r2)
    refused_ranges =
        range_changes (log_of (the_setup s) (past s)) (applied (the_setup s) (past s)) (boot (the_setup s) (past s)) (the_setup s).ranges s.ranges.items
        (numbered s (past s) t) t.ranges_are (j.0 - 1) r r2 (log_of (the_setup s) (past s)) (applied (the_setup s) (past s)) (within s (past s) t j made)
        (ap (λ (x : RangeValue). planned x) changed ∙ ap (λ (x : RangeValue). planned x) is) refused_range (λ i n. refl) (λ m i n. refl)

    pub refused_keeps : (w : LeaseWhy) → IsLeaseEventAt (event_of (past s)) j → has_entry (past s) ≡ false
        → IsTiedTo (Made (entry.LeaseRefused j w) ∷ past s) (record s { ranges = with_item s.ranges (j.0 - 1) r2 })
    refused_keeps w line first =
        record {
          staged = t.staged;
          laws = (record { order = (line, first); message = tt; append = tt; waited = tt; begun = tt }, t.laws);
          count = t.count;
          nodes_are = t.nodes_are;
          ranges_are = refused_ranges;
          mails_are = t.mails_are;
          begun_are = t.begun_are;
          sent_are = t.sent_are;
        }

pub answered_too : (refusal : LeaseRefusal) → HasRefused {A = Lease} (Err refusal) → HasAnswered {A = Lease} (Err refusal)
answered_too refusals.NotVoter h = tt
answered_too (refusals.Live expiration) h = tt
answered_too refusals.NotHolder h = tt
answered_too (refusals.NoQuorum down) h = tt
answered_too refusals.Memory h = h

pub said_keeps : (s : State) (j : RangeId) (w : LeaseWhy) → IsTied s → IsLeaseEventAt (event_of (past s)) j → has_entry (past s) ≡ false
    → IsTiedTo (Made (entry.LeaseRefused j w) ∷ past s) s
said_keeps s j w t line first =
    record {
      staged = t.staged;
      laws = (record { order = (line, first); message = tt; append = tt; waited = tt; begun = tt }, t.laws);
      count = t.count;
      nodes_are = t.nodes_are;
      ranges_are = t.ranges_are;
      mails_are = t.mails_are;
      begun_are = t.begun_are;
      sent_are = t.sent_are;
    }
