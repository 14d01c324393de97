-- A range of the state by its number, and what is so of its replicas.
use Rattle.std.proofs.Common.{◌≡◌, ◌≢◌, ◌<◌, ◌≤◌, ◌-◌, ◌+◌, ◌∙◌, ℕ, List, [], Contains, Vec, get_or, length, map, refl, sym, ap, subst, arith}
use Rattle.std.proofs.lemmas.List.{get_or_read}
use Rattle.mr_base.specs.declared.ids.NodeId.{NodeId}
use Rattle.mr_base.specs.declared.ids.RangeId.{RangeId}
use Rattle.node_states.specs.Stage.{AreNumbered}
use Rattle.range_replicas.specs.RangeValue.{RangeValue, nobody, replicas, server_at}
use Rattle.replica_states.proofs.RangeLemmas.{number_made, numbers, place_made, replica_made, setup_numbers, tied_made}
use Rattle.replica_states.specs.RangeTies.{IsRangeTied, IsReplicaTied}
use Rattle.run_words.specs.History.{History}
use Rattle.run_words.specs.Logs.{applied, log_of}
use Rattle.run_words.specs.Nodes.{boot}
use Rattle.run_words.specs.Ranges.{HoldsReplica}
use Rattle.request_routes.specs.declared.hints.Hints.{Hints}
use Rattle.std.specs.declared.alloc.Global.{Global}
use Rattle.cluster_state.specs.RangeAt.{no_range, range_at}
use Rattle.cluster_state.specs.Tied.{IsTiedTo, past, the_setup}
use Rattle.cluster_state.specs.declared.state.State.{State}

module _ (s : State) (h : History) (t : IsTiedTo h s) where
  pub numbered : AreNumbered 0 (numbers (the_setup s).ranges)
  numbered = subst (λ (ns : List ℕ). AreNumbered 0 ns) (sym (setup_numbers s.stage.ranges)) t.staged.numbered

  module _ (j : RangeId) (made : log_of (the_setup s) h j ≢ []) where
    pub within : j.0 - 1 < length s.ranges.items
    within = place_made (log_of (the_setup s) h) (applied (the_setup s) h) (boot (the_setup s) h) (the_setup s).ranges s.ranges.items numbered t.ranges_are j made

    -- the range as it is read
    module _ (r : RangeValue) (is : r ≡ get_or s.ranges.items (j.0 - 1) r) where
      pub read_at : r ≡ range_at j s
      read_at = get_or_read s.ranges.items (j.0 - 1) r within is no_range

      pub number_of : r.number ≡ j
      number_of = ap (λ (x : RangeValue). x.number) is
          ∙ number_made (log_of (the_setup s) h) (applied (the_setup s) h) (boot (the_setup s) h) (the_setup s).ranges s.ranges.items numbered t.ranges_are j r made

      pub range_tied : IsRangeTied (log_of (the_setup s) h) (applied (the_setup s) h) (boot (the_setup s) h) r
      range_tied = subst (λ (x : RangeValue). IsRangeTied (log_of (the_setup s) h) (applied (the_setup s) h) (boot (the_setup s) h) x) (sym is)
          (tied_made (log_of (the_setup s) h) (applied (the_setup s) h) (boot (the_setup s) h) (the_setup s).ranges s.ranges.items numbered t.ranges_are j r made)

      pub log_is : r.log.entries ≡ log_of (the_setup s) h j
      log_is = range_tied.log_is ∙ ap (log_of (the_setup s) h) number_of

      pub replica_there : (n : NodeId) → HoldsReplica (the_setup s) h n j → Contains (replicas r) n
      replica_there n holds = subst (λ (x : RangeValue). Contains (replicas x) n) (sym is)
          (replica_made (log_of (the_setup s) h) (applied (the_setup s) h) (boot (the_setup s) h) (the_setup s).ranges s.ranges.items numbered t.ranges_are j n r made holds)

      -- a replica of it
      module _ (place : ℕ) (n : NodeId) (there : place < length r.servers) (at : (server_at place r).node ≡ n) where
        pub applied_there : (server_at place r).replica.applied ≡ applied (the_setup s) h n j
        applied_there = (range_tied.servers_are place nobody there).applied_is
            ∙ ap (λ (x : RangeId). applied (the_setup s) h (server_at place r).node x) number_of ∙ ap (λ (m : NodeId). applied (the_setup s) h m j) at

        pub boot_there : (server_at place r).boot ≡ boot (the_setup s) h n
        boot_there = (range_tied.servers_are place nobody there).boot_is ∙ ap (boot (the_setup s) h) at

-- no tie looks at the hints
pub hints_apart : (s : State) (h : History) (hints : Vec Hints Global) → IsTiedTo h s → IsTiedTo h (record s { hints = hints })
hints_apart s h hints t =
    record {
      staged = t.staged;
      laws = t.laws;
      count = t.count;
      nodes_are = t.nodes_are;
      ranges_are = t.ranges_are;
      mails_are = t.mails_are;
      begun_are = t.begun_are;
      sent_are = t.sent_are;
    }
