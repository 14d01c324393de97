-- What was handled, in the words of the history.
use Rattle.std.proofs.Common.{◌≡◌, ◌≢◌, ◌<◌, ◌-◌, ℕ, true, List, [], ◌++◌, length, get_or, refl, sym, ap, ◌∙◌, subst, Some, append_assoc}
use Rattle.std.specs.Vec.{with_item}
use Rattle.mr_base.specs.declared.ids.NodeId.{NodeId}
use Rattle.mr_base.specs.declared.ids.RangeId.{RangeId}
use Rattle.mr_base.specs.declared.messages.Request.{Request}
use Rattle.mr_base.specs.declared.timestamps.Reading.{Reading}
use Rattle.node_states.specs.Appends.{appends}
use Rattle.node_states.specs.declared.states.NodeState.{NodeState}
use Rattle.range_log.specs.declared.entries.Entry.{Entry}
use Rattle.range_replicas.specs.RangeValue.{RangeValue, added_in, nobody, scene_at, server_at}
use Rattle.range_replicas.specs.Voters.{MajorityIsMoreThanHalf, set_of}
use Rattle.range_rules.specs.Added.{AreLicensed}
use Rattle.range_server.specs.Handling.{IsAnswer, Licenses}
use Rattle.range_server.specs.Scene.{Scene, moment}
use Rattle.range_server.specs.declared.standing.Standing.{Standing}
use Rattle.run_laws.specs.OrderEvents.{IsInStep}
use Rattle.run_laws.specs.Places.{stepping}
use Rattle.run_ledger.specs.LedgerValue.{made_all}
use Rattle.run_words.specs.Askers.{range_asked}
use Rattle.run_words.specs.Clocks.{reading}
use Rattle.run_words.specs.History.{History}
use Rattle.run_words.specs.Logs.{applied, log_of}
use Rattle.run_words.specs.Nodes.{is_running}
use Rattle.cluster_state.proofs.HandledKeep.{handled_tied, prefix_is}
use Rattle.cluster_state.proofs.Quorum.{global_at, voter_among, voters_at}
use Rattle.cluster_state.proofs.RangeLemmas.{applied_there, boot_there, log_is, number_of, range_tied}
use Rattle.cluster_state.specs.Answered.{IsAnswered}
use Rattle.cluster_state.specs.Handled.{HasHandled, serve_of}
use Rattle.cluster_state.specs.Tied.{IsTiedTo, the_setup}
use Rattle.cluster_state.specs.declared.serving.Answered.{Answered}
use Rattle.cluster_state.specs.declared.state.State.{State}

module _ (law : MajorityIsMoreThanHalf) (s : State) (h : History) (t : IsTiedTo h s) (q : Request) (made : log_of (the_setup s) h (range_asked q) ≢ [])
    (r : RangeValue) (is : r ≡ get_or s.ranges.items ((range_asked q).0 - 1) r) (n : NodeId) (clock : Reading) (d : NodeState) (step : IsInStep h)
    (by : stepping h ≡ Some n) (up : is_running (the_setup s) h n ≡ true) (shows : clock ≡ reading (the_setup s) h n) (r2 : RangeValue) (answered : Answered)
    (a : IsAnswered n (moment clock s.stage.settings s.running) q r r2 answered) where
  abbrev j : RangeId
  j = range_asked q

  abbrev added : List Entry
  added = added_in r r2

  abbrev sc : Scene
  sc = scene_at a.place r (moment clock s.stage.settings s.running)

  items : made_all answered.entries.items ≡ serve_of n (applied (the_setup s) h n j) q answered.reply a.by ++ appends j (length (log_of (the_setup s) h j)) added
  items =
      a.entries_are
      ∙ ap (λ (k : ℕ). serve_of n k q answered.reply a.by ++ appends r.number (length r.log.entries) added) (applied_there s h t j made r is a.place n a.inside a.node_is)
      ∙ ap (λ (i : RangeId). serve_of n (applied (the_setup s) h n j) q answered.reply a.by ++ appends i (length r.log.entries) added) (number_of s h t j made r is)
      ∙ ap (λ (es : List Entry). serve_of n (applied (the_setup s) h n j) q answered.reply a.by ++ appends j (length es) added) (log_is s h t j made r is)

  pub has_handled : HasHandled (the_setup s) h n q answered.reply (made_all answered.entries.items)
  has_handled =
      record {
        found = sc;
        node_is = a.node_is;
        boot_is = boot_there s h t j made r is a.place n a.inside a.node_is;
        applied_is = prefix_is law s h t j made r is n a.place a.inside a.node_is clock d step by up;
        log_is = log_is s h t j made r is;
        clock_is = shows;
        settings_are = refl;
        voters_are = (range_tied s h t j made r is).sound.voters ∙ ap set_of (sym (voters_at s h t j made r is));
        running_are = voter_among s h t j made r is d;
        global_is = (range_tied s h t j made r is).sound.kind a.place nobody a.inside ∙ sym (global_at s h t j made r is);
        by = a.by;
        added = added;
        answer = subst (λ (es : List Entry). IsAnswer sc q answered.reply a.by es added)
            (a.grown ∙ ap (λ (es : List Entry). added ++ es) (log_is s h t j made r is)) a.answer;
        licensed = subst (λ (es : List Entry). AreLicensed (Licenses sc q) added es) (log_is s h t j made r is) a.licensed;
        holder = a.holder;
        items_are = items;
      }

  pub all_tied : IsTiedTo (made_all answered.entries.items ++ h) (record s { ranges = with_item s.ranges (j.0 - 1) r2 })
  all_tied =
      subst (λ (i : History). IsTiedTo (i ++ h) (record s { ranges = with_item s.ranges (j.0 - 1) r2 })) (sym items)
      (subst (λ (i : History). IsTiedTo i (record s { ranges = with_item s.ranges (j.0 - 1) r2 }))
      (sym (append_assoc (serve_of n (applied (the_setup s) h n j) q answered.reply a.by) (appends j (length (log_of (the_setup s) h j)) added) h))
      (handled_tied law s h t j made r is n a.place a.inside a.node_is clock d step by up r2 added q a.grown a.holder a.licensed a.applied_is
      (ap (λ (v : Standing). v.boot) a.server_is) (ap (λ (v : Standing). v.node) a.server_is) a.changed a.sound
      answered.reply a.by (applied (the_setup s) h n j)))
