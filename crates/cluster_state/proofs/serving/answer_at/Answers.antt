use Rattle.std.proofs.Common.{◌≡◌, ◌-◌, ◌++◌, length, take, refl, sym, ap, ◌∙◌}
use Rattle.node_states.specs.Appends.{appends}
use Rattle.range_replicas.specs.RangeValue.{added_in}
use Rattle.run_ledger.specs.LedgerValue.{made_all}
use Rattle.cluster_state.proofs.EntryLemmas.{with_served}
use Rattle.cluster_state.specs.Handled.{serve_of}
use Rattle.cluster_state.proofs.serving.answer_at.Goals as goal

pub returns : goal.returns
returns c =
    let old = c.args.range.now in
    let new = c.handle.new.self in
    let done = c.in_ok-handled.ensures in
    let appended : made_all c.in_ok-appended.appended.items ≡ appends old.number (length old.log.entries) (added_in old new) =
    c.in_ok-appended.ensures ∙ rw (c.number-number.ensures, c.len-before.ensures, c.log.ensures, c.log-2.ensures) refl in
    record {
      place = c.in-Some.place;
      inside = c.in-Some.ensures.0;
      node_is = c.in-Some.ensures.1;
      by = c.in_ok-handled.handled.by;
      grown = done.grown;
      answer = done.answer;
      licensed = done.licensed;
      holder = done.held;
      applied_is = done.applied;
      server_is = done.server;
      changed = done.changed;
      sound = done.sound;
      entries_are = rw (sym c.applied-count.ensures)
          (with_served c.in_ok-served.served c.in_ok-entries.entries.items c.in_ok-appended.appended.items
          (serve_of c.args.node c.applied-count.result c.args.q.now c.in_ok-handled.handled.reply c.in_ok-handled.handled.by)
          (appends old.number (length old.log.entries) (added_in old new)) c.in_ok-served.ensures c.in_ok-entries.ensures appended);
    }
