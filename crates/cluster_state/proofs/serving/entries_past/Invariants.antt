use Rattle.std.proofs.Common.{◌≡◌, ◌-◌, ◌≤◌, take}
use Rattle.node_states.specs.Appends.{appends}
use Rattle.range_log.specs.Facts.{first_entries}
use Rattle.run_ledger.specs.LedgerValue.{made_all}
use Rattle.cluster_state.proofs.serving.entries_past.Given as goal

abbrev pub invariant-loop-index : goal.invariant-loop-index
invariant-loop-index l = made_all l.entries.items ≡ appends l.number l.before (take (l.index - l.before) (first_entries l.index l.log.entries))
