use Rattle.std.specs.Prelude.{ℕ, List}
use Rattle.mr_base.specs.declared.nodes.NodeSet.{NodeSet}
use Rattle.range_log.specs.declared.entries.Entry.{Entry}

-- A log as contracts see it: the replicas that vote, the entries, newest first, and for how many more there is
-- room without taking memory.
pub record LogValue : Type 0 where
  pub voters : NodeSet
  pub entries : List Entry
  pub room : ℕ
