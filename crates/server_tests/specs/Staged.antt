use Rattle.std.specs.Prelude.{⊤}
use Rattle.mr_base.specs.Nodes.{IsNode}
use Rattle.mvcc_range.specs.Follows.{Follows}
use Rattle.range_log.specs.LogValue.{LogValue}
use Rattle.range_server.specs.Scene.{applied_by}
use Rattle.range_server.specs.declared.leases.LeaseRefusal.{LeaseRefusal}
use Rattle.range_server.specs.declared.leases.LeaseRefusal.TheVariants as refusals
use Rattle.range_server.specs.declared.standing.Standing.{Standing}

-- A server and a log of the tests.

-- The server is at a node and follows a first part of the log.
pub record IsStaged (server : Standing) (log : LogValue) : Type 0 where
  pub node : IsNode server.node
  pub follows : Follows server.replica (applied_by server log.entries)

-- A refusal that isn't want of memory.
abbrev pub IsSaid : LeaseRefusal → Type 0
IsSaid refusals.Memory = ⊥
IsSaid refusal = ⊤
