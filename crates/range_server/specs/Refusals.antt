use Rattle.std.specs.Prelude.{◌≡◌, ◌≢◌, ◌⊎◌, ⊤, true, false, List, [], ◌∷◌, Option, Some, None}
use Rattle.mr_base.specs.declared.messages.Reply.{Reply}
use Rattle.mr_base.specs.declared.messages.Reply.TheVariants as replies
use Rattle.mr_base.specs.declared.nodes.NodeSet.{NodeSet}
use Rattle.range_log.specs.Appends.{has_majority, stopped_of}
use Rattle.range_log.specs.Facts.{lease_of}
use Rattle.range_log.specs.LogValue.{LogValue}
use Rattle.range_log.specs.declared.entries.Entry.{Entry}
use Rattle.range_log.specs.declared.entries.Lease.{Lease}
use Rattle.range_rules.specs.Holding.{Names}
use Rattle.range_server.specs.Scene.{Holds, Scene, applied_in}

-- Why a server doesn't append. (Leases and quorums: Taft et al., SIGMOD 2020.)

-- The reply that names a lease.
abbrev pub not_holder : Lease → Reply
not_holder lease = replies.NotHolder lease.seq lease.holder lease.expiration

-- The server isn't asked as holder: the last lease that it has applied, which the reply names, doesn't name it, or
-- an entry is needed and that lease isn't the log's last.
pub record IsNotHolder (sc : Scene) (NeedsEntry : Type 0) (reply : Reply) (added : List Entry) : Type 0 where
  pub lease : Lease
  pub has : lease_of (applied_in sc) ≡ Some lease
  pub tells : reply ≡ not_holder lease
  pub cause : (¬ Names lease sc.server.node sc.server.boot)
      ⊎ (Names lease sc.server.node sc.server.boot × NeedsEntry × (lease_of sc.log.entries ≢ Some lease))
  pub nothing : added ≡ []

-- An entry is needed, the server is holder, and no majority of the voters runs. The reply names those that are
-- stopped.
pub record IsWithoutQuorum (sc : Scene) (NeedsEntry : Type 0) (reply : Reply) (added : List Entry) : Type 0 where
  pub lease : Lease
  pub holds : Holds sc lease
  pub needs : NeedsEntry
  pub minority : has_majority sc.log.voters sc.now.running ≡ false
  pub tells : reply ≡ replies.NoQuorum (stopped_of sc.log.voters sc.now.running)
  pub nothing : added ≡ []

-- The server can append: it is holder, and a majority of the voters runs.
pub record CanAppend (sc : Scene) : Type 0 where
  pub lease : Lease
  pub holds : Holds sc lease
  pub majority : has_majority sc.log.voters sc.now.running ≡ true

-- Only a server that can append adds entries.
abbrev pub IsByHolder : Scene → (added : List Entry) → Type 0
IsByHolder sc [] = ⊤
IsByHolder sc (e ∷ added) = CanAppend sc

-- Why nothing can be appended in the name of a lease; none where something can.
abbrev pub IsRefusal : Lease → NodeSet → LogValue → Option Reply → Type 0
IsRefusal lease running log None = (lease_of log.entries ≡ Some lease) × (has_majority log.voters running ≡ true)
IsRefusal lease running log (Some reply) =
    ((lease_of log.entries ≢ Some lease) × (reply ≡ not_holder lease))
    ⊎ ((lease_of log.entries ≡ Some lease) × (has_majority log.voters running ≡ false)
    × (reply ≡ replies.NoQuorum (stopped_of log.voters running)))
