use Rattle.std.specs.Prelude.{◌&&◌, ◌==◌, ℕ, Bool, if◌then◌else◌, List, [], ◌∷◌, length}
use Rattle.mr_base.specs.declared.ids.NodeId.{NodeId}
use Rattle.range_log.specs.declared.entries.Entry.{Entry}
use Rattle.range_log.specs.declared.entries.Entry.TheVariants as log
use Rattle.range_log.specs.declared.entries.Lease.{Lease}
use Rattle.range_server.specs.Seen.{nothing_above}
use Rattle.ts_cache.specs.Value.{CacheValue}

-- What applying entries does to what was read under a lease. (This project's profile.)

-- A lease names a node at a boot, as a test.
abbrev pub is_named : NodeId → ℕ → Lease → Bool
is_named node boot lease = lease.holder.0 == node.0 && lease.boot == boot

-- The last of these entries that is a lease of the node at its boot begins it anew, at its low water.
abbrev pub seen_after : NodeId → ℕ → List Entry → CacheValue → CacheValue
seen_after node boot [] seen = seen
seen_after node boot (log.Lease lease ∷ older) seen =
    if is_named node boot lease then nothing_above lease.low else seen_after node boot older seen
seen_after node boot (e ∷ older) seen = seen_after node boot older seen

-- How many entries a server has applied after a call: all of them where the log grew, else as many as before.
abbrev pub applied_past : (added : List Entry) → ℕ → (entries : List Entry) → ℕ
applied_past [] applied entries = applied
applied_past (e ∷ added) applied entries = length entries
