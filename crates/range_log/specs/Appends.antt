use Rattle.std.specs.Prelude.{◌≡◌, ◌↔◌, ◌<◌, ◌+◌, ◌*◌, ◌==◌, ℕ, Bool, List, Option, Some, None, Result, Ok, Err, if◌then◌else◌, nat_lt, length, bit_and, bit_xor}
use Rattle.mr_base.specs.Nodes.{IsMember, IsNode, nodes_in}
use Rattle.mr_base.specs.declared.ids.NodeId.{NodeId}
use Rattle.mr_base.specs.declared.nodes.NodeSet.{NodeSet}
use Rattle.range_log.specs.Facts.{lease_of}
use Rattle.range_log.specs.LogValue.{LogValue}
use Rattle.range_log.specs.declared.entries.Entry.{Entry}
use Rattle.range_log.specs.declared.entries.Lease.{Lease}
use Rattle.range_log.specs.declared.log.AppendRefusal.{AppendRefusal}
use Rattle.range_log.specs.declared.log.AppendRefusal.TheVariants.{Stale, NoQuorum}

-- The voters that run, and those that don't.
abbrev pub running_of : NodeSet → NodeSet → NodeSet
running_of voters running = record { 0 = bit_and voters.0 running.0 }

abbrev pub stopped_of : NodeSet → NodeSet → NodeSet
stopped_of voters running = record { 0 = bit_xor voters.0 (running_of voters running).0 }

abbrev pub StoppedAreTheOtherVoters : Type 0
StoppedAreTheOtherVoters =
    (voters running : NodeSet) (n : NodeId) → IsNode n
    → IsMember (stopped_of voters running) n ↔ (IsMember voters n × ¬ IsMember running n)

-- Some nodes are more than half of all.
abbrev pub IsMajority : NodeSet → NodeSet → Type 0
IsMajority some all = nodes_in all < 2 * nodes_in some

-- A majority of the voters runs, as a test.
abbrev pub has_majority : NodeSet → NodeSet → Bool
has_majority voters running = nat_lt (nodes_in voters) (2 * nodes_in (running_of voters running))

-- The sequence of a lease; leases are numbered from 1.
abbrev pub seq_of : Option Lease → ℕ
seq_of None = 0
seq_of (Some lease) = lease.seq

-- What an append answers: the index of the new entry where the appender believes in the last lease and a majority
-- of the voters runs. (Taft et al., SIGMOD 2020, on leases and replication.)
abbrev pub append_answer : LogValue → ℕ → NodeSet → Result ℕ AppendRefusal
append_answer log seq running =
    let last = seq_of (lease_of log.entries) in
    if seq == last
    then (if has_majority log.voters running
    then Ok (length log.entries + 1)
    else Err (NoQuorum (stopped_of log.voters running)))
    else Err (Stale last)
