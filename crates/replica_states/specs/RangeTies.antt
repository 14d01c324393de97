use Rattle.std.specs.Prelude.{All, List, [], length, map, take, ℕ, ◌≡◌, ◌≢◌, ◌≤◌}
use Rattle.mr_base.specs.declared.ids.NodeId.{NodeId}
use Rattle.mr_base.specs.declared.ids.RangeId.{RangeId}
use Rattle.range_log.specs.declared.entries.Entry.{Entry}
use Rattle.range_replicas.specs.RangeValue.{RangeValue}
use Rattle.range_replicas.specs.Sound.{IsSound}
use Rattle.range_server.specs.declared.standing.Standing.{Standing}
use Rattle.run_words.specs.History.{History}
use Rattle.run_words.specs.Logs.{applied, log_of}
use Rattle.run_words.specs.Nodes.{boot}
use Rattle.run_words.specs.Setup.{RangeSetup, Setup}

-- How the ranges with their replicas stand to what happened. Each tie takes the words that it speaks of as functions, so
-- that an item at which they don't look keeps it.

-- A replica has applied as many entries as the words say, and its server is at its node's boot.
pub record IsReplicaTied (applied : NodeId → RangeId → ℕ) (boot : NodeId → ℕ) (j : RangeId) (s : Standing) : Type 0 where
  pub applied_is : s.replica.applied ≡ applied s.node j
  pub boot_is : s.boot ≡ boot s.node

-- A range has its log, and its replicas stand beside that.
pub record IsRangeTied (log : RangeId → List Entry) (applied : NodeId → RangeId → ℕ) (boot : NodeId → ℕ) (r : RangeValue) : Type 0 where
  pub sound : IsSound r
  pub log_is : r.log.entries ≡ log r.number
  pub servers_are : All (IsReplicaTied applied boot r.number) r.servers

-- A range as the stage plans it.
abbrev pub planned : RangeValue → RangeSetup
planned r = record { number = r.number; voters = r.voters; others = r.others; is_global = r.is_global }

-- The ranges made so far are the first of those that are planned, and only they have entries.
pub record AreRangesTied (log : RangeId → List Entry) (applied : NodeId → RangeId → ℕ) (boot : NodeId → ℕ) (plans : List RangeSetup) (ranges : List RangeValue) : Type 0 where
  pub each : All (IsRangeTied log applied boot) ranges
  pub plans_are : map planned ranges ≡ take (length ranges) plans
  pub made : (j : RangeId) → log j ≢ [] → (1 ≤ j.0) × (j.0 ≤ length ranges)

abbrev pub RangesTied : Setup → History → List RangeValue → Type 0
RangesTied setup h ranges = AreRangesTied (log_of setup h) (applied setup h) (boot setup h) setup.ranges ranges
