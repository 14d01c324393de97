use Rattle.std.specs.Prelude.{◌≡◌, ℕ, ◌*◌, ◌-◌, ◌^◌, ◌<◌, ◌==◌, Bool, List, All, length, count_by, bit_and, Option, Some, None}
use Rattle.mr_base.specs.declared.ids.NodeId.{NodeId}
use Rattle.mr_base.specs.declared.nodes.NodeSet.{NodeSet}
use Rattle.mr_base.specs.declared.nodes.NodeInfo.{NodeInfo}
use Rattle.mr_base.specs.Nodes.{IsMember}
use Rattle.region_sql.specs.declared.region_statements.Goal.{Goal}
use Rattle.region_sql.specs.declared.region_statements.Goal.TheVariants.{Zone, Region}

-- A node isn't in the set of those that are lost: its bit isn't set.
abbrev pub remains : NodeSet → NodeId → Bool
remains lost n = bit_and lost.0 (2 ^ (n.0 - 1)) == 0

-- More than half of the voters remain.
abbrev pub KeepsMajority : List NodeId → NodeSet → Type 0
KeepsMajority voters lost = length voters < 2 * count_by (remains lost) voters

-- The nodes that are lost all stand in one zone of one region, for zone survival, or all in one region,
-- for region survival. (CockroachDB's documentation of survival goals.)
abbrev pub IsLossOf : Option Goal → List NodeInfo → NodeSet → Type 0
IsLossOf None nodes lost = ⊥
IsLossOf (Some Zone) nodes lost = (region zone : List ℕ) × All (λ s. IsMember lost s.id → (s.region ≡ region) × (s.zone ≡ zone)) nodes
IsLossOf (Some Region) nodes lost = (region : List ℕ) × All (λ s. IsMember lost s.id → s.region ≡ region) nodes

-- These voters keep a majority after any one loss of the kind that the goal names.
abbrev pub SurvivesLosses : Option Goal → List NodeInfo → List NodeId → Type 0
SurvivesLosses goal nodes voters = (lost : NodeSet) → IsLossOf goal nodes lost → KeepsMajority voters lost
