use Rattle.std.specs.Prelude.{◌≡◌, ◌≢◌, ℕ, ◌<◌, ◌≤◌, ◌⊎◌, List, [], ◌++◌, map, length, count_by, All, AllPairs, Contains, IfSome, IsSomeAnd, slice_get, Some, None}
use Rattle.std.specs.Str.{bytes_eq}
use Rattle.mr_base.specs.declared.ids.NodeId.{NodeId}
use Rattle.mr_base.specs.declared.nodes.NodeInfo.{NodeInfo}
use Rattle.region_sql.specs.declared.region_statements.Goal.TheVariants.{Zone, Region}
use Rattle.descriptors.specs.Sound.{AreDistinct}
use Rattle.zone_compile.specs.declared.config.ZoneConfig.{ZoneConfig}
use Rattle.placement.specs.declared.placement_types.Placement.{Placement}
use Rattle.placement.specs.Majority.{SurvivesLosses}

abbrev pub ids_of : List NodeInfo → List NodeId
ids_of nodes = map (λ s. s.id) nodes

-- How many of these nodes stand in a region.
abbrev pub count_in : List ℕ → List NodeInfo → ℕ
count_in region nodes = count_by (λ s. bytes_eq s.region region) nodes

abbrev pub SameZone : NodeInfo → NodeInfo → Type 0
SameZone s t = (s.region ≡ t.region) × (s.zone ≡ t.zone)

abbrev pub constrained_regions : ZoneConfig → List (List ℕ)
constrained_regions c = map (λ k. k.0) c.constraints

-- A region that a configuration names.
abbrev pub Names : ZoneConfig → List ℕ → Type 0
Names c region = (c.lease ≡ Some region) ⊎ Contains (constrained_regions c) region

-- A placement fits a configuration over these nodes. `at` are the nodes of its voters, `beside` those of
-- its other replicas. (CockroachDB's documentation of zone configurations and survival goals, in this
-- project's profile.)
pub record Fits (c : ZoneConfig) (nodes : List NodeInfo) (p : Placement) : Type 0 where
  pub at : List NodeInfo
  pub beside : List NodeInfo
  pub named : p.voters ≡ ids_of at
  pub named_others : p.others ≡ ids_of beside
  pub known : All (Contains nodes) (at ++ beside)
  pub distinct : AreDistinct (ids_of (at ++ beside))
  pub replicas : length (at ++ beside) ≡ c.num_replicas
  pub voters : length at ≡ c.num_voters
  pub within : c.goal ≢ None → All (λ s. Names c s.region) (at ++ beside)
  pub constrained : All (λ k. k.1 ≤ count_in k.0 (at ++ beside)) c.constraints
  pub all_at_home : c.goal ≡ Some Zone → All (λ s. c.lease ≡ Some s.region) at
  pub zones_apart : c.goal ≡ Some Zone → AllPairs (λ s t. ¬ SameZone s t) at
  pub two_at_home : c.goal ≡ Some Region → IfSome c.lease (λ home. 2 ≤ count_in home at)
  pub two_at_most : c.goal ≡ Some Region → (region : List ℕ) → count_in region at ≤ 2
  pub first_at_home : IfSome c.lease (λ home. IsSomeAnd (slice_get at 0) (λ s. s.region ≡ home))
  pub survives : SurvivesLosses c.goal nodes p.voters

-- No placement fits.
abbrev pub HasNoPlacement : ZoneConfig → List NodeInfo → Type 0
HasNoPlacement c nodes = (p : Placement) → ¬ Fits c nodes p

-- Nodes among which a configuration is placed: some, in the order of their numbers, and one at least in
-- each region that it names.
pub record ServeFor (c : ZoneConfig) (nodes : List NodeInfo) : Type 0 where
  pub some : nodes ≢ []
  pub rising : AllPairs (λ s t. s.id.0 < t.id.0) nodes
  pub each : (region : List ℕ) → Names c region → Contains (map (λ s. s.region) nodes) region
