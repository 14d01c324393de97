use Rattle.std.specs.Prelude.{◌≡◌, ℕ, ◌+◌, ◌-◌, ◌≤◌, ◌<◌, ◌⊎◌, max, List, [], ◌∷◌, length, map, All, Contains, IfSome, IsUtf8, Option, Some, None, option_and_then, slice_get, Bool, true, false, ◌&&◌, not, if◌then◌else◌}
use Rattle.region_sql.specs.declared.region_statements.Goal.{Goal}
use Rattle.region_sql.specs.declared.region_statements.Goal.TheVariants.{Zone, Region}
use Rattle.region_sql.specs.declared.region_statements.Locality.{Locality}
use Rattle.region_sql.specs.declared.region_statements.Locality.TheVariants as localities
use Rattle.descriptors.specs.declared.database.Database.{Database}
use Rattle.descriptors.specs.Sound.{AreDistinct}
use Rattle.zone_compile.specs.declared.config.ZoneConfig.{ZoneConfig}

-- The region in which a range of a table with this locality is at home: the named region, the region of
-- its partition, or the primary region. (CockroachDB's documentation of table localities.)
abbrev pub home_of : Database → Option Locality → Option ℕ → Option (List ℕ)
home_of d None partition = None
home_of d (Some (localities.InRegion region)) partition = Some region
home_of d (Some localities.ByRow) partition = option_and_then (slice_get d.regions) partition
home_of d (Some localities.InPrimary) partition = option_and_then (slice_get d.regions) d.primary
home_of d (Some localities.Global) partition = option_and_then (slice_get d.regions) d.primary

abbrev pub is_global : Option Locality → Bool
is_global (Some localities.Global) = true
is_global (Some (localities.InRegion region)) = false
is_global (Some localities.ByRow) = false
is_global (Some localities.InPrimary) = false
is_global None = false

-- A partition is the place of a region for REGIONAL BY ROW, and there is none else.
abbrev pub IsPartitionOf : Database → Option Locality → Option ℕ → Type 0
IsPartitionOf d (Some localities.ByRow) None = ⊥
IsPartitionOf d (Some localities.ByRow) (Some place) = place < length d.regions
IsPartitionOf d (Some localities.Global) partition = partition ≡ None
IsPartitionOf d (Some (localities.InRegion region)) partition = partition ≡ None
IsPartitionOf d (Some localities.InPrimary) partition = partition ≡ None
IsPartitionOf d None partition = partition ≡ None

abbrev pub one_in_each : List (List ℕ) → List (List ℕ × ℕ)
one_in_each regions = map (λ region. (region, 1)) regions

-- A database without regions keeps one replica. (This project's profile.)
abbrev pub without_regions : ZoneConfig
without_regions = record { num_replicas = 1; num_voters = 1; constraints = []; voter_constraints = []; lease = None; global_reads = false; goal = None }

-- Zone survival keeps three voters at home, and region survival five, two of them at home. Each region
-- has a replica, and the lease prefers the home region. (The numbers of voters are those of CockroachDB's
-- documentation of survival goals; those of replicas and the lists are this project's profile.)
abbrev pub spread_over : Goal → (regions : List (List ℕ)) → (home : List ℕ) → (global : Bool) → ZoneConfig
spread_over Zone regions home global = record { num_replicas = 3 + (length regions - 1); num_voters = 3; constraints = one_in_each regions; voter_constraints = (home, 3) ∷ []; lease = Some home; global_reads = global; goal = Some Zone }
spread_over Region regions home global = record { num_replicas = max 5 (2 + (length regions - 1)); num_voters = 5; constraints = one_in_each regions; voter_constraints = (home, 2) ∷ []; lease = Some home; global_reads = global; goal = Some Region }

-- Restricted placement keeps all replicas at home. (CockroachDB's documentation of PLACEMENT RESTRICTED.)
abbrev pub kept_at : (home : List ℕ) → ZoneConfig
kept_at home = record { num_replicas = 3; num_voters = 3; constraints = []; voter_constraints = (home, 3) ∷ []; lease = Some home; global_reads = false; goal = Some Zone }

-- The configuration of a range with this home. Restriction doesn't touch GLOBAL tables.
abbrev pub configuration_at : Database → (global : Bool) → Option (List ℕ) → ZoneConfig
configuration_at d global None = without_regions
configuration_at d global (Some home) = if d.restricted && not global then kept_at home else spread_over d.goal d.regions home global

abbrev pub configuration : Database → Option Locality → Option ℕ → ZoneConfig
configuration d locality partition = configuration_at d (is_global locality) (home_of d locality partition)

-- Regions of a database with this goal, and one of them as home.
pub record IsAtHome (goal : Goal) (regions : List (List ℕ)) (home : List ℕ) : Type 0 where
  pub text : All IsUtf8 regions
  pub few : length regions ≤ 16
  pub distinct : AreDistinct regions
  pub at_home : Contains regions home
  pub enough : goal ≡ Region → 3 ≤ length regions

-- A configuration that some database and table have.
abbrev pub HasForm : ZoneConfig → Type 0
HasForm c = (c ≡ without_regions)
    ⊎ (((home : List ℕ) × IsUtf8 home × (c ≡ kept_at home))
    ⊎ ((goal : Goal) × (regions : List (List ℕ)) × (home : List ℕ) × (global : Bool) × IsAtHome goal regions home × (c ≡ spread_over goal regions home global)))

-- The regions of a configuration are texts.
pub record NamesTexts (c : ZoneConfig) : Type 0 where
  pub constraints : All (λ count. IsUtf8 count.0) c.constraints
  pub voter_constraints : All (λ count. IsUtf8 count.0) c.voter_constraints
  pub lease : IfSome c.lease IsUtf8
