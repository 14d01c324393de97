use Rattle.std.specs.Prelude.{◌≡◌, ℕ, List, [], ◌∷◌, ◌++◌, All, Option, Some, None}
use Rattle.mr_base.specs.declared.nodes.NodeInfo.{NodeInfo}
use Rattle.region_sql.specs.declared.region_statements.RegionStatement.{RegionStatement}
use Rattle.region_sql.specs.declared.statements.Statement.TheVariants.{Region}
use Rattle.region_sql.specs.Grammar.{IsStatementText}
use Rattle.descriptors.specs.Changes.{after}
use Rattle.descriptors.specs.Sound.{IsSoundCatalog}
use Rattle.placement.specs.Fitting.{Fits, HasNoPlacement}
use Rattle.placement.specs.Placing.{placement_of}
use Rattle.zone_report.specs.declared.refused.SqlRefusal.{SqlRefusal}
use Rattle.zone_report.specs.declared.refused.SqlRefusal.TheVariants.{Unplaceable}
use Rattle.zone_report.specs.Nodes.{AreNodes, Serve, regions_of}
use Rattle.zone_report.specs.Ranges.{Range, ranges}
use Rattle.zone_report.specs.Statements.{CarriesOut, Zoned}

-- A range stands where the report shows it, and that fits: it survives each loss that its goal names.
abbrev pub StandsAsShown : List NodeInfo → Range → Type 0
StandsAsShown nodes range = Fits range.config nodes (placement_of range.config nodes)

-- Nodes and a catalog over their regions, each range of which stands where it is shown.
pub record IsPlaced (z : Zoned) : Type 0 where
  pub catalog : IsSoundCatalog z.contents
  pub nodes : Serve z.nodes z.contents.regions
  pub placed : All (StandsAsShown z.nodes) (ranges z.contents)

-- The first of these ranges that no placement fits is at home in this region.
pub record IsFirstUnplaced (nodes : List NodeInfo) (all : List Range) (home : List ℕ) : Type 0 where
  pub before : List Range
  pub range : Range
  pub later : List Range
  pub parts : all ≡ before ++ range ∷ later
  pub placed : All (StandsAsShown nodes) before
  pub unplaced : HasNoPlacement range.config nodes
  pub at_home : range.config.lease ≡ Some home

-- A statement is refused for want of nodes only where no placement fits some range of the catalog that it
-- would make; the home of the first such range is named. Each range of the catalog that is there
-- afterwards stands where it is shown.
pub record IsRefusedOrPlaced (text : List ℕ) (old : Zoned) (answer : Option SqlRefusal) (new : Zoned) : Type 0 where
  pub refused : (home : List ℕ) (wanted found : ℕ) → answer ≡ Some (Unplaceable home wanted found)
      → (s : RegionStatement) × IsStatementText text (Region s) × IsFirstUnplaced old.nodes (ranges (after old.contents s)) home
  pub placed : IsPlaced new

-- The nodes of a cluster, without databases.
abbrev pub without_databases : List NodeInfo → Zoned
without_databases nodes = record { nodes = nodes; contents = record { regions = regions_of nodes; databases = []; tables = []; current = None } }

-- Each range stands where it is shown, at first and after each statement.
pub record RangesArePlaced : Type 0 where
  pub first : (nodes : List NodeInfo) → AreNodes nodes → IsPlaced (without_databases nodes)
  pub each : (text : List ℕ) (old new : Zoned) (answer : Option SqlRefusal) → IsPlaced old → CarriesOut text old answer new → IsRefusedOrPlaced text old answer new
