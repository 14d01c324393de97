-- The ranges of a sound catalog.
use Rattle.std.proofs.Common.{◌≡◌, ℕ, ◌<◌, List, [], ◌∷◌, Option, None, Some, All, Contains, get_or, refl, sym, subst, arith}
use Rattle.std.specs.List.{flat_map}
use Rattle.std.specs.Option.{option_map_or}
use Rattle.std.proofs.lemmas.List.{get_or_default}
use Rattle.std.proofs.lemmas.List.Elements.{All-append, All-head, All-nil, All-tail}
use Rattle.mr_base.specs.declared.nodes.NodeInfo.{NodeInfo}
use Rattle.region_sql.specs.declared.region_statements.Locality.{Locality}
use Rattle.region_sql.specs.declared.region_statements.Locality.TheVariants as localities
use Rattle.descriptors.specs.declared.database.Database.{Database}
use Rattle.descriptors.specs.declared.table.Table.{Table}
use Rattle.descriptors.specs.Contents.{Contents, database_named}
use Rattle.descriptors.specs.Sound.{IsSoundCatalog}
use Rattle.zone_compile.specs.Configuration.{HasForm, IsPartitionOf}
use Rattle.zone_compile.proofs.Forms.{has_form}
use Rattle.placement.specs.Fitting.{ServeFor}
use Rattle.zone_report.specs.Nodes.{Serve}
use Rattle.zone_report.specs.Ranges.{Range, partitions, place_of, range_at, ranges, ranges_in, ranges_of_table}
use Rattle.zone_report.proofs.Homes.{HasHome, has_home, serves}
use Rattle.zone_report.proofs.Placeable.{here, how_many}

-- A range whose configuration has a form, and for which the nodes serve.
pub record IsServed (nodes : List NodeInfo) (range : Range) : Type 0 where
  pub form : HasForm range.config
  pub serve : ServeFor range.config nodes

-- Each place has its partition.
is_partition : (d : Database) (l : Option Locality) (k : ℕ) → k < partitions d l → IsPartitionOf d l (place_of l k)
is_partition d None k lt = refl
is_partition d (Some (localities.InRegion region)) k lt = refl
is_partition d (Some localities.ByRow) k lt = lt
is_partition d (Some localities.InPrimary) k lt = refl
is_partition d (Some localities.Global) k lt = refl

range_served : (nodes : List NodeInfo) (d : Database) (t : Table) (k : ℕ) → HasHome nodes d t → k < partitions d t.locality → IsServed nodes (range_at d t k)
range_served nodes d t k home lt = record {
  form = has_form d t.locality (place_of t.locality k) home.database home.table.locality (is_partition d t.locality k lt);
  serve = serves nodes d t k home.table home.nodes_serve;
}

in_database_served : (nodes : List NodeInfo) (d : Database) (t : Table) → HasHome nodes d t → All (IsServed nodes) (ranges_in d t)
in_database_served nodes d t home k other lt =
    let within : k < partitions d t.locality = omega (arith, lt, how_many d t) in
    subst (IsServed nodes) (sym (here d t k other within)) (range_served nodes d t k home within)

table_served : (nodes : List NodeInfo) (c : Contents) (t : Table) → IsSoundCatalog c → Serve nodes c.regions → Contains c.tables t → All (IsServed nodes) (ranges_of_table c.databases t)
table_served nodes c t sound serve there = by (database_named t.database c.databases) refl
  where
    by : (o : Option Database) → database_named t.database c.databases ≡ o → All (IsServed nodes) (option_map_or (λ d. ranges_in d t) o [])
    by None e = All-nil (IsServed nodes)
    by (Some d) e = in_database_served nodes d t (has_home nodes c t d sound serve there e)

all_flat_map : {A B : Type 0} (P : B → Type 0) (f : A → List B) (xs : List A) → All (λ x. All P (f x)) xs → All P (flat_map f xs)
all_flat_map P f [] h = All-nil P
all_flat_map P f (x ∷ xs) h = All-append P (f x) (flat_map f xs) (All-head (λ y. All P (f y)) x xs h) (all_flat_map P f xs (All-tail (λ y. All P (f y)) x xs h))

pub ranges_served : (nodes : List NodeInfo) (c : Contents) → IsSoundCatalog c → Serve nodes c.regions → All (IsServed nodes) (ranges c)
ranges_served nodes c sound serve =
    all_flat_map (IsServed nodes) (ranges_of_table c.databases) c.tables
    (λ k other lt. table_served nodes c (get_or c.tables k other) sound serve (k, lt, get_or_default c.tables k (get_or c.tables k other) other lt))
