-- The regions that configurations name.
use Rattle.std.proofs.Common.{◌≡◌, ℕ, ◌&&◌, Bool, true, false, cond, not, List, [], ◌∷◌, Option, None, Some, All, Contains, IsTrue, length, map, get_or, slice_get, option_and_then, refl, ap, sym, ◌∙◌, subst, arith, inl, inr}
use Rattle.std.proofs.lemmas.List.Elements.{All-contains}
use Rattle.std.proofs.lemmas.Option.{none-some, same_Some, slice_get_within, get_or_from_slice_get}
use Rattle.mr_base.specs.declared.nodes.NodeInfo.{NodeInfo}
use Rattle.region_sql.specs.declared.region_statements.Goal.{Goal}
use Rattle.region_sql.specs.declared.region_statements.Goal.TheVariants as goals
use Rattle.region_sql.specs.declared.region_statements.Locality.{Locality}
use Rattle.region_sql.specs.declared.region_statements.Locality.TheVariants as localities
use Rattle.descriptors.specs.declared.database.Database.{Database}
use Rattle.descriptors.specs.declared.table.Table.{Table}
use Rattle.descriptors.specs.Contents.{Contents, database_named}
use Rattle.descriptors.specs.Lists.{has_name}
use Rattle.descriptors.specs.Sound.{FitsRegions, IsSoundAmong, IsSoundCatalog, IsSoundDatabase, IsSoundIn}
use Rattle.descriptors.proofs.Found.{found, named}
use Rattle.descriptors.specs.Contents.{is_database}
use Rattle.zone_compile.specs.declared.config.ZoneConfig.{ZoneConfig}
use Rattle.zone_compile.specs.Configuration.{configuration_at, home_of, is_global, kept_at, one_in_each, spread_over, without_regions}
use Rattle.placement.specs.Fitting.{Names, ServeFor}
use Rattle.zone_report.specs.Nodes.{Serve}
use Rattle.zone_report.specs.Ranges.{place_of, range_at}

none_in : (regions : List (List ℕ)) (region : List ℕ) → length regions ≡ 0 → Contains regions region → ⊥
none_in regions region none c = omega (arith, c.1)

-- The regions of counts of one each.
ones : (regions : List (List ℕ)) → map (λ (k : List ℕ × ℕ). k.0) (one_in_each regions) ≡ regions
ones [] = refl
ones (r ∷ regions) = ap (λ l. r ∷ l) (ones regions)

abbrev NamesWithin : Database → ZoneConfig → Type 0
NamesWithin d c = (region : List ℕ) → Names c region → Contains d.regions region

without_names : (d : Database) → NamesWithin d without_regions
without_names d region (inl e) = absurd (none-some region e)
without_names d region (inr c) = absurd (none_in [] region refl c)

kept_names : (d : Database) (home : List ℕ) → Contains d.regions home → NamesWithin d (kept_at home)
kept_names d home h region (inl e) = subst (Contains d.regions) (same_Some home region e) h
kept_names d home h region (inr c) = absurd (none_in [] region refl c)

spread_names : (d : Database) (goal : Goal) (home : List ℕ) (global : Bool) → Contains d.regions home → NamesWithin d (spread_over goal d.regions home global)
spread_names d goals.Zone home global h region (inl e) = subst (Contains d.regions) (same_Some home region e) h
spread_names d goals.Zone home global h region (inr c) = subst (λ l. Contains l region) (ones d.regions) c
spread_names d goals.Region home global h region (inl e) = subst (Contains d.regions) (same_Some home region e) h
spread_names d goals.Region home global h region (inr c) = subst (λ l. Contains l region) (ones d.regions) c

names_at : (d : Database) (global : Bool) (o : Option (List ℕ)) → ((home : List ℕ) → o ≡ Some home → Contains d.regions home) → NamesWithin d (configuration_at d global o)
names_at d global None within = without_names d
names_at d global (Some home) within =
    elim (d.restricted && not global) as (λ b. NamesWithin d (cond b (kept_at home) (spread_over d.goal d.regions home global)))
    [ true ↦ kept_names d home (within home refl) | false ↦ spread_names d d.goal home global (within home refl) ]

at_place : (regions : List (List ℕ)) (o : Option ℕ) (home : List ℕ) → option_and_then (slice_get regions) o ≡ Some home → Contains regions home
at_place regions None home e = absurd (none-some home e)
at_place regions (Some k) home e = (k, slice_get_within regions k home e, get_or_from_slice_get regions k home home e)

home_within : (d : Database) (l : Option Locality) (k : ℕ) → FitsRegions d.regions l → (home : List ℕ) → home_of d l (place_of l k) ≡ Some home → Contains d.regions home
home_within d None k fit home e = absurd (none-some home e)
home_within d (Some (localities.InRegion region)) k fit home e =
    (fit.0, fit.2, subst (λ x. get_or d.regions fit.0 x ≡ x) (fit.4 ∙ same_Some region home e) fit.3)
home_within d (Some localities.ByRow) k fit home e = at_place d.regions (Some k) home e
home_within d (Some localities.InPrimary) k fit home e = at_place d.regions d.primary home e
home_within d (Some localities.Global) k fit home e = at_place d.regions d.primary home e

-- The nodes serve for the configuration of a range.
pub serves : (nodes : List NodeInfo) (d : Database) (t : Table) (k : ℕ) → IsSoundIn d t → Serve nodes d.regions → ServeFor (range_at d t k).config nodes
serves nodes d t k sound serve = record {
  some = serve.some;
  rising = serve.rising;
  each = λ region names. serve.each region (names_at d (is_global t.locality) (home_of d t.locality (place_of t.locality k)) (home_within d t.locality k sound.locality) region names);
}

-- ---- a table's database

pub record HasHome (nodes : List NodeInfo) (d : Database) (t : Table) : Type 0 where
  pub database : IsSoundDatabase d
  pub table : IsSoundIn d t
  pub nodes_serve : Serve nodes d.regions

pub has_home : (nodes : List NodeInfo) (c : Contents) (t : Table) (d : Database) → IsSoundCatalog c → Serve nodes c.regions → Contains c.tables t → database_named t.database c.databases ≡ Some d → HasHome nodes d t
has_home nodes c t d sound serve there at =
    let among : IsSoundAmong c.databases t = All-contains (IsSoundAmong c.databases) c.tables t sound.tables there in
    let same : among.0 ≡ d = same_Some among.0 d (sym among.1 ∙ at) in
    let stands : Contains c.databases d = (found (is_database t.database) c.databases d at).0 in
    let inside : All (λ r. IsTrue (has_name c.regions r)) d.regions = All-contains (λ d. All (λ r. IsTrue (has_name c.regions r)) d.regions) c.databases d sound.in_cluster stands in
    record {
      database = All-contains IsSoundDatabase c.databases d sound.databases stands;
      table = subst (λ (x : Database). IsSoundIn x t) same among.2;
      nodes_serve = record {
        some = serve.some;
        rising = serve.rising;
        each = λ region h. serve.each region (named c.regions region (All-contains (λ r. IsTrue (has_name c.regions r)) d.regions region inside h));
      };
    }
