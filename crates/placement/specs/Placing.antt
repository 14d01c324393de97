use Rattle.std.specs.Prelude.{◌≡◌, ℕ, ◌-◌, List, [], ◌∷◌, ◌++◌, filter, length, take, drop, slice_get, Option, Some, None, Bool, ◌&&◌, not, nat_lt, if◌then◌else◌, ⊤, Result, MatchResult}
use Rattle.std.specs.List.{filter_map, list_any}
use Rattle.std.specs.Str.{bytes_eq}
use Rattle.mr_base.specs.declared.nodes.NodeInfo.{NodeInfo}
use Rattle.region_sql.specs.declared.region_statements.Goal.{Goal}
use Rattle.region_sql.specs.declared.region_statements.Goal.TheVariants.{Zone, Region}
use Rattle.zone_compile.specs.declared.config.ZoneConfig.{ZoneConfig}
use Rattle.placement.specs.declared.placement_types.Placement.{Placement}
use Rattle.placement.specs.declared.placement_types.PlaceRefusal.{PlaceRefusal}
use Rattle.placement.specs.declared.placement_types.PlaceRefusal.TheVariants.{Unplaceable, Memory}
use Rattle.placement.specs.Fitting.{Fits, ids_of, constrained_regions}

-- Which nodes a placement takes, where nodes stand in the order of their numbers. (This project's
-- profile.)

abbrev pub in_region : List ℕ → List NodeInfo → List NodeInfo
in_region region nodes = filter (λ s. bytes_eq s.region region) nodes

-- The first node of each zone.
abbrev pub one_per_zone : List NodeInfo → List NodeInfo
one_per_zone [] = []
one_per_zone (s ∷ nodes) = s ∷ filter (λ t. not (bytes_eq s.zone t.zone)) (one_per_zone nodes)

-- Whether one of these nodes stands in a zone of the region.
abbrev pub has_zone : (region zone : List ℕ) → List NodeInfo → Bool
has_zone region zone nodes = list_any (λ t. bytes_eq t.region region && bytes_eq t.zone zone) nodes

-- A node of the region whose zone none of the earlier nodes of the region has.
abbrev pub is_first : List ℕ → List NodeInfo → NodeInfo → Bool
is_first region earlier s = bytes_eq s.region region && not (has_zone region s.zone earlier)

abbrev pub other_regions : List ℕ → List (List ℕ) → List (List ℕ)
other_regions home regions = filter (λ r. not (bytes_eq r home)) regions

-- Of each of the regions the node at this place, where the region has as many: the lowest at 0, the
-- second lowest at 1.
abbrev pub each_at : ℕ → List NodeInfo → List (List ℕ) → List NodeInfo
each_at place nodes regions = filter_map (λ r. slice_get (in_region r nodes) place) regions

-- The node at this place in a region other than home.
abbrev pub other_at : ℕ → List NodeInfo → (home region : List ℕ) → List NodeInfo
other_at place nodes home region = if bytes_eq region home then [] else each_at place nodes (region ∷ [])

-- Zone survival: one voter in each of three zones at home, and the lowest node of each other region.
abbrev pub zone_voters : (home : List ℕ) → List NodeInfo → List NodeInfo
zone_voters home nodes = take 3 (one_per_zone (in_region home nodes))

-- Region survival: the two lowest nodes at home, the lowest of three other regions, and where there are
-- fewer regions the second lowest of the first that has two.
abbrev pub region_voters : (home : List ℕ) → (regions : List (List ℕ)) → List NodeInfo → List NodeInfo
region_voters home regions nodes = take 2 (in_region home nodes) ++ take 3 (each_at 0 nodes regions) ++ take (3 - length (each_at 0 nodes regions)) (each_at 1 nodes regions)

abbrev pub placed_at : Option (List ℕ) → Option Goal → (regions : List (List ℕ)) → List NodeInfo → Placement
placed_at (Some home) (Some Zone) regions nodes = record { voters = ids_of (zone_voters home nodes); others = ids_of (each_at 0 nodes (other_regions home regions)) }
placed_at (Some home) (Some Region) regions nodes = record { voters = ids_of (region_voters home (other_regions home regions) nodes); others = ids_of (drop 3 (each_at 0 nodes (other_regions home regions))) }
placed_at (Some home) None regions nodes = record { voters = ids_of (take 1 nodes); others = [] }
placed_at None goal regions nodes = record { voters = ids_of (take 1 nodes); others = [] }

abbrev pub placement_of : ZoneConfig → List NodeInfo → Placement
placement_of c nodes = placed_at c.lease c.goal (constrained_regions c) nodes

-- What is lacking at home: how many are wanted, and how many are found. Zone survival wants three zones;
-- region survival wants two nodes, then five voters.
abbrev pub zones_lack : (home : List ℕ) → List NodeInfo → Option (ℕ × ℕ)
zones_lack home nodes =
    let zones = length (one_per_zone (in_region home nodes)) in
    if nat_lt zones 3 then Some (3, zones) else None

abbrev pub regions_lack : (home : List ℕ) → (regions : List (List ℕ)) → List NodeInfo → Option (ℕ × ℕ)
regions_lack home regions nodes =
    let at_home = length (in_region home nodes) in
    if nat_lt at_home 2 then Some (2, at_home)
    else (if nat_lt (length (region_voters home (other_regions home regions) nodes)) 5 then Some (5, 4) else None)

abbrev pub lack_at : Option (List ℕ) → Option Goal → (regions : List (List ℕ)) → List NodeInfo → Option (ℕ × ℕ)
lack_at (Some home) (Some Zone) regions nodes = zones_lack home nodes
lack_at (Some home) (Some Region) regions nodes = regions_lack home regions nodes
lack_at (Some home) None regions nodes = None
lack_at None goal regions nodes = None

abbrev pub lack_of : ZoneConfig → List NodeInfo → Option (ℕ × ℕ)
lack_of c nodes = lack_at c.lease c.goal (constrained_regions c) nodes

-- A refusal for want of nodes says what is lacking in the home region.
abbrev pub IsRefusal : Option (List ℕ) → Option (ℕ × ℕ) → PlaceRefusal → Type 0
IsRefusal lease lack Memory = ⊤
IsRefusal lease lack (Unplaceable region wanted found) = (lease ≡ Some region) × (lack ≡ Some (wanted, found))

-- What a call answers that places nodes so, or lacks this.
abbrev pub Answers : Option (List ℕ) → Option (ℕ × ℕ) → Placement → Result Placement PlaceRefusal → Type 0
Answers lease lack p result = MatchResult result (λ q. (lack ≡ None) × (q ≡ p)) (IsRefusal lease lack)

-- A refusal for want of nodes means that no placement fits.
abbrev pub NoneFits : ZoneConfig → List NodeInfo → PlaceRefusal → Type 0
NoneFits c nodes Memory = ⊤
NoneFits c nodes (Unplaceable region wanted found) = (p : Placement) → Fits c nodes p → ⊥
