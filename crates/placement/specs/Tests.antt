use Rattle.std.specs.Prelude.{ℕ, ◌==◌, Bool, true, false, not, ◌&&◌, ◌||◌, nat_le, nat_lt, List, [], ◌∷◌, ◌++◌, find, length, slice_get, Option, Some, None, is_none}
use Rattle.std.specs.List.{filter_map, list_all, list_any}
use Rattle.std.specs.Option.{option_map_or}
use Rattle.std.specs.Str.{bytes_eq}
use Rattle.mr_base.specs.declared.ids.NodeId.{NodeId}
use Rattle.mr_base.specs.declared.nodes.NodeInfo.{NodeInfo}
use Rattle.region_sql.specs.declared.region_statements.Goal.{Goal}
use Rattle.region_sql.specs.declared.region_statements.Goal.TheVariants.{Zone, Region}
use Rattle.zone_compile.specs.declared.config.ZoneConfig.{ZoneConfig}
use Rattle.placement.specs.declared.placement_types.Placement.{Placement}
use Rattle.placement.specs.Fitting.{count_in}

-- The conditions of a placement as tests, which a slow program makes one after the other.

abbrev pub has_region : List NodeInfo → List ℕ → Bool
has_region nodes region = list_any (λ s. bytes_eq s.region region) nodes

-- Whether the numbers of nodes rise.
abbrev pub rise : List NodeInfo → Bool
rise [] = true
rise (s ∷ nodes) = list_all (λ t. nat_lt s.id.0 t.id.0) nodes && rise nodes

abbrev pub has_home : Option (List ℕ) → List NodeInfo → Bool
has_home None nodes = true
has_home (Some home) nodes = has_region nodes home

abbrev pub serve : ZoneConfig → List NodeInfo → Bool
serve c nodes = not (length nodes == 0) && rise nodes && has_home c.lease nodes && list_all (λ k. has_region nodes k.0) c.constraints

-- The nodes of these numbers, without those that aren't there.
abbrev pub found : List NodeInfo → List NodeId → List NodeInfo
found nodes ids = filter_map (λ id. find (λ s. s.id.0 == id.0) nodes) ids

abbrev pub ids_differ : List NodeInfo → Bool
ids_differ [] = true
ids_differ (s ∷ nodes) = list_all (λ t. not (s.id.0 == t.id.0)) nodes && ids_differ nodes

abbrev pub is_at : Option (List ℕ) → NodeInfo → Bool
is_at None s = false
is_at (Some home) s = bytes_eq s.region home

abbrev pub is_named : ZoneConfig → NodeInfo → Bool
is_named c s = is_at c.lease s || list_any (λ k. bytes_eq k.0 s.region) c.constraints

abbrev pub same_zone : NodeInfo → NodeInfo → Bool
same_zone s t = bytes_eq s.region t.region && bytes_eq s.zone t.zone

abbrev pub zones_differ : List NodeInfo → Bool
zones_differ [] = true
zones_differ (s ∷ nodes) = list_all (λ t. not (same_zone s t)) nodes && zones_differ nodes

abbrev pub has_two_at : Option (List ℕ) → List NodeInfo → Bool
has_two_at None at = true
has_two_at (Some home) at = nat_le 2 (count_in home at)

abbrev pub suits : Option Goal → Option (List ℕ) → List NodeInfo → Bool
suits None lease at = true
suits (Some Zone) lease at = list_all (is_at lease) at && zones_differ at
suits (Some Region) lease at = has_two_at lease at && list_all (λ s. nat_le (count_in s.region at) 2) at

abbrev pub first_is_at : Option (List ℕ) → List NodeInfo → Bool
first_is_at None at = true
first_is_at (Some home) at = option_map_or (λ s. bytes_eq s.region home) (slice_get at 0) false

-- Voters at these nodes, and replicas at all of these.
abbrev pub fit : ZoneConfig → (at all : List NodeInfo) → Bool
fit c at all =
    ids_differ all
    && (length all == c.num_replicas)
    && (length at == c.num_voters)
    && (is_none c.goal || list_all (is_named c) all)
    && list_all (λ k. nat_le k.1 (count_in k.0 all)) c.constraints
    && suits c.goal c.lease at
    && first_is_at c.lease at

abbrev pub fits : ZoneConfig → List NodeInfo → Placement → Bool
fits c nodes p =
    (length (found nodes p.voters) == length p.voters)
    && (length (found nodes p.others) == length p.others)
    && fit c (found nodes p.voters) (found nodes p.voters ++ found nodes p.others)
