-- What is lacking, and whether a placement fits.
use Rattle.std.proofs.Common.{◌≡◌, ℕ, List, Option, None, Some, is_some, true, true≢false, refl, sym}
use Rattle.mr_base.specs.declared.nodes.NodeInfo.{NodeInfo}
use Rattle.zone_compile.specs.declared.config.ZoneConfig.{ZoneConfig}
use Rattle.zone_compile.specs.Configuration.{HasForm}
use Rattle.placement.specs.Fitting.{HasNoPlacement, ServeFor}
use Rattle.placement.specs.Laws.{PlacedWhereOneFits}
use Rattle.placement.specs.Placing.{lack_of, placement_of}
use Rattle.placement.proofs.PlaceForms.{no_placement_fits, placement_fits}

-- Where something is lacking no placement fits.
none_fits : (c : ZoneConfig) (nodes : List NodeInfo) → HasForm c → ServeFor c nodes → (lack : Option (ℕ × ℕ)) → lack_of c nodes ≡ lack → is_some lack ≡ true → HasNoPlacement c nodes
none_fits c nodes form serve None e some = absurd (true≢false (sym some))
none_fits c nodes form serve (Some (wanted, found)) e some = no_placement_fits c nodes form serve wanted found e

-- Where no placement fits something is lacking.
some_lacks : (c : ZoneConfig) (nodes : List NodeInfo) → HasForm c → ServeFor c nodes → (lack : Option (ℕ × ℕ)) → lack_of c nodes ≡ lack → HasNoPlacement c nodes → is_some lack ≡ true
some_lacks c nodes form serve None e none = absurd (none (placement_of c nodes) (placement_fits c nodes form serve e))
some_lacks c nodes form serve (Some lack) e none = refl

pub placed_where_one_fits : PlacedWhereOneFits
placed_where_one_fits c nodes form serve = record {
  lacking = (none_fits c nodes form serve (lack_of c nodes) refl, some_lacks c nodes form serve (lack_of c nodes) refl);
  placed = placement_fits c nodes form serve;
}
