use Rattle.std.specs.Prelude.{◌≡◌, ◌↔◌, List, IsSome, None}
use Rattle.mr_base.specs.declared.nodes.NodeInfo.{NodeInfo}
use Rattle.zone_compile.specs.declared.config.ZoneConfig.{ZoneConfig}
use Rattle.zone_compile.specs.Configuration.{HasForm}
use Rattle.placement.specs.Fitting.{Fits, HasNoPlacement, ServeFor}
use Rattle.placement.specs.Placing.{lack_of, placement_of}

-- What is lacking for a configuration tells whether some placement fits, and the placement that is taken
-- then is one.
pub record IsPlacedWhereOneFits (c : ZoneConfig) (nodes : List NodeInfo) : Type 0 where
  pub lacking : IsSome (lack_of c nodes) ↔ HasNoPlacement c nodes
  pub placed : lack_of c nodes ≡ None → Fits c nodes (placement_of c nodes)

-- A configuration that has a form is placed, among nodes that serve for it, wherever some placement fits.
abbrev pub PlacedWhereOneFits : Type 0
PlacedWhereOneFits = (c : ZoneConfig) (nodes : List NodeInfo) → HasForm c → ServeFor c nodes → IsPlacedWhereOneFits c nodes
