use Rattle.std.specs.Prelude.{ℕ, ◌+◌, List, [], ◌∷◌, ◌++◌, codes, decimal, take, Option, Some, None}
use Rattle.std.specs.List.{flat_map}
use Rattle.mr_base.specs.declared.ids.NodeId.{NodeId}
use Rattle.mr_base.specs.declared.nodes.NodeInfo.{NodeInfo}
use Rattle.zone_compile.specs.declared.config.ZoneConfig.{ZoneConfig}
use Rattle.zone_compile.specs.Json.{config_json}
use Rattle.zone_compile.specs.Text.{config_text}
use Rattle.placement.specs.declared.placement_types.Placement.{Placement}
use Rattle.placement.specs.Placing.{placement_of}
use Rattle.zone_report.specs.declared.report.Format.{Format}
use Rattle.zone_report.specs.declared.report.Format.TheVariants.{Text, Json}
use Rattle.zone_report.specs.Ranges.{Range, ranges}
use Rattle.zone_report.specs.Statements.{Zoned}

-- The lines of ranges. (This project's profile.)

abbrev pub node_text : NodeId → List ℕ
node_text node = codes "n" ++ decimal node.0

-- Nodes with a space between, or a dash where there are none.
abbrev pub nodes_text : List NodeId → List ℕ
nodes_text [] = codes "-"
nodes_text (node ∷ more) = node_text node ++ flat_map (λ n. codes " " ++ node_text n) more

-- The first voter holds the lease.
abbrev pub placement_text : Placement → List ℕ
placement_text p = codes "  voters " ++ nodes_text p.voters ++ codes ", others " ++ nodes_text p.others ++ codes ", lease " ++ nodes_text (take 1 p.voters)

abbrev pub partition_text : Option (List ℕ) → List ℕ
partition_text None = []
partition_text (Some region) = codes "@" ++ region

-- What names a range: its number, its table and the region of its partition.
abbrev pub range_name : ℕ → (table : List ℕ) → (partition : Option (List ℕ)) → List ℕ
range_name number table partition = codes "r" ++ decimal number ++ codes " " ++ table ++ partition_text partition ++ codes ": "

-- A range's name and its configuration.
unfoldable pub config_line : ℕ → (table : List ℕ) → (partition : Option (List ℕ)) → ZoneConfig → List ℕ
config_line number table partition config = range_name number table partition ++ config_text config ++ codes "\n"

-- Where a range is placed.
unfoldable pub placement_line : List NodeInfo → ZoneConfig → List ℕ
placement_line nodes config = placement_text (placement_of config nodes) ++ codes "\n"

-- A range as JSON.
unfoldable pub json_line : ℕ → (table : List ℕ) → (partition : Option (List ℕ)) → ZoneConfig → List ℕ
json_line number table partition config = config_json config number table partition ++ codes "\n"

-- As text a range has two lines, as JSON one, without its placement.
abbrev pub range_lines : Format → List NodeInfo → ℕ → Range → List ℕ
range_lines Text nodes number range = config_line number range.table range.partition range.config ++ placement_line nodes range.config
range_lines Json nodes number range = json_line number range.table range.partition range.config

-- The ranges are numbered from this number on.
abbrev pub lines_from : Format → List NodeInfo → ℕ → List Range → List ℕ
lines_from format nodes number [] = []
lines_from format nodes number (range ∷ more) = range_lines format nodes number range ++ lines_from format nodes (number + 1) more

-- The lines of all ranges, which are numbered from 1.
abbrev pub report_text : Format → Zoned → List ℕ
report_text format z = lines_from format z.nodes 1 (ranges z.contents)
