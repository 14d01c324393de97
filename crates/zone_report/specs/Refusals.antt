use Rattle.std.specs.Prelude.{ℕ, List, [], ◌∷◌, ◌++◌, codes, decimal, Option, Some, None}
use Rattle.std.specs.Option.{option_or}
use Rattle.mr_base.specs.declared.nodes.NodeInfo.{NodeInfo}
use Rattle.mr_base.specs.States.{code_of}
use Rattle.descriptors.specs.declared.refusals.CatalogRefusal.{CatalogRefusal}
use Rattle.descriptors.specs.declared.refusals.CatalogRefusal.TheVariants as catalog
use Rattle.placement.specs.Placing.{lack_of}
use Rattle.zone_report.specs.declared.refused.SqlRefusal.{SqlRefusal}
use Rattle.zone_report.specs.declared.refused.SqlRefusal.TheVariants.{State, D, Unplaceable}
use Rattle.zone_report.specs.Ranges.{Range}

-- A refusal of the catalog; want of memory is none.
abbrev pub of_catalog : CatalogRefusal → Option SqlRefusal
of_catalog (catalog.State state) = Some (State state)
of_catalog (catalog.D number) = Some (D number)
of_catalog catalog.Memory = None

-- P1 names the home region, what is wanted there and what is found.
abbrev pub unplaceable : Option (List ℕ) → Option (ℕ × ℕ) → Option SqlRefusal
unplaceable None lack = None
unplaceable (Some home) None = None
unplaceable (Some home) (Some lack) = Some (Unplaceable home lack.0 lack.1)

abbrev pub lack_in : List NodeInfo → Range → Option SqlRefusal
lack_in nodes range = unplaceable range.config.lease (lack_of range.config nodes)

-- What the first of these ranges lacks that can't be placed.
abbrev pub first_lack : List NodeInfo → List Range → Option SqlRefusal
first_lack nodes [] = None
first_lack nodes (range ∷ ranges) = option_or (lack_in nodes range) (first_lack nodes ranges)

-- How a refusal is written. (This project's profile.)
abbrev pub refusal_text : SqlRefusal → List ℕ
refusal_text (State state) = code_of state
refusal_text (D number) = codes "D" ++ decimal number
refusal_text (Unplaceable region wanted found) = codes "P1 " ++ region ++ codes " " ++ decimal wanted ++ codes " " ++ decimal found

abbrev pub refused_line : SqlRefusal → List ℕ
refused_line refusal = codes "sql refused " ++ refusal_text refusal ++ codes "\n"
