use Rattle.std.specs.Prelude.{◌≡◌, ℕ, List, [], ◌∷◌, fold, Option, Some, None, option_and_then}
use Rattle.std.specs.Option.{option_or}
use Rattle.mr_base.specs.declared.nodes.NodeInfo.{NodeInfo}
use Rattle.mr_base.specs.declared.states.SqlState.TheVariants.{S42601}
use Rattle.region_sql.specs.declared.region_statements.RegionStatement.{RegionStatement}
use Rattle.region_sql.specs.declared.statements.Statement.TheVariants.{Region}
use Rattle.region_sql.specs.Grammar.{IsStatementText}
use Rattle.descriptors.specs.Changes.{after}
use Rattle.descriptors.specs.Contents.{Contents}
use Rattle.descriptors.specs.Refusals.{refusal_of as catalog_refusal}
use Rattle.zone_report.specs.declared.refused.SqlRefusal.{SqlRefusal}
use Rattle.zone_report.specs.declared.refused.SqlRefusal.TheVariants.{State}
use Rattle.zone_report.specs.Nodes.{Serve}
use Rattle.zone_report.specs.Ranges.{ranges}
use Rattle.zone_report.specs.Refusals.{first_lack, of_catalog}

-- Nodes, and a catalog over their regions.
pub record Zoned : Type 0 where
  pub nodes : List NodeInfo
  pub contents : Contents

-- Each range of the catalog can be placed.
pub record IsPlaceable (z : Zoned) : Type 0 where
  pub served : Serve z.nodes z.contents.regions
  pub placed : first_lack z.nodes (ranges z.contents) ≡ None

-- The region statement that a text is, if it is one.
abbrev pub IsRead : List ℕ → Option RegionStatement → Type 0
IsRead text (Some s) = IsStatementText text (Region s)
IsRead text None = (s : RegionStatement) → IsStatementText text (Region s) → ⊥

-- Why a statement is refused, if it is: the first reason that applies. 42601 is that it is none; then come
-- the catalog's; the last is that some range of the catalog that it would make can't be placed.
abbrev pub refusal_of : Zoned → Option RegionStatement → Option SqlRefusal
refusal_of z None = Some (State S42601)
refusal_of z (Some s) = option_or (option_and_then of_catalog (catalog_refusal z.contents s)) (first_lack z.nodes (ranges (after z.contents s)))

-- A refused statement leaves all as it was.
abbrev pub unless_refused : Option SqlRefusal → (old new : Contents) → Contents
unless_refused (Some refusal) old new = old
unless_refused None old new = new

abbrev pub next : Zoned → Option RegionStatement → Zoned
next z None = z
next z (Some s) = record z { contents = unless_refused (refusal_of z (Some s)) z.contents (after z.contents s) }

-- What a statement's text does: the answer, and what is there afterwards.
abbrev pub CarriesOut : List ℕ → (old : Zoned) → (answer : Option SqlRefusal) → (new : Zoned) → Type 0
CarriesOut text old answer new = (read : Option RegionStatement) × IsRead text read × (answer ≡ refusal_of old read) × (new ≡ next old read)

-- What is there after statements, one after the other, and the answers to them.
abbrev pub after_all : Zoned → List (Option RegionStatement) → Zoned
after_all z statements = fold next z statements

abbrev pub answers : Zoned → List (Option RegionStatement) → List (Option SqlRefusal)
answers z [] = []
answers z (s ∷ statements) = refusal_of z s ∷ answers (next z s) statements
