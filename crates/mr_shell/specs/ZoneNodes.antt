use Rattle.std.specs.Prelude.{◌≡◌, ◌≢◌, ◌≤◌, true, false, List, [], ◌∷◌, ◌++◌, length, All, IsUtf8}
use Rattle.mr_base.specs.declared.nodes.NodeInfo.{NodeInfo}
use Rattle.scenario.specs.declared.lines.Line.{Line}
use Rattle.scenario.specs.declared.lines.Line.TheVariants as lines
use Rattle.scenario.specs.declared.seen.Seen.{Seen}
use Rattle.zone_report.specs.Nodes.{AreNumbered, regions_of}

-- These are the nodes of the lines that were read, of a scenario that is read for its ranges alone: at most 64,
-- numbered from 1, in at most 16 regions, whose names are texts. What the reader keeps of the lines agrees: how
-- many nodes there are, their regions, and that `begin` wasn't read. (This project's profile.)
pub record AreSeenNodes (seen : Seen) (nodes : List NodeInfo) : Type 0 where
  pub zones_only : seen.zones_only ≡ true
  pub unbegun : seen.begun ≡ false
  pub count : length seen.nodes ≡ length nodes
  pub regions : seen.regions ≡ regions_of nodes
  pub many : length nodes ≤ 64
  pub numbered : AreNumbered nodes
  pub few : length (regions_of nodes) ≤ 16
  pub names : All (λ s. IsUtf8 s.region) nodes

-- A line that was read may be run, where these are the nodes of the lines before it: its node joins them, its
-- statement finds one at least, and no line comes from `begin` on.
abbrev pub MayRunZones : Seen → List NodeInfo → Line → Type 0
MayRunZones seen nodes (lines.Node info clock) = AreSeenNodes seen (nodes ++ info ∷ [])
MayRunZones seen nodes (lines.Sql text) = AreSeenNodes seen nodes × (nodes ≢ [])
MayRunZones seen nodes (lines.Event e) = ⊥
MayRunZones seen nodes _ = AreSeenNodes seen nodes
