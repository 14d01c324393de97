-- Where the ranges stand that the lines of a scenario tell.
use Rattle.std.proofs.Common.{◌≡◌, ◌≢◌, ℕ, true, List, [], ◌∷◌, ◌++◌, Option, Some, None, All, IsUtf8, length, refl, ap, sym, ◌∙◌, subst, arith}
use Rattle.std.proofs.lemmas.List.Elements.{All-nil}
use Rattle.std.proofs.lemmas.List.{length-append}
use Rattle.mr_base.specs.declared.nodes.NodeInfo.{NodeInfo}
use Rattle.region_sql.specs.declared.region_statements.RegionStatement.{RegionStatement}
use Rattle.scenario.specs.Lines.{nothing_seen}
use Rattle.scenario.specs.declared.lines.Line.{Line}
use Rattle.scenario.specs.declared.lines.Line.TheVariants as lines
use Rattle.zone_report.specs.Laws.{IsPlaced, RangesArePlaced, StandsAsShown, without_databases}
use Rattle.zone_report.specs.Ranges.{ranges}
use Rattle.zone_report.specs.Statements.{CarriesOut, Zoned, next}
use Rattle.zone_report.specs.declared.refused.SqlRefusal.{SqlRefusal}
use Rattle.mr_shell.specs.ZoneNodes.{AreSeenNodes, MayRunZones}
use Rattle.mr_shell.specs.Course.{Tells}
use Rattle.mr_shell.specs.ZoneStory.{Does, RangesStand, ZoneStory}
use Rattle.mr_shell.specs.ZonesEnded.{zones_course}
use Rattle.mr_shell.proofs.ZoneNodes.{are_nodes, may_run}

-- what the lines so far tell: the nodes are those that were seen, and where there is one each range stands
record IsTold (story : ZoneStory) : Type 0 where
  nodes : AreSeenNodes story.seen story.zoned.nodes
  placed : story.zoned.nodes ≢ [] → IsPlaced story.zoned
  empty : story.zoned.nodes ≡ [] → story.zoned ≡ without_databases []

some_more : (nodes : List NodeInfo) (info : NodeInfo) → nodes ++ info ∷ [] ≢ []
some_more nodes info e = absurd (omega (arith, ap (λ (ns : List NodeInfo). length ns) e, length-append nodes (info ∷ [])))

-- a node joins the others
with_node : RangesArePlaced → (story : ZoneStory) (nodes : List NodeInfo) (info : NodeInfo) → AreSeenNodes story.seen (nodes ++ info ∷ []) → story.zoned ≡ without_databases (nodes ++ info ∷ []) → IsTold story
with_node law story nodes info seen is =
    let same : story.zoned.nodes ≡ nodes ++ info ∷ [] = ap (λ (z : Zoned). z.nodes) is in
    record {
      nodes = subst (λ (ns : List NodeInfo). AreSeenNodes story.seen ns) (sym same) seen;
      placed = λ some. subst IsPlaced (sym is) (law.first (nodes ++ info ∷ []) (are_nodes story.seen (nodes ++ info ∷ []) seen (some_more nodes info)));
      empty = λ none. absurd (some_more nodes info (sym same ∙ none));
    }

-- a line that leaves the ranges as they were
as_before : (earlier story : ZoneStory) → IsTold earlier → AreSeenNodes story.seen earlier.zoned.nodes → story.zoned ≡ earlier.zoned → IsTold story
as_before earlier story told seen is =
    let same : story.zoned.nodes ≡ earlier.zoned.nodes = ap (λ (z : Zoned). z.nodes) is in
    record {
      nodes = subst (λ (ns : List NodeInfo). AreSeenNodes story.seen ns) (sym same) seen;
      placed = λ some. subst IsPlaced (sym is) (told.placed (λ none. some (same ∙ none)));
      empty = λ none. is ∙ told.empty (sym same ∙ none);
    }

-- a statement leaves the nodes as they are
same_nodes : (old new : Zoned) (read : Option RegionStatement) → new ≡ next old read → new.nodes ≡ old.nodes
same_nodes old new None e = ap (λ (z : Zoned). z.nodes) e
same_nodes old new (Some s) e = ap (λ (z : Zoned). z.nodes) e

with_statement : RangesArePlaced → (earlier story : ZoneStory) (text : List ℕ) (answer : Option SqlRefusal) → IsTold earlier → AreSeenNodes story.seen earlier.zoned.nodes → earlier.zoned.nodes ≢ [] → CarriesOut text earlier.zoned answer story.zoned → IsTold story
with_statement law earlier story text answer told seen some carries =
    let same : story.zoned.nodes ≡ earlier.zoned.nodes = same_nodes earlier.zoned story.zoned carries.0 carries.3 in
    record {
      nodes = subst (λ (ns : List NodeInfo). AreSeenNodes story.seen ns) (sym same) seen;
      placed = λ _. (law.each text earlier.zoned story.zoned answer (told.placed some) carries).placed;
      empty = λ none. absurd (some (sym same ∙ none));
    }

with_line : RangesArePlaced → (earlier story : ZoneStory) (line : Line) → IsTold earlier → MayRunZones story.seen earlier.zoned.nodes line → Does earlier story line → IsTold story
with_line law earlier story lines.Skipped told may does = as_before earlier story told may does.0
with_line law earlier story (lines.Cluster settings) told may does = as_before earlier story told may does.0
with_line law earlier story (lines.Node info clock) told may does = with_node law story earlier.zoned.nodes info may does.0
with_line law earlier story (lines.Sql text) told may does = with_statement law earlier story text does.0 told may.0 may.1 does.1
with_line law earlier story (lines.Event e) told may does = absurd may

seen_at_first : AreSeenNodes (nothing_seen true) []
seen_at_first =
    record {
      zones_only = refl;
      unbegun = refl;
      count = refl;
      regions = refl;
      many = omega arith;
      numbered = λ k other lt. absurd (omega arith);
      few = omega arith;
      names = All-nil (λ s. IsUtf8 s.region);
    }

told_by : RangesArePlaced → (lines : List (List ℕ)) (story : ZoneStory) → Tells zones_course lines story → IsTold story
told_by law [] story e = subst IsTold (sym e) (record { nodes = seen_at_first; placed = λ some. absurd (some refl); empty = λ none. refl })
told_by law (text ∷ before) story (earlier, tells, (line, read, does)) =
    let told = told_by law before earlier tells in
    with_line law earlier story line told (may_run earlier.seen story.seen earlier.zoned.nodes text line told.nodes read) does

stand : (story : ZoneStory) (nodes : List NodeInfo) → IsTold story → story.zoned.nodes ≡ nodes → RangesStand story
stand story [] told e = subst (λ (z : Zoned). All (StandsAsShown z.nodes) (ranges z.contents)) (sym (told.empty e)) (All-nil (StandsAsShown []))
stand story (node ∷ nodes) told e = (told.placed (λ none. cc)).placed

-- each range stands where it is shown, whatever lines tell of it
pub ranges_stand : RangesArePlaced → (lines : List (List ℕ)) (story : ZoneStory) → Tells zones_course lines story → RangesStand story
ranges_stand law lines story tells = stand story story.zoned.nodes (told_by law lines story tells) refl
