-- The nodes of a scenario that is read for its ranges, as its lines are read.
use Rattle.std.proofs.Common.{◌≡◌, ◌≢◌, ◌⊎◌, ℕ, ◌+◌, ◌<◌, ◌≤◌, true, List, [], ◌∷◌, ◌++◌, Ok, length, get_or, refl, ap, sym, ◌∙◌, subst, inl, inr, arith, IsUtf8}
use Rattle.std.proofs.Math.ListN.{get_or-append}
use Rattle.std.proofs.Math.Seq.{get_or-append_seam}
use Rattle.std.proofs.lemmas.List.{length-append}
use Rattle.std.proofs.lemmas.List.Elements.{All-push}
use Rattle.std.proofs.lemmas.List.Sums.{fold-append}
use Rattle.mr_base.specs.declared.nodes.NodeInfo.{NodeInfo}
use Rattle.scenario.specs.Lines.{counted, reads, with_new_node}
use Rattle.scenario.specs.Sound.{IsAfter, IsNextNode, IsSoundLine}
use Rattle.journal.specs.declared.events.Event.TheVariants as events
use Rattle.scenario.specs.declared.lines.Line.{Line}
use Rattle.scenario.specs.declared.lines.Line.TheVariants as lines
use Rattle.scenario.specs.declared.seen.Seen.{Seen}
use Rattle.scenario.proofs.SoundLines.{lines_are_sound}
use Rattle.zone_report.specs.Nodes.{AreNodes, AreNumbered, regions_of, with_region}
use Rattle.mr_shell.specs.ZoneNodes.{AreSeenNodes, MayRunZones}
use Rattle.mr_shell.specs.ZoneStory.{nothing_told}

numbered_push : (nodes : List NodeInfo) (info : NodeInfo) → AreNumbered nodes → info.id.0 ≡ length nodes + 1 → AreNumbered (nodes ++ info ∷ [])
numbered_push nodes info each last k other lt = by (below_or_last k (length nodes) (omega (arith, lt, length-append nodes (info ∷ []))))
  where
    below_or_last : (a b : ℕ) → a < b + 1 → (a < b) ⊎ (a ≡ b)
    below_or_last a b h = grind arith

    by : (k < length nodes) ⊎ (k ≡ length nodes) → (get_or (nodes ++ info ∷ []) k other).id.0 ≡ k + 1
    by (inl below) = ap (λ (s : NodeInfo). s.id.0) (get_or-append nodes (info ∷ []) other k below) ∙ each k other below
    by (inr same) = rw same (ap (λ (s : NodeInfo). s.id.0) (get_or-append_seam nodes info [] other) ∙ last)

-- the line of a node
with_next : (seen : Seen) (nodes : List NodeInfo) (info : NodeInfo) (clock : ℕ) → AreSeenNodes seen nodes → IsNextNode seen info clock → AreSeenNodes (counted (with_new_node seen info clock)) (nodes ++ info ∷ [])
with_next seen nodes info clock h next =
    let same : with_region seen.regions info ≡ regions_of (nodes ++ info ∷ []) =
    ap (λ (rs : List (List ℕ)). with_region rs info) h.regions ∙ sym (fold-append with_region [] nodes (info ∷ [])) in
    record {
      zones_only = h.zones_only;
      unbegun = h.unbegun;
      count = omega (arith, length-append nodes (info ∷ []), length-append seen.nodes (record { clock = clock; running = true } ∷ []), h.count);
      regions = same;
      many = omega (arith, length-append nodes (info ∷ []), h.count, next.many);
      numbered = numbered_push nodes info h.numbered (next.next ∙ ap (λ (n : ℕ). n + 1) h.count);
      few = subst (λ (rs : List (List ℕ)). length rs ≤ 16) same (next.few (subst (λ (rs : List (List ℕ)). length rs ≤ 16) (sym h.regions) h.few));
      names = All-push (λ s. IsUtf8 s.region) nodes info h.names next.region.1;
    }

-- what else was seen doesn't concern the nodes
seen_also : (seen also : Seen) (nodes : List NodeInfo) → also.zones_only ≡ seen.zones_only → also.begun ≡ seen.begun → also.nodes ≡ seen.nodes → also.regions ≡ seen.regions → AreSeenNodes seen nodes → AreSeenNodes also nodes
seen_also seen also nodes z b n r h = record {
  zones_only = z ∙ h.zones_only;
  unbegun = b ∙ h.unbegun;
  count = ap length n ∙ h.count;
  regions = r ∙ h.regions;
  many = h.many;
  numbered = h.numbered;
  few = h.few;
  names = h.names;
}

some_nodes : (nodes : List NodeInfo) → 0 < length nodes → nodes ≢ []
some_nodes nodes h e = absurd (omega (arith, h, ap (λ (ns : List NodeInfo). length ns) e))

with_line : (seen then : Seen) (nodes : List NodeInfo) (line : Line) → AreSeenNodes seen nodes → IsSoundLine seen nothing_told line → IsAfter seen line then → MayRunZones then nodes line
with_line seen then nodes lines.Skipped h sound after = subst (λ (s : Seen). AreSeenNodes s nodes) (sym after) h
with_line seen then nodes (lines.Cluster settings) h sound after = subst (λ (s : Seen). AreSeenNodes s nodes) (sym after) (seen_also seen (counted seen) nodes refl refl refl refl h)
with_line seen then nodes (lines.Node info clock) h sound after = subst (λ (s : Seen). AreSeenNodes s (nodes ++ info ∷ [])) (sym after) (with_next seen nodes info clock h sound.1)
with_line seen then nodes (lines.Sql text) h sound after =
    (subst (λ (s : Seen). AreSeenNodes s nodes) (sym after) (seen_also seen (counted (record seen { stated = true })) nodes refl refl refl refl h), some_nodes nodes (omega (arith, sound.2, h.count)))
with_line seen then nodes (lines.Event events.Begin) h sound after = absurd (cc (h.zones_only, sound.1.0))
with_line seen then nodes (lines.Event (events.Sql text)) h sound after = absurd (cc (h.unbegun, sound.1.0))
with_line seen then nodes (lines.Event _) h sound after = absurd (cc (h.unbegun, sound.1.1))

-- once a line was read it may be run
pub may_run : (seen then : Seen) (nodes : List NodeInfo) (text : List ℕ) (line : Line) → AreSeenNodes seen nodes → reads seen nothing_told text ≡ Ok (line, then) → MayRunZones then nodes line
may_run seen then nodes text line h read = let sound = lines_are_sound seen nothing_told text line then read in with_line seen then nodes line h sound.0 sound.1

-- these nodes, where there is one, are the nodes of a cluster
pub are_nodes : (seen : Seen) (nodes : List NodeInfo) → AreSeenNodes seen nodes → nodes ≢ [] → AreNodes nodes
are_nodes seen nodes h some = record { some = some; many = h.many; numbered = h.numbered; few = h.few; names = h.names }
