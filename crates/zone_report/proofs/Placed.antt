-- Which ranges have placements.
use Rattle.std.proofs.Common.{◌≡◌, ℕ, List, [], ◌∷◌, Bool, true, false, cond, Option, None, Some, IsSome, All, get_or, option_and_then, refl, ap, sym, ◌∙◌, subst, arith, is_some}
use Rattle.std.specs.Option.{option_or}
use Rattle.std.proofs.lemmas.List.{get_or_default}
use Rattle.std.proofs.lemmas.List.Elements.{All-cons, All-head, All-nil, All-tail}
use Rattle.std.proofs.lemmas.Option.{none-some}
use Rattle.mr_base.specs.declared.nodes.NodeInfo.{NodeInfo}
use Rattle.mr_base.specs.declared.states.SqlState.TheVariants.{S42601}
use Rattle.region_sql.specs.declared.region_statements.Goal.{Goal}
use Rattle.region_sql.specs.declared.region_statements.RegionStatement.{RegionStatement}
use Rattle.region_sql.specs.declared.statements.Statement.TheVariants.{Region}
use Rattle.region_sql.specs.Grammar.{IsStatementText}
use Rattle.descriptors.specs.declared.refusals.CatalogRefusal.{CatalogRefusal}
use Rattle.descriptors.specs.declared.refusals.CatalogRefusal.TheVariants as catalog
use Rattle.descriptors.specs.Changes.{after}
use Rattle.descriptors.specs.Contents.{Contents}
use Rattle.descriptors.specs.Refusals.{first_of, refusal_of as catalog_refusal, rows_of}
use Rattle.descriptors.specs.Sound.{IsSoundCatalog}
use Rattle.descriptors.proofs.Kept.{sound_after}
use Rattle.descriptors.proofs.Names.{names_are_texts}
use Rattle.placement.specs.Fitting.{HasNoPlacement}
use Rattle.placement.specs.Placing.{lack_at, lack_of}
use Rattle.placement.proofs.Lacking.{placed_where_one_fits}
use Rattle.zone_report.specs.declared.refused.SqlRefusal.{SqlRefusal}
use Rattle.zone_report.specs.declared.refused.SqlRefusal.TheVariants.{State, Unplaceable}
use Rattle.zone_report.specs.Laws.{IsFirstUnplaced, IsPlaced, IsRefusedOrPlaced, RangesArePlaced, StandsAsShown, without_databases}
use Rattle.zone_report.specs.Nodes.{AreNodes, Serve}
use Rattle.zone_report.specs.Ranges.{Range, ranges}
use Rattle.zone_report.specs.Refusals.{first_lack, lack_in, of_catalog, unplaceable}
use Rattle.zone_report.specs.Statements.{CarriesOut, Zoned, refusal_of, unless_refused}
use Rattle.zone_report.proofs.Nodes.{is_cluster, nodes_serve}
use Rattle.zone_report.proofs.Placeable.{lacks_none, regions_stay}
use Rattle.zone_report.proofs.RangesOf.{IsServed, ranges_served}

-- ---- what is lacking, and refusals

no_lack : (home : List ℕ) (lack : Option (ℕ × ℕ)) → unplaceable (Some home) lack ≡ None → lack ≡ None
no_lack home None h = refl
no_lack home (Some lack) h = absurd (none-some (Unplaceable home lack.0 lack.1) (sym h))

nothing_lacking : (lease : Option (List ℕ)) (goal : Option Goal) (regions : List (List ℕ)) (nodes : List NodeInfo) → unplaceable lease (lack_at lease goal regions nodes) ≡ None → lack_at lease goal regions nodes ≡ None
nothing_lacking None goal regions nodes h = refl
nothing_lacking (Some home) goal regions nodes h = no_lack home (lack_at (Some home) goal regions nodes) h

lacking_at : (lease : Option (List ℕ)) (lack : Option (ℕ × ℕ)) (home : List ℕ) (wanted found : ℕ) → unplaceable lease lack ≡ Some (Unplaceable home wanted found) → IsSome lack × (lease ≡ Some home)
lacking_at None lack home wanted found h = absurd (none-some (Unplaceable home wanted found) h)
lacking_at (Some at) None home wanted found h = absurd (none-some (Unplaceable home wanted found) h)
lacking_at (Some at) (Some lack) home wanted found h = (refl, cc)

-- ---- the placements of ranges

stands : (nodes : List NodeInfo) (range : Range) → IsServed nodes range → lack_in nodes range ≡ None → StandsAsShown nodes range
stands nodes range served h =
    let c = range.config in
    let law = placed_where_one_fits c nodes served.form served.serve in
    law.placed (nothing_lacking c.lease c.goal _ nodes h)

has_none : (nodes : List NodeInfo) (range : Range) (home : List ℕ) (wanted found : ℕ) → IsServed nodes range → lack_in nodes range ≡ Some (Unplaceable home wanted found) → HasNoPlacement range.config nodes × (range.config.lease ≡ Some home)
has_none nodes range home wanted found served h =
    let law = placed_where_one_fits range.config nodes served.form served.serve in
    let lacking = lacking_at range.config.lease (lack_of range.config nodes) home wanted found h in
    (law.lacking.0 lacking.0, lacking.1)

all_stand : (nodes : List NodeInfo) (all : List Range) → All (IsServed nodes) all → first_lack nodes all ≡ None → All (StandsAsShown nodes) all
all_stand nodes all served h k other lt =
    let range = get_or all k other in
    stands nodes range (served k other lt) (lacks_none nodes all range k h lt (get_or_default all k range other lt))

first_unplaced : (nodes : List NodeInfo) (all : List Range) (home : List ℕ) (wanted found : ℕ) → All (IsServed nodes) all → first_lack nodes all ≡ Some (Unplaceable home wanted found) → IsFirstUnplaced nodes all home
first_unplaced nodes [] home wanted found served h = absurd (none-some (Unplaceable home wanted found) h)
first_unplaced nodes (range ∷ all) home wanted found served h = by (lack_in nodes range) refl (first_unplaced nodes all home wanted found (All-tail (IsServed nodes) range all served))
  where
    here : IsServed nodes range
    here = All-head (IsServed nodes) range all served

    by : (lack : Option SqlRefusal) → lack_in nodes range ≡ lack → (first_lack nodes all ≡ Some (Unplaceable home wanted found) → IsFirstUnplaced nodes all home) → IsFirstUnplaced nodes (range ∷ all) home
    by None e later =
        let rest = later (ap (λ o. option_or o (first_lack nodes all)) (sym e) ∙ h) in
        record {
          before = range ∷ rest.before;
          range = rest.range;
          later = rest.later;
          parts = ap (λ l. range ∷ l) rest.parts;
          placed = All-cons (StandsAsShown nodes) range rest.before (stands nodes range here e) rest.placed;
          unplaced = rest.unplaced;
          at_home = rest.at_home;
        }
    by (Some lack) e later =
        let none = has_none nodes range home wanted found here (e ∙ ap (λ o. option_or o (first_lack nodes all)) (sym e) ∙ h) in
        record { before = []; range = range; later = all; parts = refl; placed = All-nil (StandsAsShown nodes); unplaced = none.0; at_home = none.1 }

-- ---- refusals of the catalog

abbrev AreTold : List (Bool × CatalogRefusal) → Type 0
AreTold [] = Unit {0}
AreTold (row ∷ rows) = IsSome (of_catalog row.1) × AreTold rows

none_of : (rows : List (Bool × CatalogRefusal)) → AreTold rows → option_and_then of_catalog (first_of rows) ≡ None → first_of rows ≡ None
none_of [] told h = refl
none_of (row ∷ rows) told h = by row.0 refl (none_of rows told.1)
  where
    by : (b : Bool) → row.0 ≡ b → (option_and_then of_catalog (first_of rows) ≡ None → first_of rows ≡ None) → cond row.0 (Some row.1) (first_of rows) ≡ None
    by true e rest =
        let none : of_catalog row.1 ≡ None = ap (λ b. option_and_then of_catalog (cond b (Some row.1) (first_of rows))) (sym e) ∙ h in
        let some : is_some (of_catalog row.1) ≡ false = ap is_some none in
        absurd (cc told.0)
    by false e rest = ap (λ b. cond b (Some row.1) (first_of rows)) e ∙ rest (ap (λ b. option_and_then of_catalog (cond b (Some row.1) (first_of rows))) (sym e) ∙ h)

-- The catalog refuses nothing that isn't told.
accepted : (c : Contents) (s : RegionStatement) → option_and_then of_catalog (catalog_refusal c s) ≡ None → catalog_refusal c s ≡ None
accepted c s h = none_of (rows_of c s) (refl, (refl, (refl, (refl, (refl, (refl, (refl, (refl, (refl, (refl, (refl, (refl, (refl, (refl, tt)))))))))))))) h

-- The catalog refuses nothing for want of nodes.
no_want : (refusal : Option CatalogRefusal) (home : List ℕ) (wanted found : ℕ) → option_and_then of_catalog refusal ≡ Some (Unplaceable home wanted found) → ⊥
no_want None home wanted found h = cc
no_want (Some (catalog.State state)) home wanted found h = cc
no_want (Some (catalog.D number)) home wanted found h = cc
no_want (Some catalog.Memory) home wanted found h = cc

record IsWant (c : Contents) (s : RegionStatement) (lack want : Option SqlRefusal) : Type 0 where
  accepted : catalog_refusal c s ≡ None
  lacking : lack ≡ want

-- A refusal for want of nodes is that of the ranges.
is_want : (c : Contents) (s : RegionStatement) (lack : Option SqlRefusal) (home : List ℕ) (wanted found : ℕ) → option_or (option_and_then of_catalog (catalog_refusal c s)) lack ≡ Some (Unplaceable home wanted found) → IsWant c s lack (Some (Unplaceable home wanted found))
is_want c s lack home wanted found h = by (option_and_then of_catalog (catalog_refusal c s)) refl
  where
    by : (o : Option SqlRefusal) → option_and_then of_catalog (catalog_refusal c s) ≡ o → IsWant c s lack (Some (Unplaceable home wanted found))
    by None e = record { accepted = accepted c s e; lacking = ap (λ o. option_or o lack) (sym e) ∙ h }
    by (Some told) e = absurd (no_want (catalog_refusal c s) home wanted found (e ∙ ap (λ o. option_or o lack) (sym e) ∙ h))

-- What isn't refused lacks nothing.
no_want_at_all : (c : Contents) (s : RegionStatement) (lack : Option SqlRefusal) → option_or (option_and_then of_catalog (catalog_refusal c s)) lack ≡ None → IsWant c s lack None
no_want_at_all c s lack h = by (option_and_then of_catalog (catalog_refusal c s)) refl
  where
    by : (o : Option SqlRefusal) → option_and_then of_catalog (catalog_refusal c s) ≡ o → IsWant c s lack None
    by None e = record { accepted = accepted c s e; lacking = ap (λ o. option_or o lack) (sym e) ∙ h }
    by (Some told) e = absurd (none-some told (sym (ap (λ o. option_or o lack) (sym e) ∙ h)))

-- ---- statements

-- Ranges of the catalog that an accepted statement makes.
served_after : (z : Zoned) (s : RegionStatement) (text : List ℕ) → IsPlaced z → IsStatementText text (Region s) → catalog_refusal z.contents s ≡ None → IsSoundCatalog (after z.contents s) × Serve z.nodes (after z.contents s).regions
served_after z s text placed is passed = (
  sound_after z.contents s placed.catalog (names_are_texts text s is) passed,
  subst (Serve z.nodes) (sym (regions_stay z.contents s)) placed.nodes,
)

placed_after : (z : Zoned) (s : RegionStatement) (text : List ℕ) → IsPlaced z → IsStatementText text (Region s) → (answer : Option SqlRefusal) → refusal_of z (Some s) ≡ answer → IsPlaced (record { nodes = z.nodes; contents = unless_refused answer z.contents (after z.contents s) })
placed_after z s text placed is (Some refusal) e = placed
placed_after z s text placed is None e =
    let none = no_want_at_all z.contents s (first_lack z.nodes (ranges (after z.contents s))) e in
    let then' = served_after z s text placed is none.accepted in
    record { catalog = then'.0; nodes = then'.1; placed = all_stand z.nodes (ranges (after z.contents s)) (ranges_served z.nodes (after z.contents s) then'.0 then'.1) none.lacking }

refused_for_want : (z : Zoned) (s : RegionStatement) (text home : List ℕ) (wanted found : ℕ) → IsPlaced z → IsStatementText text (Region s) → refusal_of z (Some s) ≡ Some (Unplaceable home wanted found) → IsFirstUnplaced z.nodes (ranges (after z.contents s)) home
refused_for_want z s text home wanted found placed is e =
    let want = is_want z.contents s (first_lack z.nodes (ranges (after z.contents s))) home wanted found e in
    let then' = served_after z s text placed is want.accepted in
    first_unplaced z.nodes (ranges (after z.contents s)) home wanted found (ranges_served z.nodes (after z.contents s) then'.0 then'.1) want.lacking

-- No statement is none for want of nodes.
not_read : (answer : Option SqlRefusal) (home : List ℕ) (wanted found : ℕ) → answer ≡ Some (State S42601) → answer ≡ Some (Unplaceable home wanted found) → ⊥
not_read answer home wanted found e h = cc

refused_or_placed : (text : List ℕ) (old new : Zoned) (answer : Option SqlRefusal) → IsPlaced old → CarriesOut text old answer new → IsRefusedOrPlaced text old answer new
refused_or_placed text old new answer placed (None, is, e, becomes) = record {
  refused = λ home wanted found h. absurd (not_read answer home wanted found e h);
  placed = subst IsPlaced (sym becomes) placed;
}
refused_or_placed text old new answer placed (Some s, is, e, becomes) = record {
  refused = λ home wanted found h. (s, is, refused_for_want old s text home wanted found placed is (sym e ∙ h));
  placed = subst IsPlaced (sym becomes) (placed_after old s text placed is (refusal_of old (Some s)) refl);
}

-- ---- at first

placed_at_first : (nodes : List NodeInfo) → AreNodes nodes → IsPlaced (without_databases nodes)
placed_at_first nodes h = record {
  catalog = record {
    cluster = is_cluster nodes h;
    databases = λ k d lt. absurd (omega arith);
    in_cluster = λ k d lt. absurd (omega arith);
    names = λ i j d low high. absurd (omega arith);
    tables = λ k t lt. absurd (omega arith);
    limits = record { databases = omega arith; tables = omega arith; named_apart = λ i j d low high. absurd (omega arith); current = tt };
  };
  nodes = nodes_serve nodes h;
  placed = λ k r lt. absurd (omega arith);
}

pub ranges_are_placed : RangesArePlaced
ranges_are_placed = record { first = placed_at_first; each = refused_or_placed }
