use Rattle.std.proofs.Common.{◌≡◌, ◌∷◌, [], List, ℕ, All, IsUtf8, sym, subst, refl, codes, arith, length, ap, rules}
use Rattle.std.proofs.lemmas.List.Elements.{All-cons, All-nil}
use Rattle.descriptors.specs.Sound.{AreDistinct, IsCluster}
use Rattle.descriptors.proofs.Creations.{distinct_names}
use Rattle.statement_tests.proofs.tests.statements.four_regions.Goals as goal

east_text : IsUtf8 (codes "east")
east_text = search rules

west_text : IsUtf8 (codes "west")
west_text = search rules

europe_text : IsUtf8 (codes "europe")
europe_text = search rules

asia_text : IsUtf8 (codes "asia")
asia_text = search rules

pub new-requires : goal.new-requires
new-requires c =
    let names : List (List ℕ) = codes "east" ∷ codes "west" ∷ codes "europe" ∷ codes "asia" ∷ [] in
    let exact : c.in_ok-regions.regions ≡ names = c.in_ok-regions.ensures in
    let texts : All IsUtf8 names =
    All-cons IsUtf8 (codes "east") (codes "west" ∷ codes "europe" ∷ codes "asia" ∷ []) east_text
    (All-cons IsUtf8 (codes "west") (codes "europe" ∷ codes "asia" ∷ []) west_text
    (All-cons IsUtf8 (codes "europe") (codes "asia" ∷ []) europe_text
    (All-cons IsUtf8 (codes "asia") [] asia_text (All-nil IsUtf8)))) in
    subst IsCluster (sym c.as_slice.ensures) (record {
      few = omega (arith, ap length exact);
      distinct = subst AreDistinct (sym exact) (distinct_names names refl);
      names = subst (All IsUtf8) (sym exact) texts;
    })
