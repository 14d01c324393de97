use Rattle.std.proofs.Common.{◌≡◌, vec_len, ◌∙◌}
use Rattle.std.specs.List.{AllZip}
use Rattle.std.proofs.lemmas.List.Elements.{same_from_all_zip}
use Rattle.name_places.proofs.Lookups.{clones_as_seen}
use Rattle.name_places.proofs.places.NamePlacesCloneIn.clone_in.Goals as goal

pub returns : goal.returns
returns c = record {
  copy = clones_as_seen (λ k. k.items) (λ x y. AllZip (λ a b. b ≡ a) x.items y.items × (vec_len y ≡ vec_len x)) (λ x y h. same_from_all_zip (λ a b. b ≡ a) x.items y.items h.0 (λ a b e. e)) c.self.inside.places.entries c.in_ok-places.places.entries c.in_ok-places.ensures.cases ∙ c.self.view_is;
}
