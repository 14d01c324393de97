use Rattle.std.proofs.Common.{ap, ◌∙◌}
use Rattle.std.specs.Map.{lookup}
use Rattle.std.specs.Str.{bytes_eq}
use Rattle.name_places.proofs.Lookups.{lookup-map}
use Rattle.name_places.proofs.places.NamePlaces.place.Goals as goal

pub returns : goal.returns
returns c = c.copied.ensures ∙ c.get.ensures.value ∙ lookup-map (λ k. k.items) (bytes_eq c.args.name.now) c.self.inside.places.entries ∙ ap (lookup (bytes_eq c.args.name.now)) c.self.view_is
