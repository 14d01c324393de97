use Rattle.std.proofs.Common.{◌∙◌}
use Rattle.std.specs.Str.{bytes_eq}
use Rattle.indexmap.proofs.CallerLemmas.{insert_entry-new}
use Rattle.name_places.proofs.Lookups.{absent_as_key, pushed_as_seen}
use Rattle.name_places.proofs.places.NamePlaces.insert.Goals as goal

pub returns-clause-ok : goal.returns-clause-ok
returns-clause-ok c =
    let absent = absent_as_key (λ k. k.items) c.in_ok-key.key c.args.name.now c.self.inside.places.entries c.args.self.now c.self.view_is c.in_ok-key.ensures.items c.requires.absent in
    let last = insert_entry-new (λ k x. bytes_eq k.items x.items) c.self.inside.places c.in_ok-key.key c.args.place absent in
    pushed_as_seen (λ k. k.items) c.in_ok-key.key c.args.place c.args.name.now c.self.inside.places.entries c.insert.new.self.entries c.args.self.now c.self.view_is c.in_ok-key.ensures.items (c.in_ok-insert.ensures.entries ∙ last)
