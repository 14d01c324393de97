use Rattle.std.proofs.Common.{ap, sym, ◌∙◌, map, position, option_and_then}
use Rattle.std.specs.Option.{option_map_or}
use Rattle.descriptors.specs.declared.database.Database.{Database}
use Rattle.descriptors.specs.declared.store.Entry.{Entry}
use Rattle.descriptors.specs.Contents.{Contents, is_table, current_database}
use Rattle.descriptors.specs.Changes.{with_locality}
use Rattle.descriptors.specs.Lists.{changed}
use Rattle.descriptors.proofs.Additions.{relocated_index, relocated, not_relocated}
use Rattle.descriptors.proofs.store.Store.set_locality.Goals as goal

pub invariant_of-self : goal.invariant_of-self
invariant_of-self c = relocated_index c.self.inside.places c.self.inside.entries.items c.self.inside.tables.items c.in-Some.place c.index_mut.result.now c.set_locality.new.self c.args.locality c.self.invariant c.index_mut.ensures.value c.set_locality.ensures

pub returns-in-Some : goal.returns-in-Some
returns-in-Some c =
    let s : Contents = record { regions = c.self.inside.regions; databases = map (λ (e : Entry). e.database) c.self.inside.entries.items; tables = c.self.inside.tables.items; current = c.self.inside.current } in
    relocated s c.args.name.now (with_locality c.args.locality) (current_database s) c.in-Some.place c.index_mut.result.now c.set_locality.new.self
    (c.in-Some.ensures ∙ sym (ap (λ (x : Contents). option_and_then (λ (d : Database). position (is_table d.name c.args.name.now) x.tables) (current_database x)) c.self.view_is))
    c.index_mut.ensures.value c.set_locality.ensures
    ∙ ap (λ (x : Contents). option_map_or (λ (d : Database). record x { tables = changed (is_table d.name c.args.name.now) (with_locality c.args.locality) x.tables }) (current_database x) x) c.self.view_is

pub returns-in_default : goal.returns-in_default
returns-in_default c = not_relocated c.args.self.now c.args.name.now (with_locality c.args.locality) (current_database c.args.self.now) c.place_of_table.result c.place_of_table.ensures c.in_default.not-Some
