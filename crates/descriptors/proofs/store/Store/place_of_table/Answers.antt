use Rattle.std.proofs.Common.{ap, ◌∙◌, sym, position, option_and_then, slice_get, Some}
use Rattle.descriptors.specs.declared.database.Database.{Database}
use Rattle.descriptors.specs.Contents.{Contents, is_table}
use Rattle.descriptors.proofs.Index.{current_entry, lookup_in_entry}
use Rattle.descriptors.proofs.store.Store.place_of_table.Goals as goal

pub returns : goal.returns
returns c =
    let at = c.in_ok-entry.ensures ∙ ap (λ es. slice_get es c.in_ok-self.field-0) c.deref.ensures.value in
    c.place.ensures
    ∙ lookup_in_entry c.args.name.now c.self.inside.places c.self.inside.entries.items c.self.inside.tables.items c.self.invariant c.in_ok-self.field-0 c.in_ok-entry.entry.now at
    ∙ ap (λ (s : Contents). position (is_table c.in_ok-entry.entry.now.database.name c.args.name.now) s.tables) c.self.view_is
    ∙ sym (ap (option_and_then (λ (d : Database). position (is_table d.name c.args.name.now) c.args.self.now.tables))
    (current_entry c.args.self.now c.self.inside.entries.items c.in_ok-self.field-0 (Some c.in_ok-entry.entry.now) (sym (ap (λ (s : Contents). s.databases) c.self.view_is)) (sym (ap (λ (s : Contents). s.current) c.self.view_is) ∙ c.in_ok-self.was) at))
