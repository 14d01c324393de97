use Rattle.std.proofs.Common.{◌≡◌, ◌++◌, ◌∷◌, [], ap, sym, ◌∙◌, subst, find, map, true, false, All}
use Rattle.std.specs.Map.{lookup}
use Rattle.std.specs.Str.{bytes_eq}
use Rattle.descriptors.specs.declared.store.Entry.{Entry}
use Rattle.descriptors.specs.Contents.{Contents, is_database}
use Rattle.descriptors.specs.Index.{IsIndexed}
use Rattle.descriptors.proofs.Index.{lookup-placed, position-map}
use Rattle.descriptors.proofs.Additions.{added_database, not_placed}
use Rattle.descriptors.proofs.store.Store.add_database.Goals as goal

pub insert-requires : goal.insert-requires
insert-requires c = record {
  absent =
      ap (λ n. lookup (bytes_eq n) c.self.inside.places) c.as_slice.ensures
      ∙ ap (lookup (bytes_eq c.args.database.name)) c.self.invariant.databases
      ∙ lookup-placed (λ _. true) (λ e. e.database.name) c.args.database.name c.self.inside.entries.items
      ∙ sym (position-map (is_database c.args.database.name) (λ e. e.database) c.self.inside.entries.items)
      ∙ not_placed (is_database c.args.database.name) (map (λ (e : Entry). e.database) c.self.inside.entries.items) (ap (λ (s : Contents). find (is_database c.args.database.name) s.databases) c.self.view_is ∙ c.requires.absent);
}

pub invariant_of-self-2 : goal.invariant_of-self-2
invariant_of-self-2 c =
    let e : Entry = record { database = c.args.database; tables = c.new-tables.result } in
    subst (λ es. IsIndexed c.insert.new.self es c.self.inside.tables.items) (sym (c.push_within.ensures ∙ ap (λ es. es ++ e ∷ []) c.in_ok-reserve.ensures.items))
    (added_database c.self.inside.places c.insert.new.self c.self.inside.entries.items c.self.inside.tables.items e c.self.invariant
    (c.in_ok-insert.ensures.ok ∙ ap (λ n. c.self.inside.places ++ (n, c.len-place.result) ∷ []) c.as_slice.ensures ∙ ap (λ k. c.self.inside.places ++ (c.args.database.name, k) ∷ []) (c.len-place.ensures ∙ c.self.inside.entries.ok.0)) c.new-tables.ensures
    (subst (λ (s : Contents). All (λ t. bytes_eq c.args.database.name t.database ≡ false) s.tables) (sym c.self.view_is) c.requires.alone))
