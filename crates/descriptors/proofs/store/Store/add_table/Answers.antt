use Rattle.std.proofs.Common.{◌≡◌, ◌≢◌, ◌++◌, ◌∷◌, [], AllPairs, IsSomeAnd, ap, sym, ◌∙◌, refl, subst, find, set, slice_get}
use Rattle.std.specs.Map.{lookup}
use Rattle.std.specs.Str.{bytes_eq}
use Rattle.descriptors.specs.declared.database.Database.{Database}
use Rattle.descriptors.specs.declared.store.Entry.{Entry}
use Rattle.descriptors.specs.Contents.{Contents, is_table}
use Rattle.descriptors.specs.Index.{IsIndexed}
use Rattle.descriptors.proofs.Additions.{added_table, absent_in_entry, home_of, tabled_view}
use Rattle.descriptors.proofs.Edits.{edited_index}
use Rattle.descriptors.proofs.Index.{current_entry}
use Rattle.descriptors.proofs.store.Store.add_table.Goals as goal

pub insert-requires : goal.insert-requires
insert-requires c =
    let home = home_of c.self.inside.entries.items c.in-Some.place c.index_mut.result.now c.args.table.database c.index_mut.ensures.value
    (subst (λ o. IsSomeAnd o (λ (d : Database). d.name ≡ c.args.table.database)) (current_entry c.args.self.now c.self.inside.entries.items c.in-Some.place (slice_get c.self.inside.entries.items c.in-Some.place) (sym (ap (λ (s : Contents). s.databases) c.self.view_is)) (sym (ap (λ (s : Contents). s.current) c.self.view_is) ∙ c.in-Some.is) refl) c.requires.current) in
    record {
      absent = ap (λ n. lookup (bytes_eq n) c.index_mut.result.now.tables) c.as_slice.ensures ∙ absent_in_entry c.self.inside.places c.self.inside.entries.items c.self.inside.tables.items c.in-Some.place c.index_mut.result.now c.args.table.database c.args.table.name c.self.invariant c.index_mut.ensures.value home.0 home.1
          (ap (λ (s : Contents). find (is_table c.args.table.database c.args.table.name) s.tables) c.self.view_is ∙ c.requires.absent);
    }

pub invariant_of-self-in_err-insert : goal.invariant_of-self-in_err-insert
invariant_of-self-in_err-insert c =
    let home = home_of c.self.inside.entries.items c.in-Some.place c.index_mut.result.now c.args.table.database c.index_mut.ensures.value
    (subst (λ o. IsSomeAnd o (λ (d : Database). d.name ≡ c.args.table.database)) (current_entry c.args.self.now c.self.inside.entries.items c.in-Some.place (slice_get c.self.inside.entries.items c.in-Some.place) (sym (ap (λ (s : Contents). s.databases) c.self.view_is)) (sym (ap (λ (s : Contents). s.current) c.self.view_is) ∙ c.in-Some.is) refl) c.requires.current) in
    let e : Entry = record { database = c.index_mut.result.now.database; tables = c.insert.new.self } in
    subst (λ ts. IsIndexed c.self.inside.places (set c.self.inside.entries.items c.in-Some.place e) ts) (sym c.in_ok-reserve.ensures.items)
    (edited_index c.self.inside.places c.self.inside.entries.items c.self.inside.tables.items c.in-Some.place c.index_mut.result.now e c.self.invariant c.index_mut.ensures.value home.0 refl c.in_err-insert.ensures.err)

pub invariant_of-self-in-Some : goal.invariant_of-self-in-Some
invariant_of-self-in-Some c =
    let home = home_of c.self.inside.entries.items c.in-Some.place c.index_mut.result.now c.args.table.database c.index_mut.ensures.value
    (subst (λ o. IsSomeAnd o (λ (d : Database). d.name ≡ c.args.table.database)) (current_entry c.args.self.now c.self.inside.entries.items c.in-Some.place (slice_get c.self.inside.entries.items c.in-Some.place) (sym (ap (λ (s : Contents). s.databases) c.self.view_is)) (sym (ap (λ (s : Contents). s.current) c.self.view_is) ∙ c.in-Some.is) refl) c.requires.current) in
    let e : Entry = record { database = c.index_mut.result.now.database; tables = c.insert.new.self } in
    subst (λ ts. IsIndexed c.self.inside.places (set c.self.inside.entries.items c.in-Some.place e) ts) (sym (c.push_within.ensures ∙ ap (λ ts. ts ++ c.args.table ∷ []) c.in_ok-reserve.ensures.items))
    (added_table c.self.inside.places c.self.inside.entries.items c.self.inside.tables.items c.in-Some.place c.index_mut.result.now e c.args.table c.self.invariant c.index_mut.ensures.value home.0
    (subst (λ (s : Contents). AllPairs (λ d e. d.name ≢ e.name) s.databases) (sym c.self.view_is) c.requires.names) (sym home.1) refl
    (c.in_ok-insert.ensures.ok ∙ ap (λ n. c.index_mut.result.now.tables ++ (n, c.len-last.result) ∷ []) c.as_slice.ensures ∙ ap (λ k. c.index_mut.result.now.tables ++ (c.args.table.name, k) ∷ []) (c.len-last.ensures ∙ c.self.inside.tables.ok.0)))

pub returns-in_ok-insert-clause-ok : goal.returns-in_ok-insert-clause-ok
returns-in_ok-insert-clause-ok c =
    let e : Entry = record { database = c.index_mut.result.now.database; tables = c.insert.new.self } in
    tabled_view c.self.inside.regions c.self.inside.entries.items c.self.inside.tables.items c.push_within.new.items.items c.self.inside.current c.args.self.now c.in-Some.place c.index_mut.result.now e c.args.table c.self.view_is c.index_mut.ensures.value refl (c.push_within.ensures ∙ ap (λ ts. ts ++ c.args.table ∷ []) c.in_ok-reserve.ensures.items)
