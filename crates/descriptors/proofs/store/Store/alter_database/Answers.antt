use Rattle.std.proofs.Common.{refl}
use Rattle.descriptors.specs.Changes.{altered}
use Rattle.descriptors.proofs.Edits.{edited_index, edited_view, unedited, entry_within}
use Rattle.descriptors.proofs.store.Store.alter_database.Goals as goal

pub invariant_of-self : goal.invariant_of-self
invariant_of-self c =
    let lt = entry_within c.self.inside.regions c.self.inside.entries.items c.self.inside.tables.items c.self.inside.current c.args.self.now c.in-Some.place c.self.view_is c.in-Some.ensures.within in
    edited_index c.self.inside.places c.self.inside.entries.items c.self.inside.tables.items c.in-Some.place c.index_mut.result.now _ c.self.invariant c.index_mut.ensures.value lt c.alter.ensures.name refl

pub returns-in_ok-alter-clause-ok : goal.returns-in_ok-alter-clause-ok
returns-in_ok-alter-clause-ok c =
    let lt = entry_within c.self.inside.regions c.self.inside.entries.items c.self.inside.tables.items c.self.inside.current c.args.self.now c.in-Some.place c.self.view_is c.in-Some.ensures.within in
    edited_view c.self.inside.regions c.self.inside.entries.items c.self.inside.tables.items c.self.inside.current c.args.self.now c.args.name.now (altered c.args.s.now) c.in-Some.place c.index_mut.result.now _ c.self.view_is c.in-Some.ensures.place c.index_mut.ensures.value lt c.in_ok-alter.ensures.ok

pub returns-in_default-clause-ok : goal.returns-in_default-clause-ok
returns-in_default-clause-ok c = unedited c.args.self.now c.args.name.now (altered c.args.s.now) c.place_of_database.result c.place_of_database.ensures.place c.in_default.not-Some
