use Rattle.std.proofs.Common.{ap, ◌∙◌, sym, position, true}
use Rattle.std.specs.Map.{lookup}
use Rattle.std.specs.Str.{bytes_eq}
use Rattle.descriptors.specs.Contents.{is_database}
use Rattle.descriptors.proofs.Index.{lookup-placed, position-map, within_from}
use Rattle.descriptors.proofs.store.Store.place_of_database.Goals as goal

pub returns-clause-place : goal.returns-clause-place
returns-clause-place c =
    c.place.ensures ∙ ap (lookup (bytes_eq c.args.name.now)) c.self.invariant.databases
    ∙ lookup-placed (λ e. true) (λ e. e.database.name) c.args.name.now c.self.inside.entries.items
    ∙ sym (position-map (is_database c.args.name.now) (λ e. e.database) c.self.inside.entries.items)
    ∙ ap (λ s. position (is_database c.args.name.now) s.databases) c.self.view_is

pub returns-clause-within : goal.returns-clause-within
returns-clause-within c = within_from (is_database c.args.name.now) c.args.self.now.databases c.place.result (returns-clause-place c)
