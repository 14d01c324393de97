use Rattle.std.proofs.Common.{sym, ap, ◌∙◌, position}
use Rattle.std.specs.Prelude.{option_and_then, option_map}
use Rattle.descriptors.specs.declared.database.Database.{Database}
use Rattle.descriptors.specs.Contents.{database_named, is_table}
use Rattle.sql_eval.specs.Execution.{Named, with_database}
use Rattle.sql_eval.proofs.NamingSteps.{names_table}
use Rattle.sql_eval.proofs.naming.named_table.Goals as goal

pub returns-in_err-place-clause-named : goal.returns-in_err-place-clause-named
returns-in_err-place-clause-named c =
    let table = c.in_ok-table.table.now in
    rw c.from_residual-in_err-place.ensures (sym (
    names_table c.args.catalog.now c.args.name.now table (sym c.in_ok-table.ensures.found)
    ∙ ap (option_and_then (λ place. with_database c.args.catalog.now place table)) (ap (position (is_table table.database table.name)) (sym c.tables.ensures.tables) ∙ sym c.in_err-place.ensures.place)))

pub returns-in_err-database-clause-named : goal.returns-in_err-database-clause-named
returns-in_err-database-clause-named c =
    let table = c.in_ok-table.table.now in
    let whole : Database → Named = λ d. record { place = c.in_ok-place.place; table = table; database = d } in
    rw c.from_residual-in_err-database.ensures (sym (
    names_table c.args.catalog.now c.args.name.now table (sym c.in_ok-table.ensures.found)
    ∙ ap (option_and_then (λ place. with_database c.args.catalog.now place table)) (ap (position (is_table table.database table.name)) (sym c.tables.ensures.tables) ∙ sym c.in_ok-place.ensures.place)
    ∙ ap (option_map whole) (ap (λ name. database_named name c.args.catalog.now.databases) (sym c.as_slice.ensures) ∙ sym c.in_err-database.ensures.found)))

pub returns-clause-named : goal.returns-clause-named
returns-clause-named c =
    let table = c.in_ok-table.table.now in
    let whole : Database → Named = λ d. record { place = c.in_ok-place.place; table = table; database = d } in
    sym (
    names_table c.args.catalog.now c.args.name.now table (sym c.in_ok-table.ensures.found)
    ∙ ap (option_and_then (λ place. with_database c.args.catalog.now place table)) (ap (position (is_table table.database table.name)) (sym c.tables.ensures.tables) ∙ sym c.in_ok-place.ensures.place)
    ∙ ap (option_map whole) (ap (λ name. database_named name c.args.catalog.now.databases) (sym c.as_slice.ensures) ∙ sym c.in_ok-database.ensures.found))
