use Rattle.std.proofs.Common.{◌≡◌, None, ap, ◌∙◌, slice_get, option_and_then, rules}
use Rattle.std.specs.Option.{option_copied}
use Rattle.descriptors.specs.Contents.{is_table, current_database}
use Rattle.descriptors.proofs.Index.{find-position_in}
use Rattle.descriptors.proofs.store.Store.table.Goals as goal

pub returns : goal.returns
returns c = c.table_at.ensures ∙ ap (option_and_then (slice_get c.args.self.now.tables)) c.in_ok-place_of_table.ensures ∙ find-position_in (λ d. is_table d.name c.args.name.now) c.args.self.now.tables (current_database c.args.self.now)

pub returns-in_err-place_of_table : goal.returns-in_err-place_of_table
returns-in_err-place_of_table c =
    let none : c.from_residual.result ≡ None = search rules in
    ap option_copied none ∙ ap (option_and_then (slice_get c.args.self.now.tables)) c.in_err-place_of_table.ensures ∙ find-position_in (λ d. is_table d.name c.args.name.now) c.args.self.now.tables (current_database c.args.self.now)
