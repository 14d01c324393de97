use Rattle.std.proofs.Common.{◌≡◌, None, ap, ◌∙◌, slice_get, option_and_then, rules}
use Rattle.std.specs.Option.{option_copied}
use Rattle.descriptors.specs.Contents.{is_database}
use Rattle.descriptors.proofs.Index.{find-position}
use Rattle.descriptors.proofs.store.Store.database.Goals as goal

pub returns : goal.returns
returns c = c.database_at.ensures ∙ ap (option_and_then (slice_get c.args.self.now.databases)) c.in_ok-place_of_database.ensures.place ∙ find-position (is_database c.args.name.now) c.args.self.now.databases

pub returns-in_err-place_of_database : goal.returns-in_err-place_of_database
returns-in_err-place_of_database c =
    let none : c.from_residual.result ≡ None = search rules in
    ap option_copied none ∙ ap (option_and_then (slice_get c.args.self.now.databases)) c.in_err-place_of_database.ensures.place ∙ find-position (is_database c.args.name.now) c.args.self.now.databases
