use Rattle.std.proofs.Common.{◌∙◌, ap}
use Rattle.std.specs.Prelude.{Some}
use Rattle.local_search.proofs.RowValues.{no_value, value_pushed}
use Rattle.local_search.proofs.row_values.push_value_at.Goals as goal

pub returns-in-None : goal.returns-in-None
returns-in-None c = no_value c.args.place c.args.row.now c.args.values.now.items c.in-None.ensures

pub returns-in_ok-push-in-Some : goal.returns-in_ok-push-in-Some
returns-in_ok-push-in-Some c =
    value_pushed c.args.place c.args.row.now c.args.values.now.items c.push.new.self.items c.in_ok-clone_in-in-Some.field-0 (ap Some c.in_ok-clone_in-in-Some.ensures.copy ∙ c.in-Some.ensures)
    c.in_ok-push-in-Some.ensures.items
