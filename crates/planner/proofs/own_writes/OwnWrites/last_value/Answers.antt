use Rattle.std.proofs.Common.{ap, ◌∙◌}
use Rattle.std.specs.Prelude.{Some, None}
use Rattle.std.specs.Option.{option_copied}
use Rattle.sql_eval.specs.OwnWrites.{FirstAndLast}
use Rattle.planner.proofs.PlaceLemmas.{kept_at}
use Rattle.planner.proofs.own_writes.OwnWrites.last_value.Goals as goal

pub returns-in-Some : goal.returns-in-Some
returns-in-Some c =
    c.as_ref.ensures.value ∙ ap (λ (x : FirstAndLast). x.last) c.change.view_is
    ∙ kept_at (λ x. x.last) c.args.place.now _ c.args.self.now (Some c.in-Some.change.now) (option_copied c.args.value) c.self.view_is c.in-Some.ensures.value

pub returns-in-None : goal.returns-in-None
returns-in-None c = kept_at (λ x. x.last) c.args.place.now _ c.args.self.now None (option_copied c.args.value) c.self.view_is c.in-None.ensures.value
