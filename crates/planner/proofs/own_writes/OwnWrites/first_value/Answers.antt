use Rattle.std.proofs.Common.{ap, ◌∙◌}
use Rattle.std.specs.Prelude.{Some, None}
use Rattle.std.proofs.lemmas.Result.{IfOk-weaker}
use Rattle.sql_eval.specs.OwnWrites.{FirstAndLast}
use Rattle.planner.proofs.PlaceLemmas.{kept_at}
use Rattle.planner.proofs.own_writes.OwnWrites.first_value.Goals as goal

pub returns-in-Some : goal.returns-in-Some
returns-in-Some c =
    IfOk-weaker c.clone_in.result _ _
    (λ first e. e ∙ ap (λ (x : FirstAndLast). x.first) c.change.view_is
    ∙ kept_at (λ x. x.first) c.args.place.now _ c.args.self.now (Some c.in-Some.change.now) c.args.before c.self.view_is c.in-Some.ensures.value)
    c.clone_in.ensures.copy

pub returns-in-None : goal.returns-in-None
returns-in-None c = kept_at (λ x. x.first) c.args.place.now _ c.args.self.now None c.args.before c.self.view_is c.in-None.ensures.value
