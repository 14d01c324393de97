use Rattle.std.proofs.Common.{map, sym, ◌∙◌}
use Rattle.std.specs.BTreeMap.Range.{entries_between}
use Rattle.std.specs.declared.ops.Bound.TheVariants.{Excluded, Included}
use Rattle.std.proofs.lemmas.Result.{IfOk-weaker}
use Rattle.sql_eval.specs.OwnWrites.{FirstAndLast, Place, place_cmp}
use Rattle.planner.proofs.ThroughLemmas.{none_written, values_between}
use Rattle.planner.proofs.own_writes.OwnWrites.values_in.Goals as goal

pub returns-then-not-lt : goal.returns-then-not-lt
returns-then-not-lt c = c.new.ensures ∙ sym (none_written c.args.ask.now c.args.self.now (sym c.lt.ensures ∙ c.if-not-lt.true))

pub returns : goal.returns
returns c =
    IfOk-weaker c.values_between.result _ _
    (λ values e.
    e
    ∙ (λ i. map (λ (x : Place × FirstAndLast). (x.0.1, x.1.last))
    (entries_between place_cmp (Included (c.args.ask.now.range, c.in_ok-clone_in.ensures.copy i)) (Excluded (c.args.ask.now.range, c.in_ok-clone_in-2.ensures.copy i)) (c.self.view_is i)))
    ∙ values_between c.args.ask.now c.args.self.now)
    c.values_between.ensures
