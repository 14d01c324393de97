use Rattle.std.proofs.Common.{List, ◌++◌, sym, ap, ◌∙◌}
use Rattle.mr_base.specs.declared.spans.Write.{Write}
use Rattle.sql_eval.specs.OwnWrites.{OwnWrites, writes_of}
use Rattle.planner.proofs.PlaceLemmas.{all_written, write_more}
use Rattle.planner.proofs.own_writes.OwnWrites.writes.Goals as goal

pub loop-place-preserved : goal.loop-place-preserved
loop-place-preserved c =
    ap (λ (l : List Write). l ++ writes_of c.next.new.self) c.in_ok-push_write.ensures
    ∙ write_more c.loop-place.writes c.in-Some.place.now c.in-Some.change.now c.next.new.self
    ∙ ap (λ (own : OwnWrites). c.loop-place.writes ++ writes_of own) (sym c.in-Some.ensures.steps)
    ∙ c.loop-place.invariant

pub returns : goal.returns
returns c = all_written c.loop-place.writes c.loop-place.place-iterator c.args.self.now c.in-None.ensures.steps.0 c.loop-place.invariant
