use Rattle.std.proofs.Common.{Bool, ap, ◌∙◌}
use Rattle.range_server.proofs.OutcomeLemmas.{settled_ok, writer_ruled}
use Rattle.range_server.specs.Records.{IsMet, may_abort_at, pushed_by_writer}
use Rattle.range_server.specs.Scene.{scene}
use Rattle.range_server.proofs.standing.Standing.push_writer.Goals as goal

pub returns : goal.returns
returns c =
    settled_ok (scene c.args.self.now c.args.log.now c.args.now) c.args.other
    (pushed_by_writer c.args.attempt c.args.other (may_abort_at c.args.now c.args.start c.args.other_start))
    (IsMet c.args.now c.args.attempt c.args.start c.args.other_start)
    (writer_ruled c.args.attempt c.args.other c.args.start c.args.other_start c.args.now.clock.wall c.args.now.settings.expire)
    c.settle.result c.push_by_writer-outcome.result c.state_of.result
    (c.push_by_writer-outcome.ensures ∙ ap (λ (b : Bool). pushed_by_writer c.args.attempt c.args.other b c.state_of.result) c.in_ok-may_abort.ensures)
    (c.state_of.ensures _ c.requires.beside.follows)
    c.args.log.now c.settle.new.log c.args.self.now c.settle.new.self c.settle.ensures
