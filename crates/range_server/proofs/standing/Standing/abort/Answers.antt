use Rattle.range_rules.specs.Records.{IsGivenUp}
use Rattle.range_server.proofs.OutcomeLemmas.{abort_ruled, settled_ok}
use Rattle.range_server.specs.Records.{given_up}
use Rattle.range_server.specs.Scene.{scene}
use Rattle.range_server.proofs.standing.Standing.abort.Goals as goal

pub returns : goal.returns
returns c =
    settled_ok (scene c.args.self.now c.args.log.now c.args.now) c.args.attempt (given_up c.args.attempt)
    (λ was new. IsGivenUp c.args.attempt was new) (abort_ruled c.args.attempt) c.settle.result c.abort-outcome.result
    c.state_of.result c.abort-outcome.ensures (c.state_of.ensures _ c.requires.beside.follows)
    c.args.log.now c.settle.new.log c.args.self.now c.settle.new.self c.settle.ensures
