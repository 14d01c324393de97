use Rattle.range_rules.specs.Records.{IsCommitted}
use Rattle.range_server.proofs.OutcomeLemmas.{commit_ruled, settled_ok}
use Rattle.range_server.specs.Records.{committed_at}
use Rattle.range_server.specs.Scene.{scene}
use Rattle.range_server.proofs.standing.Standing.commit.Goals as goal

pub returns : goal.returns
returns c =
    settled_ok (scene c.args.self.now c.args.log.now c.args.now) c.args.attempt (committed_at c.args.at)
    (λ was new. IsCommitted was c.args.at new) (commit_ruled c.args.at) c.settle.result c.commit-outcome.result
    c.state_of.result c.commit-outcome.ensures (c.state_of.ensures _ c.requires.beside.follows)
    c.args.log.now c.settle.new.log c.args.self.now c.settle.new.self c.settle.ensures
