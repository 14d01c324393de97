use Rattle.range_rules.specs.Records.{IsPushed}
use Rattle.range_server.proofs.OutcomeLemmas.{reader_ruled, settled_ok}
use Rattle.range_server.specs.Records.{pushed_by_reader}
use Rattle.range_server.specs.Scene.{scene}
use Rattle.range_server.proofs.standing.Standing.push_reader.Goals as goal

pub returns : goal.returns
returns c =
    settled_ok (scene c.args.self.now c.args.log.now c.args.now) c.args.other (pushed_by_reader c.args.other c.args.at)
    (λ was new. IsPushed was c.args.at new) (reader_ruled c.args.other c.args.at) c.settle.result c.push_by_reader-outcome.result
    c.state_of.result c.push_by_reader-outcome.ensures (c.state_of.ensures _ c.requires.beside.follows)
    c.args.log.now c.settle.new.log c.args.self.now c.settle.new.self c.settle.ensures
