use Rattle.range_server.proofs.StepLemmas.{appended_is}
use Rattle.range_server.proofs.standing.Standing.append.Goals as goal

pub returns : goal.returns
returns c =
    appended_is c.args.e c.entry.result.now c.in-Ok.index c.args.lease.now.seq c.args.running c.args.log.now c.reserve.new.self
    c.append.new.self c.args.self.now c.apply.new.self c.reserve.ensures.entries c.in-Ok.ensures.appended c.in-Ok.ensures.answer
    c.entry.ensures c.in_ok-apply.ensures.ok c.requires.follows
