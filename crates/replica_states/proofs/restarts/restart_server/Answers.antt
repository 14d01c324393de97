use Rattle.replica_states.proofs.RestartLemmas.{none_restarted, one_restarted}
use Rattle.std.proofs.Common.{refl}
use Rattle.replica_states.proofs.restarts.restart_server.Goals as goal

pub returns-in-Some-clause-servers : goal.returns-in-Some-clause-servers
returns-in-Some-clause-servers c =
    one_restarted c.args.boot c.args.node c.args.range.now c.restart.new.self c.in-Some.place _ c.requires.sound c.in-Some.ensures.0 c.in-Some.ensures.1 refl c.restart.ensures.changed

pub returns-in_default-clause-servers : goal.returns-in_default-clause-servers
returns-in_default-clause-servers c = none_restarted c.args.node c.args.boot c.args.range.now c.requires.sound c.in_default.ensures
