use Rattle.mr_shell.proofs.ZoneNodes.{may_run}
use Rattle.mr_shell.proofs.zones_session.ZonesSession.run_line.Goals as goal

pub run-requires : goal.run-requires
run-requires g c = may_run c.args.self.now.scenario c.read_line.new.self c.args.self.now.nodes c.args.line.now c.in-Ok.read c.requires c.in-Ok.ensures.read
