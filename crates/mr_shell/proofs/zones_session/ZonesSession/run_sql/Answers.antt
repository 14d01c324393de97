use Rattle.std.proofs.Common.{subst, sym}
use Rattle.std.proofs.lemmas.Result.{on_ok_weaker}
use Rattle.zone_report.specs.Nodes.{AreNodes}
use Rattle.mr_shell.proofs.StopLemmas.{IfErr-both}
use Rattle.mr_shell.proofs.ZoneLines.{carried, has_run_sql, stops_at_sql}
use Rattle.mr_shell.proofs.ZoneNodes.{are_nodes}
use Rattle.mr_shell.proofs.zones_session.ZonesSession.run_sql.Goals as goal

pub carry_out-requires : goal.carry_out-requires
carry_out-requires g c = subst AreNodes (sym c.as_slice.ensures) (are_nodes c.args.self.now.scenario c.args.self.now.nodes c.requires.ready c.requires.some)

pub returns-clause-runs : goal.returns-clause-runs
returns-clause-runs g c =
    on_ok_weaker c.write_answer.result
    (λ w start text before h.
    has_run_sql start c.args.statement.now text before c.args.self.now c.carry_out.new.zones c.in_ok-answer.answer (g.K.Sink.written c.args.sink.now) (g.K.Sink.written c.write_answer.new.sink) (carried c.args.self.now c.carry_out.new.zones c.in_ok-answer.answer c.as_slice.result.now c.as_slice-2.result.now c.args.statement.now c.as_slice.ensures c.as_slice-2.ensures c.in_ok-answer.ensures) w h)
    c.write_answer.ensures.written

pub returns-clause-stops : goal.returns-clause-stops
returns-clause-stops g c =
    IfErr-both c.write_answer.result _ _ _
    (λ end w is start text before h.
    stops_at_sql end start c.args.statement.now text before c.args.self.now c.carry_out.new.zones c.in_ok-answer.answer (g.K.Sink.written c.args.sink.now) (g.K.Sink.written c.write_answer.new.sink) (carried c.args.self.now c.carry_out.new.zones c.in_ok-answer.answer c.as_slice.result.now c.as_slice-2.result.now c.args.statement.now c.as_slice.ensures c.as_slice-2.ensures c.in_ok-answer.ensures) is w h)
    c.write_answer.ensures.stops c.write_answer.ensures.ends
