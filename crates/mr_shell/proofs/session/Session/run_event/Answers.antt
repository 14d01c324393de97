use Rattle.std.proofs.lemmas.Result.{IfErr-weaker, on_ok_weaker}
use Rattle.mr_shell.proofs.RunLemmas.{fewer_entries}
use Rattle.mr_shell.proofs.RunLines.{has_run_event, stops_at_event}
use Rattle.mr_shell.proofs.session.Session.run_event.Goals as goal

pub entries_after-fresh-requires : goal.entries_after-fresh-requires
entries_after-fresh-requires g c = fewer_entries c.journal-made.result.now c.journal.result.now c.args.self.now.cluster c.step.new.self c.args.event.now c.journal-made.ensures c.journal.ensures c.in_ok-step.ensures.ok

pub returns-clause-runs : goal.returns-clause-runs
returns-clause-runs g c =
    on_ok_weaker c.write_entries.result
    (λ w report text before h.
    has_run_event text before report (g.K.Sink.written c.args.sink.now) (g.K.Sink.written c.write_entries.new.sink) c.args.self.now c.step.new.self c.args.event.now c.journal-made.result.now c.journal.result.now c.names.result.now c.entries_after-fresh.result.now c.in_ok-step.ensures.run c.journal-made.ensures c.journal.ensures c.names.ensures c.entries_after-fresh.ensures c.in_ok-step.ensures.ok w h)
    c.write_entries.ensures.written

pub returns-clause-stops : goal.returns-clause-stops
returns-clause-stops g c =
    IfErr-weaker c.write_entries.result _ _
    (λ end w report text before h.
    stops_at_event end text before report (g.K.Sink.written c.args.sink.now) (g.K.Sink.written c.write_entries.new.sink) c.args.self.now c.step.new.self c.args.event.now c.journal-made.result.now c.journal.result.now c.names.result.now c.entries_after-fresh.result.now c.in_ok-step.ensures.run c.journal-made.ensures c.journal.ensures c.names.ensures c.entries_after-fresh.ensures c.in_ok-step.ensures.ok w h)
    c.write_entries.ensures.stops
