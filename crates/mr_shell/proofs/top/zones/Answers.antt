use Rattle.std.proofs.Common.{List, [], ap, refl, sym, ◌∙◌, subst}
use Rattle.journal.specs.declared.entries.JournalEntry.{JournalEntry}
use Rattle.journal_text.specs.declared.modes.Mode.TheVariants.{Answers}
use Rattle.zone_report.specs.Report.{report_text}
use Rattle.zone_report.specs.Statements.{Zoned}
use Rattle.mr_shell.specs.Ends.{status_of}
use Rattle.mr_shell.specs.Texts.{WritesPart, report_to}
use Rattle.mr_shell.specs.ZonesEnded.{zones_course, zones_text}
use Rattle.mr_shell.specs.ZonesSession.{HasRunZones, StopsAtZones}
use Rattle.mr_shell.proofs.LineEnds.{ended, whole_ended}
use Rattle.mr_shell.proofs.top.zones.Goals as goal
use Rattle.mr_shell.proofs.top.zones.Goals.{in-Ok, in-Err}

pub returns-clause-ended : goal.returns-clause-ended
returns-clause-ended g c =
    let start = g.K.Sink.written c.args.sink.now in
    let report = report_to Answers start in
    let text = zones_text c.args.format in
    let unread = c.new-session.ensures.unread start in
    let left = g.S.Source.left c.run_source.new.source in
    let mid = g.K.Sink.written c.run_source.new.sink in
    elim c.match-run_source.branch [
      | in-Ok w ↦
          let t = w.in-Ok.ensures.whole report unread in
          let run = t.2.3 in
          let written = g.K.Sink.written w.write_report-end.new.sink in
          let end = w.write_report-end.result in
          record {
            end = end;
            taken = t.0;
            status = c.status-status.ensures ∙ ap status_of w.end-is;
            told = t.1;
            ended = rw (c.new.ensures, w.sink-is)
                (whole_ended zones_course text end t.0 left t.2.0 run.story [] start mid written (record { tells = run.tells; made = refl }) t.2.1 t.2.2 run.holds.text
                (subst (λ (z : Zoned). WritesPart end (report_text c.args.format z) mid written) (sym run.holds.zoned) w.write_report-end.ensures.writes));
          }
      | in-Err w ↦
          let t = w.in-Err.ensures.stops report unread in
          record {
            end = w.say-end.result;
            taken = t.0;
            status = c.status-status.ensures ∙ ap status_of w.end-is;
            told = t.1;
            ended = rw (c.new.ensures, w.sink-is)
                (ended (λ lines s m. HasRunZones start lines s m) (λ e line lines s m. StopsAtZones start e line lines m) zones_course text (λ s. []) start
                (λ lines s m run. (run.story, record { tells = run.tells; made = refl }, run.holds.text))
                (λ e line lines s m h. h) w.in-Err.end w.say-end.result t.0 left c.run_source.new.runner mid (g.K.Sink.written w.say-end.new.sink) w.in-Err.ensures.ends t.2 w.say-end.ensures.says);
          }
    ]
