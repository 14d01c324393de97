use Rattle.std.proofs.Common.{ap, ◌∙◌}
use Rattle.mr_io.proofs.Told.{append_known-nil}
use Rattle.mr_shell.specs.Ends.{status_of}
use Rattle.mr_shell.specs.RunEnded.{run_course, run_text}
use Rattle.mr_shell.specs.Session.{HasRun, StopsAt}
use Rattle.mr_shell.specs.Texts.{report_to}
use Rattle.mr_shell.specs.declared.outcome.End.TheVariants as ends
use Rattle.mr_shell.proofs.LineEnds.{ended, whole_ended}
use Rattle.mr_shell.proofs.RunLemmas.{shows_all}
use Rattle.mr_shell.proofs.top.run.Goals as goal
use Rattle.mr_shell.proofs.top.run.Goals.{in-Ok, in-Err}

pub returns-clause-ended : goal.returns-clause-ended
returns-clause-ended g c =
    let start = g.K.Sink.written c.args.sink.now in
    let report = report_to c.args.mode start in
    let text = run_text c.args.mode in
    let unread = c.new-session.ensures.unread start in
    let left = g.S.Source.left c.run_source.new.source in
    let mid = g.K.Sink.written c.run_source.new.sink in
    let session = c.run_source.new.runner in
    elim c.match-run_source.branch [
      | in-Ok w ↦
          let t = w.in-Ok.ensures.whole report unread in
          let run = t.2.3 in
          let s = shows_all t.2.0 run.story session.settings session.cluster report mid run.tells run.follows in
          record {
            end = ends.Whole;
            taken = t.0;
            status = c.status.ensures ∙ ap status_of w.end-is;
            told = t.1;
            ended = rw (c.into_journal.ensures, w.sink-is) (whole_ended run_course text ends.Whole t.0 left t.2.0 s.0 session.cluster.journal start mid mid s.1 t.2.1 t.2.2 s.2 (append_known-nil mid));
          }
      | in-Err w ↦
          let t = w.in-Err.ensures.stops report unread in
          record {
            end = w.say-end.result;
            taken = t.0;
            status = c.status.ensures ∙ ap status_of w.end-is;
            told = t.1;
            ended = rw (c.into_journal.ensures, w.sink-is)
                (ended (λ lines s m. HasRun report lines s m) (λ e line lines s m. StopsAt report e line lines s.cluster.journal m) run_course text (λ s. s.cluster.journal) start
                (λ lines s m run. shows_all lines run.story s.settings s.cluster report m run.tells run.follows)
                (λ e line lines s m h. h) w.in-Err.end w.say-end.result t.0 left session mid (g.K.Sink.written w.say-end.new.sink) w.in-Err.ensures.ends t.2 w.say-end.ensures.says);
          }
    ]
