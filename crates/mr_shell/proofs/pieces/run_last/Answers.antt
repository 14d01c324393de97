use Rattle.std.proofs.Common.{sym, ◌∙◌}
use Rattle.std.proofs.lemmas.Result.{on_ok_weaker}
use Rattle.mr_shell.proofs.StopLemmas.{IfErr-both, not_empty, stops_last, whole_with_last}
use Rattle.mr_shell.proofs.pieces.run_last.Goals as goal

pub returns-clause-whole : goal.returns-clause-whole
returns-clause-whole g c =
    on_ok_weaker c.run_next.result
    (λ runs report taken left h at_end within.
    whole_with_last (g.R.Runner.has_run report) (g.R.Runner.stops_at report) taken h.lines left c.run_next.new.self c.args.pending.now (g.K.Sink.written c.run_next.new.sink) h.cut at_end within (not_empty c.args.pending.now (sym c.is_empty.ensures ∙ c.if-is_empty.false)) (runs report h.lines h.run))
    c.run_next.ensures.runs

pub returns-clause-stops : goal.returns-clause-stops
returns-clause-stops g c =
    IfErr-both c.run_next.result _ _ _
    (λ end stops is report taken left h at_end within.
    stops_last (g.R.Runner.has_run report) (g.R.Runner.stops_at report) end taken h.lines left c.args.pending.now c.run_next.new.self (g.K.Sink.written c.run_next.new.sink) is h.cut at_end within (not_empty c.args.pending.now (sym c.is_empty.ensures ∙ c.if-is_empty.false)) (stops report h.lines h.run))
    c.run_next.ensures.stops c.run_next.ensures.ends
