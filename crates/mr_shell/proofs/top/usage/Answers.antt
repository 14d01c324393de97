use Rattle.std.proofs.Common.{List, [], ℕ, ap, ◌∙◌, inl, inr, subst}
use Rattle.mr_shell.specs.Ends.{status_of}
use Rattle.mr_shell.specs.Texts.{Wrote, WrotePart}
use Rattle.mr_shell.proofs.top.usage.Goals as goal
use Rattle.mr_shell.proofs.top.usage.Goals.{in-Ok, in-Err}

pub returns-clause-line : goal.returns-clause-line
returns-clause-line g c =
    let start = g.K.Sink.written c.args.sink.now in
    let written = g.K.Sink.written c.write_text.new.sink in
    elim c.match-write_text.branch [
      | in-Ok w ↦ inl (c.status-status.ensures ∙ ap status_of w.end-is, subst (λ (text : List ℕ). Wrote start written text) c.as_bytes.ensures.value w.in-Ok.ensures.whole)
      | in-Err w ↦ inr (inl (c.status-status.ensures ∙ ap status_of (w.end-is ∙ w.in-Err.ensures.ends), subst (WrotePart start written []) c.as_bytes.ensures.value w.in-Err.ensures.part))
    ]
