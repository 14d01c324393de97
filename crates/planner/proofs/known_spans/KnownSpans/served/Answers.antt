use Rattle.std.proofs.Common.{List, filter, sym, ap, ◌∙◌}
use Rattle.std.specs.Option.{option_copied}
use Rattle.mr_base.specs.declared.spans.Pair.{Pair}
use Rattle.row_locality.specs.Spans.{is_in}
use Rattle.planner.proofs.ServedLemmas.{none_served, served_rows}
use Rattle.planner.proofs.known_spans.KnownSpans.served.Goals as goal

pub returns-in-None : goal.returns-in-None
returns-in-None c = none_served c.args.self.now c.args.ask.now (sym (ap option_copied c.in-None.is) ∙ c.in_ok-first_covering.ensures)

pub returns-in_ok-rows_within-in-Some : goal.returns-in_ok-rows_within-in-Some
returns-in_ok-rows_within-in-Some c =
    served_rows c.args.self.now c.args.ask.now c.in-Some.fed.now c.in_ok-rows_within-in-Some.field-0
    (sym (ap option_copied c.in-Some.is) ∙ c.in_ok-first_covering.ensures)
    (c.in_ok-rows_within-in-Some.ensures ∙ ap (λ (rows : List Pair). filter (λ p. is_in c.args.ask.now.span p.key) rows) c.as_slice.ensures)
