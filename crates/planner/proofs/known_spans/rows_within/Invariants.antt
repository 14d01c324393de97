use Rattle.std.proofs.Common.{◌≡◌, filter, take}
use Rattle.row_locality.specs.Spans.{is_in}
use Rattle.planner.proofs.known_spans.rows_within.Given as goal

abbrev pub invariant-loop-row : goal.invariant-loop-row
invariant-loop-row l = l.within ≡ filter (λ p. is_in l.span p.key) (take l.row-index l.rows)
