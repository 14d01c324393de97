use Rattle.std.proofs.Common.{◌≡◌, subst}
use Rattle.std.specs.Prelude.{IfOk}
use Rattle.row_locality.specs.Spans.{point_of}
use Rattle.row_locality.proofs.RowSpanLemmas.{point_rows}
use Rattle.row_locality.proofs.row_spans.point.Goals as goal

pub returns-clause-rows : goal.returns-clause-rows
returns-clause-rows c =
    point_rows c.args.t.now c.args.key.now c.span_of_key.result c.requires.sound c.requires.key (subst (λ key. IfOk c.span_of_key.result (λ s. s ≡ point_of key)) c.in_ok-key_of_values.ensures c.span_of_key.ensures)
