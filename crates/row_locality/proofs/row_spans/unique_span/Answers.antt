use Rattle.std.proofs.Common.{◌≡◌, ◌∙◌, ap₂, subst}
use Rattle.std.specs.Prelude.{IfOk}
use Rattle.row_locality.specs.Keys.{index_key}
use Rattle.row_locality.specs.Spans.{point_of}
use Rattle.row_locality.proofs.EncodingLemmas.{few_unique}
use Rattle.row_locality.proofs.RowSpanLemmas.{unique_rows}
use Rattle.row_locality.proofs.row_spans.unique_span.Goals as goal

pub index_of-number-requires : goal.index_of-number-requires
index_of-number-requires c = few_unique c.args.t.now c.requires.sound

pub returns-clause-rows : goal.returns-clause-rows
returns-clause-rows c =
    let key-is = c.in_ok-key_of_values.ensures ∙ ap₂ index_key c.index_of-number.ensures c.from_ref.ensures.value in
    unique_rows c.args.t.now c.args.column c.args.v.now c.span_of_key.result c.requires.sound c.requires.column c.requires.value
    (subst (λ key. IfOk c.span_of_key.result (λ s. s ≡ point_of key)) key-is c.span_of_key.ensures)
