use Rattle.std.proofs.Common.{◌≡◌, ap₂, sym, subst, arith}
use Rattle.std.specs.Prelude.{IfOk}
use Rattle.row_locality.specs.Keys.{index_key}
use Rattle.row_locality.specs.Spans.{point_of}
use Rattle.local_search.proofs.IndexColumns.{one_value, value_is_typed, values_are_one}
use Rattle.local_search.proofs.index_columns.key_span.Goals as goal

pub bounds-values-0 : goal.bounds-values-0
bounds-values-0 c =
    omega (arith, one_value c.args.t.now c.args.index c.unique_column.result c.args.values.now c.requires.sound c.unique_column.ensures.unique c.unique_column.ensures.number c.requires.typed)

pub unique_span-requires-clause-value : goal.unique_span-requires-clause-value
unique_span-requires-clause-value c =
    value_is_typed c.args.t.now c.args.index c.unique_column.result c.args.values.now c.index-values-0.result c.requires.sound c.unique_column.ensures.unique c.unique_column.ensures.number c.requires.typed c.index-values-0.is

pub returns : goal.returns
returns c =
    let one = values_are_one c.args.t.now c.args.index c.unique_column.result c.args.values.now c.index-values-0.result c.requires.sound c.unique_column.ensures.unique c.unique_column.ensures.number c.requires.typed c.index-values-0.is in
    subst (λ key. IfOk c.unique_span.result (λ s. s ≡ point_of key)) (ap₂ index_key c.unique_column.ensures.number (sym one)) c.unique_span.ensures.span
