use Rattle.row_locality.proofs.RowSpanLemmas.{number_of}
use Rattle.row_locality.proofs.row_spans.index_of.Goals as goal

pub returns : goal.returns
returns c = number_of c.args.column c.args.t.now.unique c.as_slice-columns.result.now c.place_of.result c.unwrap_or-place.result c.as_slice-columns.ensures c.place_of.ensures c.unwrap_or-place.ensures
