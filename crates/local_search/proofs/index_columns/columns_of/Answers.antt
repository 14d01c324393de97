use Rattle.local_search.proofs.IndexColumns.{columns_of_unique}
use Rattle.local_search.proofs.index_columns.columns_of.Goals as goal

pub returns : goal.returns
returns c =
    columns_of_unique c.args.t.now c.args.index c.as_slice-2.result.now c.from_ref.result.now c.if-index-eq0.false c.requires c.as_slice-2.ensures c.from_ref.ensures.value
