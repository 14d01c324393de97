use Rattle.local_search.proofs.IndexColumns.{number_of_column}
use Rattle.local_search.proofs.index_columns.unique_column.Goals as goal

pub returns-clause-number : goal.returns-clause-number
returns-clause-number c =
    number_of_column c.args.t.now c.args.index c.as_slice.result.now c.requires.sound c.requires.secondary c.requires.index c.as_slice.ensures
