use Rattle.row_locality.proofs.RowLemmas.{row_again, written_again}
use Rattle.row_locality.proofs.reading_laws.what_is_spelled_is_read.Goals as goal

pub returns : goal.returns
returns c = record { of_pairs = λ t region row p. row_again t region p row; of_rows = written_again }
