use Rattle.row_locality.proofs.FrontLemmas.{bytes_from_all}
use Rattle.row_locality.proofs.RowLemmas.{row_takes}
use Rattle.row_locality.proofs.reading_laws.what_is_read_is_spelled.Goals as goal

pub returns : goal.returns
returns c = λ t region row p for_it bytes e. row_takes t region p row for_it (bytes_from_all p.1 bytes) e
