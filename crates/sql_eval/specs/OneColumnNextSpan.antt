use Rattle.std.specs.Prelude.{◌≡◌, List}
use Rattle.mr_base.specs.Spans.{IsInsideOne}
use Rattle.mr_base.specs.declared.spans.Span.{Span}
use Rattle.region_sql.specs.declared.one_column_forms.OneColumnStatement.{OneColumnStatement}
use Rattle.region_sql.specs.declared.one_column_forms.OneColumnStatement.TheVariants.{Insert, SelectAll}
use Rattle.row_locality.specs.OneColumnRows.{point_of, the_primary_keys}

-- What a statement reads: an INSERT looks its primary key up, and a SELECT reads all rows. (This project's
-- profile.)
abbrev pub span_of : OneColumnStatement → Span
span_of (Insert n) = point_of n
span_of SelectAll = the_primary_keys

-- After these spans were served a statement asks for this one next.
abbrev pub AsksNext : OneColumnStatement → List Span → Span → Type 0
AsksNext statement served span = (span ≡ span_of statement) × (¬ IsInsideOne span served)

-- After these spans were served a statement asks for none.
abbrev pub AsksNothing : OneColumnStatement → List Span → Type 0
AsksNothing statement served = IsInsideOne (span_of statement) served
