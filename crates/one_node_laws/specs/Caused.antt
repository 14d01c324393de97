use Rattle.std.specs.Prelude.{◌≡◌, ⊤, List, [], ◌∷◌}
use Rattle.mr_base.specs.declared.ids.RangeId.{RangeId}
use Rattle.mr_base.specs.declared.ids.TxnId.{TxnId}
use Rattle.mr_base.specs.declared.spans.Span.{Span}
use Rattle.region_sql.specs.declared.one_column_forms.OneColumnStatement.{OneColumnStatement}
use Rattle.journal.specs.declared.entries.How.{How}
use Rattle.journal.specs.declared.entries.JournalEntry.{JournalEntry}
use Rattle.journal.specs.declared.entries.JournalEntry.TheVariants as entry
use Rattle.journal.specs.declared.entries.Why.TheVariants as why
use Rattle.sql_eval.specs.OneColumnNextSpan.{AsksNext}
use Rattle.one_node_laws.specs.LinesRun.{LinesRun}
use Rattle.one_node_laws.specs.Served.{MayServe}
use Rattle.one_node_laws.specs.Steps.{IsStepOf}
use Rattle.one_node_laws.specs.Words.{Beginning, log_of, spans_served, the_node, the_range}

-- No replica serves: the transaction asks for a further span, and the one replica may not serve it.
pub record HasNoLease (s : LinesRun) (before : List JournalEntry) (t : TxnId) (range : RangeId) : Type 0 where
  pub beginning : Beginning
  pub statement : OneColumnStatement
  pub step : IsStepOf s before beginning statement
  pub txn : beginning.txn ≡ t
  pub range_is : range ≡ the_range
  pub span : Span
  pub asked : AsksNext statement (spans_served beginning.attempt before) span
  pub unserved : (by : How) → ¬ MayServe by (log_of range before) the_node beginning.start beginning.limit

-- A refusal is shown by its cause. On one node none but this comes.
abbrev pub Cause : LinesRun → List JournalEntry → JournalEntry → Type 0
Cause s before (entry.Refuse t (why.NoLease range)) = HasNoLease s before t range
Cause s before (entry.Refuse t w) = ⊥
Cause s before e = ⊤

-- Caused: each refusal in a journal is.
abbrev pub IsCaused : LinesRun → List JournalEntry → Type 0
IsCaused s [] = ⊤
IsCaused s (e ∷ before) = Cause s before e × IsCaused s before
