use Rattle.std.specs.Prelude.{◌≡◌, ℕ, ⊤, List, [], Option, Some, length}
use Rattle.closed_ts.specs.Serving.{ServesByLease, ServesByClosure}
use Rattle.mr_base.specs.declared.ids.AttemptId.{AttemptId}
use Rattle.mr_base.specs.declared.ids.NodeId.{NodeId}
use Rattle.mr_base.specs.declared.ids.RangeId.{RangeId}
use Rattle.mr_base.specs.declared.messages.Known.{Known}
use Rattle.mr_base.specs.declared.spans.Span.{Span}
use Rattle.mr_base.specs.declared.timestamps.Ts.{Ts}
use Rattle.mvcc_range.specs.Answer.{GivesRows}
use Rattle.range_log.specs.Facts.{lease_of, closed_of, first_entries}
use Rattle.range_log.specs.declared.entries.Entry.{Entry}
use Rattle.range_log.specs.declared.entries.Lease.{Lease}
use Rattle.region_sql.specs.declared.one_column_forms.OneColumnStatement.{OneColumnStatement}
use Rattle.journal.specs.declared.entries.How.{How}
use Rattle.journal.specs.declared.entries.How.TheVariants as how
use Rattle.journal.specs.declared.entries.JournalEntry.{JournalEntry}
use Rattle.journal.specs.declared.entries.JournalEntry.TheVariants as entry
use Rattle.sql_eval.specs.OneColumnNextSpan.{AsksNext}
use Rattle.one_node_laws.specs.LinesRun.{LinesRun}
use Rattle.one_node_laws.specs.Steps.{IsStepOf}
use Rattle.one_node_laws.specs.Words.{Beginning, log_of, spans_served, the_node, the_range, the_first_boot}

-- A node may serve a read of a range by its lease or by what it has closed.
abbrev pub MayServe : How → List Entry → NodeId → Ts → Option ℕ → Type 0
MayServe how.Lease entries node at limit =
    (lease : Lease) × (lease_of entries ≡ Some lease) × ServesByLease lease node the_first_boot at limit
MayServe how.Closure entries node at limit = ServesByClosure (closed_of entries) at limit

-- A served read: its node may serve it, from all entries that the node has applied; it is at its
-- transaction's start and with its limit, of the span that its statement asks for next; it carries no fate,
-- since none was learned; and nothing in the log stands in the way of its rows.
pub record IsServed (s : LinesRun) (before : List JournalEntry) (a : AttemptId) (node : NodeId) (range : RangeId) (span : Span) (at : Ts) (limit : Option ℕ) (count : ℕ) (by : How) (known : List Known) : Type 0 where
  pub beginning : Beginning
  pub statement : OneColumnStatement
  pub step : IsStepOf s before beginning statement
  pub attempt : beginning.attempt ≡ a
  pub node_is : node ≡ the_node
  pub range_is : range ≡ the_range
  pub may_serve : MayServe by (first_entries count (log_of range before)) node at limit
  pub applied : count ≡ length (log_of range before)
  pub at_is : at ≡ beginning.start
  pub limit_is : limit ≡ beginning.limit
  pub asked : AsksNext statement (spans_served a before) span
  pub known_is : known ≡ []
  pub rows : GivesRows (first_entries count (log_of range before)) (record { attempt = a; span = span; at = at; limit = limit; known = known })

-- Served: each served read is so. (Leases, closed timestamps and reads: Taft et al., SIGMOD 2020, and
-- VanBenschoten et al., SIGMOD 2022.)
abbrev pub Served : LinesRun → List JournalEntry → JournalEntry → Type 0
Served s before (entry.Serve a node range span at limit count by known) = IsServed s before a node range span at limit count by known
Served s before e = ⊤
