use Rattle.std.specs.Prelude.{◌≡◌, ℤ, ◌+◌, Option, Some, IsTrue, false}
use Rattle.std.specs.BTreeSet.{contains, insert_key}
use Rattle.std.specs.Ordering.{int_cmp}
use Rattle.closed_ts.specs.Serving.{ServesByLease}
use Rattle.range_log.specs.declared.entries.Lease.{Lease}
use Rattle.region_sql.specs.declared.one_column_forms.OneColumnStatement.{OneColumnStatement}
use Rattle.region_sql.specs.declared.one_column_forms.OneColumnStatement.TheVariants.{Insert, SelectAll}
use Rattle.one_node.specs.declared.courses.Course.{Course}
use Rattle.one_node.specs.declared.courses.Course.TheVariants as courses
use Rattle.one_node.specs.declared.range.Range.{Range}
use Rattle.one_node.specs.declared.transaction.Begun.{Begun}
use Rattle.one_node_laws.specs.Words.{the_node, the_first_boot}

-- The node may serve the transaction's reads by the last lease.
abbrev pub IsServable : Option Lease → Begun → Type 0
IsServable last b = (lease : Lease) × (last ≡ Some lease) × ServesByLease lease the_node the_first_boot b.start (Some b.limit)

-- A transaction with this statement goes so.
abbrev pub Goes : Range → Begun → OneColumnStatement → Course → Type 0
Goes range b s courses.Unserved = ¬ IsServable range.lease b
Goes range b s (courses.Duplicate n) = IsServable range.lease b × (s ≡ Insert n) × IsTrue (contains int_cmp range.ids n)
Goes range b s (courses.Inserts n) = IsServable range.lease b × (s ≡ Insert n) × (contains int_cmp range.ids n ≡ false)
Goes range b s courses.Selects = IsServable range.lease b × (s ≡ SelectAll)

-- What is kept once a transaction went so: an INSERT adds its row, and three entries to the log.
pub record IsAdded (old : Range) (n : ℤ) (new : Range) : Type 0 where
  pub lease : new.lease ≡ old.lease
  pub length : new.length ≡ old.length + 3
  pub ids : new.ids.keys ≡ insert_key int_cmp old.ids.keys n
  pub floor : new.floor ≡ old.floor

abbrev pub IsTakenIn : Range → Course → Range → Type 0
IsTakenIn old (courses.Inserts n) new = IsAdded old n new
IsTakenIn old course new = new ≡ old
