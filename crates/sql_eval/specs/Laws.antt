-- The laws of lists of statements: what a list comes to over any part of a database is what executing it
-- gives. (This project's profile.)
use Rattle.std.specs.Prelude.{◌≡◌, ◌≢◌, ℕ, ◌+◌, ◌<◌, ⊤, List, [], ◌∷◌, ◌++◌, All, Any, Contains, Option, Some, None, IsSomeAnd, Result, Ok, Err, IfOk, IsOkAnd}
use Rattle.mr_base.specs.Scripts.{IsNearer, fed_with}
use Rattle.mr_base.specs.declared.ids.RangeId.{RangeId}
use Rattle.mr_base.specs.declared.results.StatementResult.{StatementResult}
use Rattle.mr_base.specs.declared.rows.Datum.{Datum}
use Rattle.mr_base.specs.declared.script.Fed.{Fed}
use Rattle.mr_base.specs.declared.spans.Ask.{Ask}
use Rattle.mr_base.specs.declared.spans.Pair.{Pair}
use Rattle.mr_base.specs.declared.spans.Write.{Write}
use Rattle.mr_base.specs.declared.states.SqlState.{SqlState}
use Rattle.region_sql.specs.TextLiterals.{TextsAreUtf8}
use Rattle.region_sql.specs.declared.row_statements.RowStatement.{RowStatement}
use Rattle.region_sql.specs.declared.row_statements.RowStatement.TheVariants.{Insert, Select, Update, Delete}
use Rattle.region_sql.specs.declared.row_statements.Term.{Term}
use Rattle.descriptors.specs.Contents.{Contents}
use Rattle.descriptors.specs.Sound.{IsSoundCatalog}
use Rattle.row_locality.specs.Plain.{Partition, PlainDatabase, IsSoundLayout, IsValid}
use Rattle.sql_eval.specs.Agreement.{Agrees, AreChanges}
use Rattle.sql_eval.specs.Evaluation.{ListOutcome, Setting, evaluation, partitions_of}
use Rattle.sql_eval.specs.Execution.{Named, exec, named_table, table_name}
use Rattle.sql_eval.specs.Lookups.{key_lookup, fixed_region, index_for}
use Rattle.sql_eval.specs.NextSpan.{next_span, phases_after, asks_after, writes_in}
use Rattle.sql_eval.specs.OwnWrites.{writes_of}
use Rattle.sql_eval.specs.Reads.{Reads, IsPartOf, served_reads}
use Rattle.sql_eval.specs.Search.{Evaluation, gives, faults, needs, ask_of}

-- The text literals of a list are UTF-8.
abbrev pub HaveTexts : Result (List RowStatement) SqlState → Type 0
HaveTexts list = IfOk list (All TextsAreUtf8)

-- A setting in which a list may run.
pub record IsSoundSetting (s : Setting) : Type 0 where
  pub layout : IsSoundLayout s.layout
  pub texts : HaveTexts s.list

-- ---- what a list comes to is executed

-- Executing the list on this database gives these answers, and changes exactly these writes.
abbrev pub GivesOn : Setting → PlainDatabase → ListOutcome → Type 0
GivesOn s d x = (after : PlainDatabase)
    × (exec s.layout.catalog s.region s.list d ≡ Ok (x.answers, after)) × AreChanges s.layout d after (writes_of x.own)

-- Executing the list on this database comes to the same.
abbrev pub IsExecuted : Setting → PlainDatabase → Evaluation ListOutcome → Type 0
IsExecuted s d (gives x) = GivesOn s d x
IsExecuted s d (faults e) = exec s.layout.catalog s.region s.list d ≡ Err e
IsExecuted s d (needs ask phases asks) = ⊤

-- What a list comes to after spans were fed is what executing it gives on every valid database that agrees.
abbrev pub EvaluationIsExecuted : Type 0
EvaluationIsExecuted = (s : Setting) (fed : List Fed) (d : PlainDatabase) → IsSoundSetting s → IsValid s.layout.catalog d
    → Agrees s.layout d fed → IsExecuted s d (evaluation s (served_reads fed))

-- ---- executing keeps databases valid

abbrev pub ExecKeepsValid : Type 0
ExecKeepsValid = (c : Contents) (gateway : List ℕ) (list : Result (List RowStatement) SqlState) (d after : PlainDatabase)
    (answers : List StatementResult) → IsSoundCatalog c → HaveTexts list → IsValid c d → exec c gateway list d ≡ Ok (answers, after) → IsValid c after

-- ---- more that is known changes nothing

abbrev pub StaysGiven : Type 0
StaysGiven = (s : Setting) (part whole : Reads) (x : ListOutcome) → IsPartOf part whole
    → evaluation s part ≡ gives x → evaluation s whole ≡ gives x

abbrev pub StaysFaulty : Type 0
StaysFaulty = (s : Setting) (part whole : Reads) (e : SqlState) → IsPartOf part whole
    → evaluation s part ≡ faults e → evaluation s whole ≡ faults e

-- What is fed besides is known besides.
abbrev pub FedIsKnown : Type 0
FedIsKnown = (fed more : List Fed) → IsPartOf (served_reads fed) (served_reads (fed ++ more))

-- ---- each answer brings the end nearer

abbrev pub AnswersBringNearer : Type 0
AnswersBringNearer = (s : Setting) (fed : List Fed) (ask : Ask) (rows : List Pair) → next_span s fed ≡ Some ask
    → IsNearer (phases_after s fed) (asks_after s fed)
    (phases_after s (fed ++ fed_with ask rows ∷ [])) (asks_after s (fed ++ fed_with ask rows ∷ []))

abbrev pub NeedsAreCounted : Type 0
NeedsAreCounted = (s : Setting) (fed : List Fed) (ask : Ask) → next_span s fed ≡ Some ask → 0 < phases_after s fed + asks_after s fed

-- ---- which spans are needed

-- What is known isn't needed again.
abbrev pub KnownIsNotNeeded : Type 0
KnownIsNotNeeded = (s : Setting) (fed : List Fed) (ask : Ask) → next_span s fed ≡ Some ask → served_reads fed ask ≡ None

-- The range is one of a table that the list names.
abbrev pub IsRangeOfList : Setting → RangeId → Type 0
IsRangeOfList s range = IsOkAnd s.list (Any (λ x.
    IsSomeAnd (named_table s.layout.catalog (table_name x)) (λ n. Any (λ p. p.range ≡ range) (partitions_of s.layout n))))

-- Each span that a list needs, and each key that it writes, is in a range of one of its tables.
abbrev pub NeedsAreOfTheTables : Type 0
NeedsAreOfTheTables = (s : Setting) (fed : List Fed) (ask : Ask) → next_span s fed ≡ Some ask → IsRangeOfList s ask.range

abbrev pub WritesAreOfTheTables : Type 0
WritesAreOfTheTables = (s : Setting) (fed : List Fed) (w : Write) → IsSoundSetting s
    → Contains (writes_in (evaluation s (served_reads fed))) w → IsRangeOfList s w.range

-- ---- near comes first

-- The terms of a SELECT or a DELETE.
abbrev pub search_terms : RowStatement → Option (List Term)
search_terms (Insert table names rows) = None
search_terms (Select table wanted terms) = Some terms
search_terms (Update table targets terms) = None
search_terms (Delete table terms) = Some terms

-- A list of one SELECT or DELETE that finds rows by an index in all partitions, one of which is near.
pub record IsNearSearch (s : Setting) (n : Named) (near : Partition) (x : ℕ × List Datum) : Type 0 where
  pub one : RowStatement
  pub terms : List Term
  pub list : s.list ≡ Ok (one ∷ [])
  pub kind : search_terms one ≡ Some terms
  pub table : named_table s.layout.catalog (table_name one) ≡ Some n
  pub index : index_for n.table terms ≡ Some x
  pub anywhere : fixed_region terms ≡ None
  pub partition : Contains (partitions_of s.layout n) near
  pub region : near.region ≡ Some s.region

-- Such a list needs a span of another partition only after the near one was served its key, and held no
-- pair of it. Source: CockroachDB's documentation of locality optimized search.
abbrev pub NearComesFirst : Type 0
NearComesFirst = (s : Setting) (n : Named) (near : Partition) (x : ℕ × List Datum) (fed : List Fed) (ask : Ask)
    → IsSoundSetting s → IsNearSearch s n near x → next_span s fed ≡ Some ask → ask.range ≢ near.range
    → served_reads fed (ask_of (key_lookup x.0 x.1 near)) ≡ Some []
