-- Rows that are read look-up by look-up, and put to others.
use Rattle.std.proofs.Common.{◌≡◌, ℕ, zero, suc, ◌+◌, ◌<◌, ◌≤◌, Bool, true, false, List, [], ◌∷◌, ◌++◌, drop, filter, get_or, length, refl, sym, ap, ◌∙◌}
use Rattle.std.specs.Prelude.{Option, Some, None, flat_map}
use Rattle.std.specs.FinMap.Entries.{by_order, put}
use Rattle.std.specs.List.{AllByRecursion}
use Rattle.std.specs.declared.cmp.Ordering.{Ordering}
use Rattle.std.specs.declared.cmp.Ordering.TheVariants.{Less, Equal, Greater}
use Rattle.std.proofs.lemmas.List.{at_drop_more, drop-drop, drop_all}
use Rattle.std.proofs.lemmas.List.Elements.{All-from_recursion}
use Rattle.mr_base.specs.declared.rows.Datum.{Datum}
use Rattle.mr_base.specs.declared.spans.Ask.{Ask}
use Rattle.region_sql.specs.declared.row_statements.Term.{Term}
use Rattle.descriptors.specs.Contents.{Contents}
use Rattle.descriptors.specs.declared.table.Table.{Table}
use Rattle.row_locality.specs.Pairs.{KeyValue, bytes_cmp, put_all}
use Rattle.row_locality.specs.Plain.{IsRowOf}
use Rattle.sql_eval.specs.Evaluation.{KeyedRow, rows_in}
use Rattle.sql_eval.specs.Reads.{Reads}
use Rattle.sql_eval.specs.RowWords.{matches}
use Rattle.sql_eval.specs.Search.{Evaluation, gives, faults, needs, ◌>>=◌, Answer, Lookup, after_answer, ask_of, behind, followed_by, search}
use Rattle.planner.specs.Phases.{AreKeyedRowsOf, IsLookupFor, followed_if, rest_of_scan, scanned_rows}
use Rattle.planner.specs.Scans.{LivesIn, scans}
use Rattle.planner.specs.Turns.{AreSame, IsNeeded}
use Rattle.planner.specs.declared.phases.RowScan.{RowScan}

-- ---- rows put to others

put_both : (ps qs es : List KeyedRow) → put_all (ps ++ qs) es ≡ put_all qs (put_all ps es)
put_both [] qs es = refl
put_both (p ∷ ps) qs es = put_both ps qs (put bytes_cmp p.0 p.1 es)

pub put_more : (ps qs es rows : List KeyedRow) → rows ≡ put_all ps es → put_all qs rows ≡ put_all (ps ++ qs) es
put_more ps qs es rows e = ap (put_all qs) e ∙ sym (put_both ps qs es)

-- a row that may stand in the table, put to such rows
put_by : (c : Contents) (t : Table) (key : List ℕ) (row : List Datum) (x : KeyedRow) (rows more : List KeyedRow) (o : Ordering) → IsRowOf c t row → AreKeyedRowsOf c t (x ∷ rows)
    → AreKeyedRowsOf c t more → AreKeyedRowsOf c t (by_order o ((key, row) ∷ x ∷ rows) ((x.0, row) ∷ rows) (x ∷ more))
put_by c t key row x rows more Less r h m = (r, h)
put_by c t key row x rows more Equal r h m = (r, h.1)
put_by c t key row x rows more Greater r h m = (h.0, m)

pub each_put : (c : Contents) (t : Table) (key : List ℕ) (row : List Datum) (rows : List KeyedRow) → IsRowOf c t row → AreKeyedRowsOf c t rows → AreKeyedRowsOf c t (put bytes_cmp key row rows)
each_put c t key row [] r h = (r, tt)
each_put c t key row (x ∷ rows) r h = put_by c t key row x rows (put bytes_cmp key row rows) (bytes_cmp key x.0) r h (each_put c t key row rows r h.1)

-- the regions of look-ups
pub lives_at : (c : Contents) (t : Table) (lookups : List Lookup) (i : ℕ) (d : Lookup) → i < length lookups → AllByRecursion (IsLookupFor c t) lookups
    → LivesIn c t (get_or lookups i d).partition.region
lives_at c t lookups i d h each = (All-from_recursion (IsLookupFor c t) lookups each i d h).lives

-- what holds of all holds of the last ones
pub dropped : {X : Type 0} (P : X → Type 0) (n : ℕ) (xs : List X) → AllByRecursion P xs → AllByRecursion P (drop n xs)
dropped P zero xs h = h
dropped P (suc n) [] h = tt
dropped P (suc n) (x ∷ xs) h = dropped P n xs h.1

-- ---- one look-up

abbrev put_answers : Table → List KeyedRow → List Answer → Evaluation (List KeyedRow)
put_answers t rows answers = gives (put_all (flat_map (rows_in t) answers) rows)

behind_read : (t : Table) (rows : List KeyedRow) (a : Answer) (rest : Evaluation (List Answer))
    → (behind a rest >>= put_answers t rows) ≡ (rest >>= put_answers t (put_all (rows_in t a) rows))
behind_read t rows a (gives answers) = ap (λ (x : List KeyedRow). gives x) (put_both (rows_in t a) (flat_map (rows_in t) answers) rows)
behind_read t rows a (faults e) = refl
behind_read t rows a (needs ask phases asks) = refl

scans_first : (t : Table) (l : Lookup) (ls : List Lookup) (rows : List KeyedRow) (reads : Reads) (o : Option (List KeyValue)) → reads (ask_of l) ≡ o
    → scans t (l ∷ ls) rows reads ≡ (after_answer (λ a. false) l (length (l ∷ ls)) o (search reads (λ a. false) ls) >>= put_answers t rows)
unfolding search
scans_first t l ls rows reads o e = ap (λ o. after_answer (λ a. false) l (length (l ∷ ls)) o (search reads (λ a. false) ls) >>= put_answers t rows) e

scans_nothing : (t : Table) (rows : List KeyedRow) (reads : Reads) → scans t [] rows reads ≡ gives rows
unfolding search
scans_nothing t rows reads = refl

module _ (known : Reads) (t : Table) (lookups : List Lookup) (rows : List KeyedRow) (whole : Reads → Evaluation (List KeyedRow)) (i : ℕ) where
  module _ (d : Lookup) (h : i < length lookups) where
    abbrev l : Lookup
    l = get_or lookups i d

    split : (reads : Reads) → scans t (drop i lookups) rows reads ≡ scans t (l ∷ drop (i + 1) lookups) rows reads
    split reads = at_drop_more (λ ls. scans t ls rows reads) lookups i d h

    -- its rows are read
    pub reads_one : (pairs : List KeyValue) (new : List KeyedRow) → known (ask_of l) ≡ Some pairs → new ≡ put_all (rows_in t (l, pairs)) rows
        → AreSame known whole (scans t (drop i lookups) rows) → AreSame known whole (scans t (drop (i + 1) lookups) new)
    reads_one pairs new k e s = λ reads part.
        s reads part ∙ split reads
        ∙ scans_first t l (drop (i + 1) lookups) rows reads (Some pairs) (part (ask_of l) pairs k)
        ∙ behind_read t rows (l, pairs) (search reads (λ a. false) (drop (i + 1) lookups))
        ∙ ap (λ (x : List KeyedRow). scans t (drop (i + 1) lookups) x reads) (sym e)

    -- it isn't known
    pub needs_one : known (ask_of l) ≡ None → IsNeeded (scans t (drop i lookups) rows known) (ask_of l)
    needs_one k = (0, length (l ∷ drop (i + 1) lookups), split known ∙ scans_first t l (drop (i + 1) lookups) rows known None k)

  -- none is left
  pub reads_all : length lookups ≤ i → AreSame known whole (scans t (drop i lookups) rows) → AreSame known whole (λ reads. gives rows)
  reads_all h s = λ reads part. s reads part ∙ ap (λ (ls : List Lookup). scans t ls rows reads) (drop_all i lookups h) ∙ scans_nothing t rows reads

-- ---- what is left of a scan

abbrev shown : Table → List Term → List KeyedRow → Evaluation (List KeyedRow)
shown t terms rows = gives (filter (λ x. matches t terms x.1) rows)

scanned_by : (b : Bool) (t : Table) (terms : List Term) (rows : List KeyedRow) (e : Evaluation (List Answer))
    → (followed_if b e >>= λ answers. gives (scanned_rows t terms rows answers)) ≡ (followed_if b (e >>= put_answers t rows) >>= shown t terms)
scanned_by true t terms rows (gives answers) = refl
scanned_by true t terms rows (faults e) = refl
scanned_by true t terms rows (needs ask phases asks) = refl
scanned_by false t terms rows (gives answers) = refl
scanned_by false t terms rows (faults e) = refl
scanned_by false t terms rows (needs ask phases asks) = refl

scan_shown : (t : Table) (terms : List Term) (w : RowScan) (reads : Reads) → rest_of_scan reads t terms w ≡ (followed_if w.is_first (scans t (drop w.passed w.lookups) w.rows reads) >>= shown t terms)
scan_shown t terms w reads = scanned_by w.is_first t terms w.rows (search reads (λ a. false) (drop w.passed w.lookups))

given_shown : (b : Bool) (t : Table) (terms : List Term) (rows : List KeyedRow) → (followed_if b (gives rows) >>= shown t terms) ≡ gives (scanned_rows t terms rows [])
given_shown true t terms rows = refl
given_shown false t terms rows = refl

needed_shown : (b : Bool) (t : Table) (terms : List Term) (e : Evaluation (List KeyedRow)) (ask : Ask) → IsNeeded e ask → IsNeeded (followed_if b e >>= shown t terms) ask
needed_shown true t terms e ask (phases, asks, h) = (phases + 1, asks, ap (λ (x : Evaluation (List KeyedRow)). followed_by 1 x >>= shown t terms) h)
needed_shown false t terms e ask (phases, asks, h) = (phases, asks, ap (λ (x : Evaluation (List KeyedRow)). x >>= shown t terms) h)

module _ (known : Reads) (t : Table) (w : RowScan) (new : List KeyedRow) where
  -- all rows are read
  pub scan_ends : AreSame known (scans t (drop w.passed w.lookups) w.rows) (λ reads. gives new) → (terms : List Term)
      → AreSame known (λ reads. rest_of_scan reads t terms w) (λ reads. gives (scanned_rows t terms new []))
  scan_ends s = λ terms reads part.
      scan_shown t terms w reads
      ∙ ap (λ (x : Evaluation (List KeyedRow)). followed_if w.is_first x >>= shown t terms) (s reads part)
      ∙ given_shown w.is_first t terms new

  abbrev further : ℕ → RowScan
  further more = record { is_first = w.is_first; lookups = w.lookups; passed = w.passed + more; rows = new }

  left : (more : ℕ) (reads : Reads) → scans t (drop more (drop w.passed w.lookups)) new reads ≡ scans t (drop (w.passed + more) w.lookups) new reads
  left more reads = ap (λ (ls : List Lookup). scans t ls new reads) (drop-drop more w.passed w.lookups)

  -- more rows are read
  pub scan_same : (more : ℕ) → AreSame known (scans t (drop w.passed w.lookups) w.rows) (scans t (drop more (drop w.passed w.lookups)) new) → (terms : List Term)
      → AreSame known (λ reads. rest_of_scan reads t terms w) (λ reads. rest_of_scan reads t terms (further more))
  scan_same more s = λ terms reads part.
      scan_shown t terms w reads
      ∙ ap (λ (x : Evaluation (List KeyedRow)). followed_if w.is_first x >>= shown t terms) (s reads part ∙ left more reads)
      ∙ sym (scan_shown t terms (further more) reads)

  pub scan_needs : (more : ℕ) (ask : Ask) → IsNeeded (scans t (drop more (drop w.passed w.lookups)) new known) ask → (terms : List Term) → IsNeeded (rest_of_scan known t terms (further more)) ask
  scan_needs more ask n = λ terms.
      let m = needed_shown w.is_first t terms (scans t (drop more (drop w.passed w.lookups)) new known) ask n in
      (m.0, m.1, scan_shown t terms (further more) known ∙ ap (λ (x : Evaluation (List KeyedRow)). followed_if w.is_first x >>= shown t terms) (sym (left more known)) ∙ m.2)
