-- What a list writes is in ranges of its tables.
use Rattle.std.proofs.Common.{◌≡◌, ℕ, zero, suc, ◌+◌, ◌*◌, ◌<◌, Bool, true, false, List, [], ◌∷◌, length, refl, sym, ap, subst, arith}
use Rattle.std.specs.Prelude.{⊤, ◌≢◌, if◌then◌else◌, Any, Contains, filter_map, map, position, unwrap_or, Option, Some, None, option_and_then, Result, Ok, Err}
use Rattle.std.specs.FinMap.Entries.{put, by_order}
use Rattle.std.specs.List.{AllByRecursion, cons_option, enumerate_from}
use Rattle.std.specs.Option.{option_map_or, option_eq}
use Rattle.std.specs.Str.{bytes_eq}
use Rattle.std.specs.declared.cmp.Ordering.{Ordering}
use Rattle.std.specs.declared.cmp.Ordering.TheVariants.{Less, Equal, Greater}
use Rattle.std.proofs.lemmas.List.{length-map}
use Rattle.std.proofs.lemmas.List.Elements.{recursion_from_All, All-contains_itself}
use Rattle.std.proofs.lemmas.List.Quantifiers.{position-Some}
use Rattle.mr_base.specs.declared.ids.RangeId.{RangeId}
use Rattle.mr_base.specs.declared.rows.Datum.{Datum}
use Rattle.mr_base.specs.declared.spans.Write.{Write}
use Rattle.mr_base.specs.declared.states.SqlState.{SqlState}
use Rattle.mr_base.specs.declared.states.SqlState.TheVariants.{S42P01}
use Rattle.region_sql.specs.declared.region_statements.Locality.{Locality}
use Rattle.region_sql.specs.declared.region_statements.Locality.TheVariants.{InPrimary, InRegion, ByRow, Global}
use Rattle.region_sql.specs.declared.row_statements.RowStatement.{RowStatement}
use Rattle.region_sql.specs.declared.row_statements.RowStatement.TheVariants.{Insert, Select, Update, Delete}
use Rattle.descriptors.specs.Contents.{Contents}
use Rattle.descriptors.specs.Sound.{FitsRegions, IsSoundAmong, IsSoundCatalog}
use Rattle.row_locality.specs.Pairs.{pairs_of}
use Rattle.row_locality.specs.Plain.{Layout, Partition, range_at, range_of, partition_of, partition_regions, regions_of}
use Rattle.row_locality.specs.Rows.{is_by_row, lives_by_row}
use Rattle.sql_eval.specs.Evaluation.{Outcome, ListOutcome, Setting, additions, additions_of, removals, removals_of, rows_of, found_rows, if_free, table_outcome, unless, checked_outcome, statement_outcome, list_outcome, evaluation, partitions_of}
use Rattle.sql_eval.specs.Execution.{Named, named_table, table_name, rows_answer}
use Rattle.sql_eval.specs.Faults.{check_fault}
use Rattle.sql_eval.specs.Laws.{IsRangeOfList, WritesAreOfTheTables}
use Rattle.sql_eval.specs.Lookups.{new_row_lookups, changed_row_lookups}
use Rattle.sql_eval.specs.NextSpan.{writes_in}
use Rattle.sql_eval.specs.OwnWrites.{OwnWrite, OwnWrites, FirstAndLast, Place, removal, addition, place_cmp, with_write, with_writes, reads_through, write_at, writes_of}
use Rattle.sql_eval.specs.Reads.{Reads, served_reads}
use Rattle.sql_eval.specs.RowWords.{default_region, made_rows, changed_rows, shown_rows}
use Rattle.sql_eval.specs.Search.{Evaluation, gives, faults, needs, ◌>>=◌, followed_by, of_result}
use Rattle.answer_laws.proofs.Evaluations.{Gives, gives_any, gives_bind, gives_followed}
use Rattle.answer_laws.proofs.KeepsValid.{IsNamed, is_named}
use Rattle.answer_laws.proofs.LawsOfNeeds.{of_list}
use Rattle.answer_laws.proofs.Lists.{each, each_weaker, each_append, each_flat_map, each_map}
use Rattle.answer_laws.proofs.Members.{has_itself, each_has}
use Rattle.answer_laws.proofs.MoreMembers.{got_has}

-- ---- a row's range is that of a partition

any_later : {X : Type 0} (P : X → Type 0) (x : X) (xs : List X) → Any P xs → Any P (x ∷ xs)
any_later P x xs (k, y, l, e, p) = (suc k, y, omega arith, e, p)

numbered : (l : Layout) (place k j i : ℕ) (rs : List (Option (List ℕ))) → j < length rs → i ≡ k + j
    → Any (λ (p : Partition). p.range ≡ range_at l place i) (map (λ x. record { range = range_at l place x.0; region = x.1 }) (enumerate_from k rs))
numbered l place k j i [] h e = absurd (omega arith)
numbered l place k zero i (r ∷ rs) h e =
    let same : k ≡ i = omega arith in
    (0, record { range = range_at l place k; region = r }, omega arith, refl, ap (range_at l place) same)
numbered l place k (suc j) i (r ∷ rs) h e =
    any_later (λ (p : Partition). p.range ≡ range_at l place i) (record { range = range_at l place k; region = r }) _
    (numbered l place (k + 1) j i rs (omega arith) (omega arith))

some_length : {X : Type 0} (xs : List X) → xs ≢ [] → 0 < length xs
some_length [] h = absurd (h refl)
some_length (x ∷ xs) h = omega arith

placed : (rs : List (List ℕ)) (o : Option ℕ) → ((i : ℕ) → o ≡ Some i → i < length rs) → 0 < length rs → unwrap_or o 0 < length rs
placed rs None h k = k
placed rs (Some i) h k = h i refl

place_of_region : (rs : List (List ℕ)) (o : Option (List ℕ)) → 0 < length rs → unwrap_or (option_and_then (λ region. position (bytes_eq region) rs) o) 0 < length rs
place_of_region rs None h = h
place_of_region rs (Some region) h = placed rs (position (bytes_eq region) rs) (λ i e. (position-Some (bytes_eq region) rs i [] e).0) h

pub place_below : (b : Bool) (rs : List (List ℕ)) (o : Option (List ℕ)) → (b ≡ true → rs ≢ [])
    → unwrap_or (option_and_then (λ region. position (bytes_eq region) rs) (if b then o else None)) 0 < length (if b then map (λ r. Some r) rs else None ∷ [])
place_below true rs o h =
    let some : 0 < length rs = some_length rs (h refl) in
    let below : unwrap_or (option_and_then (λ region. position (bytes_eq region) rs) o) 0 < length rs = place_of_region rs o some in
    omega (arith, length-map rs (λ (r : List ℕ). Some r))
place_below false rs o h = omega arith

regions_by : (rs : List (List ℕ)) (locality : Option Locality) → FitsRegions rs locality → lives_by_row locality ≡ true → rs ≢ []
regions_by rs None f e = absurd (cc)
regions_by rs (Some InPrimary) f e = absurd (cc)
regions_by rs (Some (InRegion region)) f e = absurd (cc)
regions_by rs (Some ByRow) f e = f
regions_by rs (Some Global) f e = absurd (cc)

-- a REGIONAL BY ROW table has regions
pub some_regions : (c : Contents) (n : Named) → IsSoundCatalog c → IsNamed c n → is_by_row n.table ≡ true → regions_of c n.table ≢ []
some_regions c n h i e =
    let r : IsSoundAmong c.databases n.table = each_has (IsSoundAmong c.databases) n.table c.tables (recursion_from_All (IsSoundAmong c.databases) c.tables h.tables) (got_has c.tables n.place n.table i.at) in
    subst (λ o. option_map_or (λ d. d.regions) o [] ≢ []) (sym r.1) (regions_by r.0.regions n.table.locality r.2.locality e)

pub row_is_in_partition : (l : Layout) (n : Named) (row : List Datum) → IsSoundCatalog l.catalog → IsNamed l.catalog n
    → Any (λ (p : Partition). p.range ≡ range_of l n.place n.table row) (partitions_of l n)
row_is_in_partition l n row h i =
    numbered l n.place 0 (partition_of l.catalog n.table row) (partition_of l.catalog n.table row) (partition_regions l.catalog n.table)
    (place_below (is_by_row n.table) (regions_of l.catalog n.table) _ (some_regions l.catalog n h i)) (omega arith)

-- ---- what statements write

abbrev WritesIn : (RangeId → Type 0) → Outcome → Type 0
WritesIn Q x = AllByRecursion (λ w. Q w.range) x.writes

removals_in : (Q : RangeId → Type 0) (l : Layout) (n : Named) (rows : List (List Datum)) → ((row : List Datum) → Q (range_of l n.place n.table row))
    → AllByRecursion (λ w. Q w.range) (removals l n rows)
removals_in Q l n rows h =
    each_flat_map (λ w. Q w.range) (removals_of l n) rows
    (each _ (λ row. each_map (λ w. Q w.range) (removal (range_of l n.place n.table row)) (pairs_of n.table row) (each _ (λ p. h row) (pairs_of n.table row))) rows)

additions_in : (Q : RangeId → Type 0) (l : Layout) (n : Named) (rows : List (List Datum)) → ((row : List Datum) → Q (range_of l n.place n.table row))
    → AllByRecursion (λ w. Q w.range) (additions l n rows)
additions_in Q l n rows h =
    each_flat_map (λ w. Q w.range) (additions_of l n) rows
    (each _ (λ row. each_map (λ w. Q w.range) (addition (range_of l n.place n.table row)) (pairs_of n.table row) (each _ (λ p. h row) (pairs_of n.table row))) rows)

gives_result : {A B : Type 0} (R : B → Type 0) (r : Result A SqlState) (f : A → Evaluation B) → ((x : A) → Gives R (f x)) → Gives R (of_result r >>= f)
gives_result R (Ok x) f k = k x
gives_result R (Err e) f k = tt

gives_end : {A B : Type 0} (R : B → Type 0) (e : Evaluation A) (f : A → Evaluation B) → ((x : A) → Gives R (f x)) → Gives R (e >>= f)
gives_end R e f k = gives_bind (λ _. ⊤) R e f (gives_any e) (λ x _. k x)

table_writes : (Q : RangeId → Type 0) (l : Layout) (gateway : List ℕ) (reads : Reads) (n : Named) (s : RowStatement)
    → ((row : List Datum) → Q (range_of l n.place n.table row)) → Gives (WritesIn Q) (table_outcome l gateway reads n s)
unfolding table_outcome
table_writes Q l gateway reads n (Insert table names literals) h =
    gives_result {B = Outcome} (WritesIn Q) (made_rows n.table (default_region n.database gateway) names literals) _
    (λ made. gives_end {B = Outcome} (WritesIn Q) (if_free reads n.table [] (new_row_lookups n.table (partitions_of l n) made) made) _ (λ _. additions_in Q l n made h))
table_writes Q l gateway reads n (Select table wanted terms) h =
    gives_end {B = Outcome} (WritesIn Q) (found_rows reads n.table gateway (partitions_of l n) terms)
    (λ old. gives (record { answer = rows_answer (shown_rows n.table wanted (rows_of old)); writes = [] })) (λ old. tt)
table_writes Q l gateway reads n (Update table targets terms) h =
    gives_end {B = Outcome} (WritesIn Q) (followed_by 1 (found_rows reads n.table gateway (partitions_of l n) terms)) _
    (λ old. gives_result {B = Outcome} (WritesIn Q) (changed_rows n.table targets (rows_of old)) _
    (λ new. gives_end {B = Outcome} (WritesIn Q) (if_free reads n.table old (changed_row_lookups n.table (partitions_of l n) (rows_of old) new) new) _
    (λ _. each_append (λ w. Q w.range) (removals l n (rows_of old)) (additions l n new) (removals_in Q l n (rows_of old) h) (additions_in Q l n new h))))
table_writes Q l gateway reads n (Delete table terms) h =
    gives_end {B = Outcome} (WritesIn Q) (found_rows reads n.table gateway (partitions_of l n) terms) _ (λ old. removals_in Q l n (rows_of old) h)

unless_gives : (R : Outcome → Type 0) (fault : Option SqlState) (e : Evaluation Outcome) → Gives R e → Gives R (unless fault e)
unless_gives R None e h = h
unless_gives R (Some code) e h = tt

-- each row of the table that a statement names is in such a range
abbrev RowsIn : (RangeId → Type 0) → Layout → RowStatement → Type 0
RowsIn Q l s = (n : Named) → named_table l.catalog (table_name s) ≡ Some n → (row : List Datum) → Q (range_of l n.place n.table row)

on_writes : (Q : RangeId → Type 0) (l : Layout) (gateway : List ℕ) (reads : Reads) (s : RowStatement) (o : Option Named)
    → ((n : Named) → o ≡ Some n → (row : List Datum) → Q (range_of l n.place n.table row))
    → Gives (WritesIn Q) (option_map_or (checked_outcome l gateway reads s) o (faults S42P01))
on_writes Q l gateway reads s None h = tt
on_writes Q l gateway reads s (Some n) h = unless_gives (WritesIn Q) (check_fault n.table n.database s) _ (table_writes Q l gateway reads n s (h n refl))

statement_writes : (Q : RangeId → Type 0) (l : Layout) (gateway : List ℕ) (reads : Reads) (s : RowStatement) → RowsIn Q l s
    → Gives (WritesIn Q) (statement_outcome l gateway reads s)
unfolding statement_outcome
statement_writes Q l gateway reads s h = on_writes Q l gateway reads s (named_table l.catalog (table_name s)) h

-- ---- own writes

abbrev PlacesIn : (RangeId → Type 0) → OwnWrites → Type 0
PlacesIn Q own = AllByRecursion (λ x. Q x.0.0) own

put_by : (Q : RangeId → Type 0) (o : Ordering) (x e f : Place × FirstAndLast) (es more : OwnWrites) → Q x.0.0 → Q e.0.0 → Q f.0.0 → PlacesIn Q es → PlacesIn Q more
    → PlacesIn Q (by_order o (x ∷ e ∷ es) (f ∷ es) (e ∷ more))
put_by Q Less x e f es more h k m n p = (h, (k, n))
put_by Q Equal x e f es more h k m n p = (m, n)
put_by Q Greater x e f es more h k m n p = (k, p)

put_in : (Q : RangeId → Type 0) (place : Place) (x : FirstAndLast) (own : OwnWrites) → Q place.0 → PlacesIn Q own → PlacesIn Q (put place_cmp place x own)
put_in Q place x [] h k = (h, tt)
put_in Q place x (e ∷ es) h k = put_by Q (place_cmp place e.0) (place, x) e (e.0, x) es (put place_cmp place x es) h k.0 k.0 k.1 (put_in Q place x es h k.1)

writes_kept : (Q : RangeId → Type 0) (own : OwnWrites) (ws : List OwnWrite) → PlacesIn Q own → AllByRecursion (λ w. Q w.range) ws → PlacesIn Q (with_writes own ws)
unfolding with_writes
writes_kept Q own [] h k = h
writes_kept Q own (w ∷ ws) h k = writes_kept Q (with_write own w) ws (put_in Q (w.range, w.key) _ own k.0 h) k.1

list_writes : (Q : RangeId → Type 0) (l : Layout) (gateway : List ℕ) (reads : Reads) (own : OwnWrites) (ss : List RowStatement) → PlacesIn Q own
    → AllByRecursion (RowsIn Q l) ss → Gives (λ x. PlacesIn Q x.own) (list_outcome l gateway reads own ss)
unfolding list_outcome
list_writes Q l gateway reads own [] h k = h
list_writes Q l gateway reads own (s ∷ ss) h k =
    gives_bind {A = Outcome} {B = ListOutcome} (WritesIn Q) (λ x. PlacesIn Q x.own) _ _
    (gives_followed (WritesIn Q) (3 * length ss) _ (statement_writes Q l gateway (reads_through own reads) s k.0))
    (λ x m. gives_bind {A = ListOutcome} {B = ListOutcome} (λ y. PlacesIn Q y.own) (λ y. PlacesIn Q y.own) _ _
    (list_writes Q l gateway reads (with_writes own x.writes) ss (writes_kept Q own x.writes h m) k.1) (λ y p. p))

-- each write is of a place that was written
written : (Q : RangeId → Type 0) (b : Bool) (w : Write) (ws : List Write) → Q w.range → AllByRecursion (λ x. Q x.range) ws
    → AllByRecursion (λ x. Q x.range) (cons_option (if b then None else Some w) ws)
written Q true w ws h k = k
written Q false w ws h k = (h, k)

writes_of_places : (Q : RangeId → Type 0) (own : OwnWrites) → PlacesIn Q own
    → AllByRecursion (λ (x : Write). Q x.range) (filter_map (λ x. write_at x.0 x.1) own)
writes_of_places Q [] h = tt
writes_of_places Q (x ∷ own) h =
    written Q (option_eq bytes_eq x.1.first x.1.last) (record { range = x.0.0; key = x.0.1; value = x.1.last }) _ h.0 (writes_of_places Q own h.1)

given_writes : (Q : RangeId → Type 0) (e : Evaluation ListOutcome) → Gives (λ x. PlacesIn Q x.own) e
    → AllByRecursion (λ (w : Write). Q w.range) (writes_in e)
unfolding writes_of
given_writes Q (gives x) h = writes_of_places Q x.own h
given_writes Q (faults code) h = tt
given_writes Q (needs ask p n) h = tt

-- a place in the partitions of a table is one in a range of the list
of_rows : (s : Setting) (list : List RowStatement) (x : RowStatement) (n : Named) (range : RangeId) → s.list ≡ Ok list → Contains list x
    → named_table s.layout.catalog (table_name x) ≡ Some n → Any (λ (p : Partition). p.range ≡ range) (partitions_of s.layout n) → IsRangeOfList s range
of_rows s list x n range e c f (k, p, l, at, same) =
    subst (λ (r : RangeId). IsRangeOfList s r) same (of_list s list x n p e c f (k, l, at))

rows_of_list : (s : Setting) (list : List RowStatement) → s.list ≡ Ok list → IsSoundCatalog s.layout.catalog
    → AllByRecursion (RowsIn (IsRangeOfList s) s.layout) list
rows_of_list s list e h =
    each_weaker (Contains list) (RowsIn (IsRangeOfList s) s.layout)
    (λ x c n f row. of_rows s list x n (range_of s.layout n.place n.table row) e c f (row_is_in_partition s.layout n row h (is_named s.layout.catalog (table_name x) n f)))
    list (recursion_from_All (Contains list) list (All-contains_itself list))

evaluation_writes : (s : Setting) (reads : Reads) → IsSoundCatalog s.layout.catalog → (r : Result (List RowStatement) SqlState) → s.list ≡ r
    → Gives (λ x. PlacesIn (IsRangeOfList s) x.own) (of_result r >>= λ list. list_outcome s.layout s.region reads [] list)
evaluation_writes s reads h (Ok list) e = list_writes (IsRangeOfList s) s.layout s.region reads [] list tt (rows_of_list s list e h)
evaluation_writes s reads h (Err code) e = tt

all_writes : (s : Setting) (reads : Reads) → IsSoundCatalog s.layout.catalog → Gives (λ x. PlacesIn (IsRangeOfList s) x.own) (evaluation s reads)
unfolding evaluation
all_writes s reads h = evaluation_writes s reads h s.list refl

pub writes_are_of_the_tables : WritesAreOfTheTables
writes_are_of_the_tables s fed w sound c =
    let all : AllByRecursion (λ (x : Write). IsRangeOfList s x.range) (writes_in (evaluation s (served_reads fed))) =
    given_writes (IsRangeOfList s) (evaluation s (served_reads fed)) (all_writes s (served_reads fed) sound.layout.catalog) in
    each_has (λ (x : Write). IsRangeOfList s x.range) w (writes_in (evaluation s (served_reads fed))) all (has_itself w (writes_in (evaluation s (served_reads fed))) c)
