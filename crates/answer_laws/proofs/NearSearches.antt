-- What a search by an index needs of partitions other than the near one.
use Rattle.std.proofs.Common.{◌≡◌, ℕ, true, false, List, [], ◌∷◌, length, refl, sym, ap, ◌∙◌, subst, arith}
use Rattle.std.specs.Prelude.{◌≢◌, ◌==◌, not, if◌then◌else◌, filter, map, Option, Some, None, option_map, Ok}
use Rattle.std.specs.FinMap.Entries.{where_key}
use Rattle.std.specs.List.{AllByRecursion}
use Rattle.std.specs.Option.{option_map_or}
use Rattle.std.proofs.lemmas.Bool.{ne_eqb}
use Rattle.mr_base.specs.declared.ids.RangeId.{RangeId}
use Rattle.mr_base.specs.declared.rows.Datum.{Datum}
use Rattle.mr_base.specs.declared.spans.Ask.{Ask}
use Rattle.mr_base.specs.declared.states.SqlState.{SqlState}
use Rattle.mr_base.specs.declared.states.SqlState.TheVariants.{S42P01}
use Rattle.region_sql.specs.declared.row_statements.RowStatement.{RowStatement}
use Rattle.region_sql.specs.declared.row_statements.RowStatement.TheVariants.{Insert, Select, Update, Delete}
use Rattle.region_sql.specs.declared.row_statements.Term.{Term}
use Rattle.descriptors.specs.declared.table.Table.{Table}
use Rattle.row_locality.specs.Pairs.{KeyValue, bytes_cmp}
use Rattle.row_locality.specs.Plain.{Layout, Partition}
use Rattle.sql_eval.specs.Evaluation.{ends_at, has_pair, at_primary, followed_answers, found_rows, matched_rows, table_outcome, Outcome, unless, checked_outcome, statement_outcome, list_outcome, Setting, evaluation, partitions_of, KeyedRow}
use Rattle.sql_eval.specs.Execution.{Named, named_table, table_name}
use Rattle.sql_eval.specs.Faults.{check_fault}
use Rattle.sql_eval.specs.Laws.{NearComesFirst, search_terms}
use Rattle.sql_eval.specs.Lookups.{index_for, is_in_region, near_first, key_lookup, row_lookups, searched_partitions, fixed_region}
use Rattle.sql_eval.specs.NextSpan.{asks_in}
use Rattle.sql_eval.specs.OwnWrites.{reads_through, patched_pairs}
use Rattle.sql_eval.specs.Reads.{Reads, served_reads}
use Rattle.sql_eval.specs.Search.{Evaluation, gives, faults, needs, ◌>>=◌, followed_by, of_result, Lookup, Answer, ask_of, behind, after_answer, search as searched}
use Rattle.answer_laws.proofs.Evaluations.{Needs, needs_bind, needs_followed}
use Rattle.answer_laws.proofs.Lists.{each_weaker}
use Rattle.answer_laws.proofs.LawsOfNeeds.{needed}
use Rattle.answer_laws.proofs.NearFirst.{near_is_first}
use Rattle.answer_laws.proofs.NeededSpans.{IsIn, at_primary_in}
use Rattle.answer_laws.proofs.Searches.{MayNeed, search_needs, needs_if}

-- of other ranges a span is needed only where this is so
abbrev IsNearOr : RangeId → Type 0 → Ask → ℕ → Type 0
IsNearOr near known ask n = ask.range ≢ near → known

known_needs : {A : Type 0} (near : RangeId) (known : Type 0) (e : Evaluation A) → known → Needs (IsNearOr near known) e
known_needs near known (gives x) h = tt
known_needs near known (faults code) h = tt
known_needs near known (needs ask p n) h = λ _. h

-- answers of the near partition lead to spans in it
followed_near : (reads : Reads) (near : Partition) (known : Type 0) (t : Table) (by : Option (ℕ × List Datum)) (answers : List Answer)
    → AllByRecursion (λ a. IsIn (λ p. p ≡ near) a.0) answers → Needs (IsNearOr near.range known) (followed_answers reads t by answers)
followed_near reads near known t None answers h = tt
followed_near reads near known t (Some x) answers h =
    let P : Ask → ℕ → Type 0 = IsNearOr near.range known in
    needs_if P (x.0 == 0) answers _
    (search_needs reads P (λ a. false) (at_primary t x.0 answers)
    (each_weaker (IsIn (λ p. p ≡ near)) (MayNeed reads P) (λ l e n _ _ differs. absurd (differs (ap (λ (p : Partition). p.range) e))) _
    (at_primary_in (λ p. p ≡ near) t x.0 answers h)))

-- the rows that match, by this index in these partitions
abbrev found_by : Reads → Table → List ℕ → Option (ℕ × List Datum) → List Partition → List Term → Evaluation (List KeyedRow)
found_by reads t gateway by ps terms =
    followed_by 1 (searched reads (ends_at by) (row_lookups gateway by ps)) >>= λ first.
    followed_answers reads t by first >>= λ answers.
    gives (matched_rows t terms answers)

has_some : (l : Lookup) (p : KeyValue) (ps : List KeyValue) → has_pair (l, p ∷ ps) ≡ true
has_some l p ps = ap not (ne_eqb (length (p ∷ ps)) 0 (λ e. omega (arith, e)))

after_first : (reads : Reads) (t : Table) (x : ℕ × List Datum) (near : Partition) (terms : List Term) (n : ℕ) (r : Option (List KeyValue)) (rest : Evaluation (List Answer))
    → Needs (IsNearOr near.range (r ≡ Some []))
    (followed_by 1 (after_answer (ends_at (Some x)) (key_lookup x.0 x.1 near) n r rest) >>= λ first.
    followed_answers reads t (Some x) first >>= λ answers.
    gives (matched_rows t terms answers))
after_first reads t x near terms n None rest = λ differs. absurd (differs refl)
after_first reads t x near terms n (Some []) rest = known_needs near.range (Some [] ≡ Some []) _ refl
after_first reads t x near terms n (Some (p ∷ ps)) rest =
    let P : Ask → ℕ → Type 0 = IsNearOr near.range (Some (p ∷ ps) ≡ Some []) in
    let l : Lookup = key_lookup x.0 x.1 near in
    subst (λ b. Needs P
    (followed_by 1 (if b then gives ((l, p ∷ ps) ∷ []) else behind (l, p ∷ ps) rest) >>= λ first.
    followed_answers reads t (Some x) first >>= λ answers.
    gives (matched_rows t terms answers)))
    (sym (has_some l p ps))
    (needs_bind {B = List KeyedRow} P (followed_answers reads t (Some x) ((l, p ∷ ps) ∷ [])) (λ answers. gives (matched_rows t terms answers))
    (followed_near reads near (Some (p ∷ ps) ≡ Some []) t (Some x) ((l, p ∷ ps) ∷ []) (refl, tt)) (λ answers. tt))

found_by_near : (reads : Reads) (t : Table) (gateway : List ℕ) (x : ℕ × List Datum) (near : Partition) (more ps : List Partition) (terms : List Term)
    → near_first gateway ps ≡ near ∷ more
    → Needs (IsNearOr near.range (reads (ask_of (key_lookup x.0 x.1 near)) ≡ Some [])) (found_by reads t gateway (Some x) ps terms)
unfolding searched
found_by_near reads t gateway x near more ps terms e =
    subst (λ qs. Needs (IsNearOr near.range (reads (ask_of (key_lookup x.0 x.1 near)) ≡ Some []))
    (followed_by 1 (searched reads (ends_at (Some x)) (map (key_lookup x.0 x.1) qs)) >>= λ first.
    followed_answers reads t (Some x) first >>= λ answers.
    gives (matched_rows t terms answers))) (sym e)
    (after_first reads t x near terms (length (map (key_lookup x.0 x.1) (near ∷ more))) (reads (ask_of (key_lookup x.0 x.1 near)))
    (searched reads (ends_at (Some x)) (map (key_lookup x.0 x.1) more)))

found_near : (reads : Reads) (t : Table) (gateway : List ℕ) (x : ℕ × List Datum) (near : Partition) (more ps : List Partition) (terms : List Term)
    → index_for t terms ≡ Some x → fixed_region terms ≡ None → near_first gateway ps ≡ near ∷ more
    → Needs (IsNearOr near.range (reads (ask_of (key_lookup x.0 x.1 near)) ≡ Some [])) (found_rows reads t gateway ps terms)
unfolding found_rows
found_near reads t gateway x near more ps terms i f e =
    let P : Ask → ℕ → Type 0 = IsNearOr near.range (reads (ask_of (key_lookup x.0 x.1 near)) ≡ Some []) in
    subst (λ by. Needs P (found_by reads t gateway by (searched_partitions terms ps) terms)) (sym i)
    (subst (λ r. Needs P (found_by reads t gateway (Some x) (option_map_or (λ region. filter (is_in_region region) ps) r ps) terms)) (sym f)
    (found_by_near reads t gateway x near more ps terms e))

table_near : (l : Layout) (gateway : List ℕ) (reads : Reads) (P : Ask → ℕ → Type 0) (n : Named) (s : RowStatement) (terms : List Term) → search_terms s ≡ Some terms
    → Needs P (found_rows reads n.table gateway (partitions_of l n) terms) → Needs P (table_outcome l gateway reads n s)
unfolding table_outcome
table_near l gateway reads P n (Insert table names rows) terms e h = absurd (cc)
table_near l gateway reads P n (Update table targets others) terms e h = absurd (cc)
table_near l gateway reads P n (Select table wanted others) terms e h =
    needs_bind P _ _ (subst (λ ts. Needs P (found_rows reads n.table gateway (partitions_of l n) ts)) (sym (same_terms e)) h) (λ old. tt)
  where
    same_terms : {a b : List Term} → Some a ≡ Some b → a ≡ b
    same_terms q = cc
table_near l gateway reads P n (Delete table others) terms e h =
    needs_bind P _ _ (subst (λ ts. Needs P (found_rows reads n.table gateway (partitions_of l n) ts)) (sym (same_terms e)) h) (λ old. tt)
  where
    same_terms : {a b : List Term} → Some a ≡ Some b → a ≡ b
    same_terms q = cc

unless_near : (P : Ask → ℕ → Type 0) (fault : Option SqlState) (e : Evaluation Outcome) → Needs P e → Needs P (unless fault e)
unless_near P None e h = h
unless_near P (Some code) e h = tt

statement_near : (l : Layout) (gateway : List ℕ) (reads : Reads) (P : Ask → ℕ → Type 0) (s : RowStatement) (n : Named)
    → named_table l.catalog (table_name s) ≡ Some n → Needs P (table_outcome l gateway reads n s) → Needs P (statement_outcome l gateway reads s)
unfolding statement_outcome
statement_near l gateway reads P s n e h =
    subst (λ o. Needs P (option_map_or (checked_outcome l gateway reads s) o (faults S42P01))) (sym e) (unless_near P (check_fault n.table n.database s) _ h)

evaluation_near : (s : Setting) (reads : Reads) (P : Ask → ℕ → Type 0) (one : RowStatement) → s.list ≡ Ok (one ∷ [])
    → Needs P (statement_outcome s.layout s.region (reads_through [] reads) one) → Needs P (evaluation s reads)
unfolding evaluation list_outcome
evaluation_near s reads P one e h =
    subst (λ r. Needs P (of_result r >>= λ list. list_outcome s.layout s.region reads [] list)) (sym e)
    (needs_bind P _ _ (needs_followed P 0 _ h) (λ x. tt))

-- ---- through no writes

all_kept : (pairs : List KeyValue) → where_key bytes_cmp (λ key. true) pairs ≡ pairs
all_kept [] = refl
all_kept (p ∷ ps) = ap (λ (qs : List KeyValue). p ∷ qs) (all_kept ps)

none_through : (o : Option (List KeyValue)) → option_map (patched_pairs []) o ≡ Some [] → o ≡ Some []
none_through None e = absurd (cc)
none_through (Some pairs) e = ap (λ (qs : List KeyValue). Some qs) (sym (all_kept pairs)) ∙ e

known_through : (reads : Reads) (ask : Ask) → reads_through [] reads ask ≡ Some [] → reads ask ≡ Some []
unfolding reads_through
known_through reads ask e = none_through (reads ask) e

pub near_comes_first : NearComesFirst
near_comes_first s n near x fed ask sound h e differs =
    let reads : Reads = served_reads fed in
    let key : Ask = ask_of (key_lookup x.0 x.1 near) in
    let P : Ask → ℕ → Type 0 = IsNearOr near.range (reads_through [] reads key ≡ Some []) in
    let first : (more : List Partition) × (near_first s.region (partitions_of s.layout n) ≡ near ∷ more) =
    near_is_first s.layout n.place n.table s.region near sound.layout.catalog h.partition h.region in
    let r : P ask (asks_in (evaluation s reads)) =
    needed P (evaluation s reads) ask
    (evaluation_near s reads P h.one h.list
    (statement_near s.layout s.region (reads_through [] reads) P h.one n h.table
    (table_near s.layout s.region (reads_through [] reads) P n h.one h.terms h.kind
    (found_near (reads_through [] reads) n.table s.region x near first.0 (partitions_of s.layout n) h.terms h.index h.anywhere first.1)))) e in
    known_through reads key (r differs)
