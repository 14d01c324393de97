-- Statements and lists over a part and over the whole of what is known.
use Rattle.std.proofs.Common.{◌≡◌, ℕ, ◌*◌, Bool, true, false, List, [], ◌∷◌, length, refl, sym, ap, subst, arith}
use Rattle.std.specs.Prelude.{◌==◌, ◌||◌, if◌then◌else◌, Option, Some, None, option_map}
use Rattle.std.specs.List.{list_any}
use Rattle.std.specs.Option.{option_map_or}
use Rattle.mr_base.specs.declared.rows.Datum.{Datum}
use Rattle.mr_base.specs.declared.spans.Ask.{Ask}
use Rattle.mr_base.specs.declared.states.SqlState.{SqlState}
use Rattle.mr_base.specs.declared.states.SqlState.TheVariants.{S23505, S42P01}
use Rattle.region_sql.specs.declared.row_statements.RowStatement.{RowStatement}
use Rattle.region_sql.specs.declared.row_statements.RowStatement.TheVariants.{Insert, Select, Update, Delete}
use Rattle.region_sql.specs.declared.row_statements.Term.{Term}
use Rattle.descriptors.specs.declared.table.Table.{Table}
use Rattle.row_locality.specs.Pairs.{KeyValue}
use Rattle.row_locality.specs.Plain.{Layout, Partition}
use Rattle.sql_eval.specs.Evaluation.{KeyedRow, at_primary, followed_answers, found_rows, if_free, meets_other, table_outcome, Outcome, unless, checked_outcome, statement_outcome, list_outcome, Setting, evaluation}
use Rattle.sql_eval.specs.Execution.{Named, named_table, table_name}
use Rattle.sql_eval.specs.Faults.{check_fault}
use Rattle.sql_eval.specs.Lookups.{index_for}
use Rattle.sql_eval.specs.OwnWrites.{OwnWrites, with_writes, reads_through, patched_pairs, values_written}
use Rattle.sql_eval.specs.Reads.{Reads, IsPartOf}
use Rattle.sql_eval.specs.RowWords.{has_twins}
use Rattle.sql_eval.specs.Search.{Evaluation, gives, faults, Lookup, Answer}
use Rattle.answer_laws.proofs.Evaluations.{IsKept, HasPhases, phases_more, phases_followed, phases_bind, phases_result, kept_bind, kept_end, kept_result, kept_through}
use Rattle.answer_laws.proofs.Searches.{search_phases, search_kept, phases_if, kept_if}

-- ---- rows that match

followed_phases : (reads : Reads) (t : Table) (by : Option (ℕ × List Datum)) (answers : List Answer) → HasPhases 1 (followed_answers reads t by answers)
followed_phases reads t None answers = tt
followed_phases reads t (Some x) answers = phases_if 1 (x.0 == 0) answers _ (search_phases reads (λ a. false) (at_primary t x.0 answers))

followed_kept : (part whole : Reads) → IsPartOf part whole → (t : Table) (by : Option (ℕ × List Datum)) (answers : List Answer)
    → IsKept whole (followed_answers part t by answers) (followed_answers whole t by answers)
followed_kept part whole h t None answers = refl
followed_kept part whole h t (Some x) answers = kept_if whole (x.0 == 0) answers _ _ (search_kept part whole h (λ a. false) (at_primary t x.0 answers))

found_phases : (reads : Reads) (t : Table) (gateway : List ℕ) (ps : List Partition) (terms : List Term) → HasPhases 2 (found_rows reads t gateway ps terms)
unfolding found_rows
found_phases reads t gateway ps terms =
    phases_bind 2 _ _ (phases_followed 1 1 2 _ (omega arith) (search_phases reads _ _))
    (λ first. phases_bind 2 _ _ (phases_more 1 2 _ (omega arith) (followed_phases reads t (index_for t terms) first)) (λ answers. tt))

found_kept : (part whole : Reads) → IsPartOf part whole → (t : Table) (gateway : List ℕ) (ps : List Partition) (terms : List Term)
    → IsKept whole (found_rows part t gateway ps terms) (found_rows whole t gateway ps terms)
unfolding found_rows
found_kept part whole h t gateway ps terms =
    kept_bind whole 1 _ _ _ _ (search_kept part whole h _ _)
    (λ first. kept_end whole _ _ _ _ (followed_kept part whole h t (index_for t terms) first) (λ answers. refl) (λ answers. tt))
    (λ first. phases_bind 1 _ _ (followed_phases whole t (index_for t terms) first) (λ answers. tt))

-- ---- rows that must not be there

choice_phases : (n : ℕ) (b : Bool) (code : SqlState) → HasPhases {A = Unit {0}} n (if b then faults code else gives tt)
choice_phases n true code = tt
choice_phases n false code = tt

choice_kept : (whole : Reads) (b : Bool) (code : SqlState) → IsKept {A = Unit {0}} whole (if b then faults code else gives tt) (if b then faults code else gives tt)
choice_kept whole true code = refl
choice_kept whole false code = refl

free_phases : (reads : Reads) (t : Table) (old : List KeyedRow) (ls : List Lookup) (new : List (List Datum)) → HasPhases 1 (if_free reads t old ls new)
unfolding if_free
free_phases reads t old ls new =
    phases_bind 1 _ _ (search_phases reads (meets_other old) ls) (λ answers. choice_phases 1 (list_any (meets_other old) answers || has_twins t new) S23505)

free_kept : (part whole : Reads) → IsPartOf part whole → (t : Table) (old : List KeyedRow) (ls : List Lookup) (new : List (List Datum))
    → IsKept whole (if_free part t old ls new) (if_free whole t old ls new)
unfolding if_free
free_kept part whole h t old ls new =
    kept_end whole _ _ _ _ (search_kept part whole h (meets_other old) ls)
    (λ answers. choice_kept whole (list_any (meets_other old) answers || has_twins t new) S23505)
    (λ answers. choice_phases 0 (list_any (meets_other old) answers || has_twins t new) S23505)

-- ---- statements

table_phases : (l : Layout) (gateway : List ℕ) (reads : Reads) (n : Named) (s : RowStatement) → HasPhases 3 (table_outcome l gateway reads n s)
unfolding table_outcome
table_phases l gateway reads n (Insert table names literals) =
    phases_result 3 _ _ (λ made. phases_bind 3 _ _ (phases_more 1 3 _ (omega arith) (free_phases reads n.table [] _ made)) (λ _. tt))
table_phases l gateway reads n (Select table wanted terms) = phases_bind 3 _ _ (phases_more 2 3 _ (omega arith) (found_phases reads n.table gateway _ terms)) (λ old. tt)
table_phases l gateway reads n (Update table targets terms) =
    phases_bind 3 _ _ (phases_followed 2 1 3 _ (omega arith) (found_phases reads n.table gateway _ terms))
    (λ old. phases_result 3 _ _ (λ new. phases_bind 3 _ _ (phases_more 1 3 _ (omega arith) (free_phases reads n.table old _ new)) (λ _. tt)))
table_phases l gateway reads n (Delete table terms) = phases_bind 3 _ _ (phases_more 2 3 _ (omega arith) (found_phases reads n.table gateway _ terms)) (λ old. tt)

table_kept : (l : Layout) (gateway : List ℕ) (part whole : Reads) → IsPartOf part whole → (n : Named) (s : RowStatement)
    → IsKept whole (table_outcome l gateway part n s) (table_outcome l gateway whole n s)
unfolding table_outcome
table_kept l gateway part whole h n (Insert table names literals) =
    kept_result whole _ _ _ (λ made. kept_end whole _ _ _ _ (free_kept part whole h n.table [] _ made) (λ _. refl) (λ _. tt))
table_kept l gateway part whole h n (Select table wanted terms) = kept_end whole _ _ _ _ (found_kept part whole h n.table gateway _ terms) (λ old. refl) (λ old. tt)
table_kept l gateway part whole h n (Update table targets terms) =
    kept_bind whole 1 _ _ _ _ (found_kept part whole h n.table gateway _ terms)
    (λ old. kept_result whole _ _ _ (λ new. kept_end whole _ _ _ _ (free_kept part whole h n.table old _ new) (λ _. refl) (λ _. tt)))
    (λ old. phases_result 1 _ _ (λ new. phases_bind 1 _ _ (free_phases whole n.table old _ new) (λ _. tt)))
table_kept l gateway part whole h n (Delete table terms) = kept_end whole _ _ _ _ (found_kept part whole h n.table gateway _ terms) (λ old. refl) (λ old. tt)

unless_phases : (n : ℕ) (fault : Option SqlState) (e : Evaluation Outcome) → HasPhases n e → HasPhases n (unless fault e)
unless_phases n None e h = h
unless_phases n (Some code) e h = tt

unless_kept : (whole : Reads) (fault : Option SqlState) (e f : Evaluation Outcome) → IsKept whole e f → IsKept whole (unless fault e) (unless fault f)
unless_kept whole None e f h = h
unless_kept whole (Some code) e f h = refl

on_phases : (l : Layout) (gateway : List ℕ) (reads : Reads) (s : RowStatement) (o : Option Named)
    → HasPhases 3 (option_map_or (checked_outcome l gateway reads s) o (faults S42P01))
on_phases l gateway reads s None = tt
on_phases l gateway reads s (Some n) = unless_phases 3 (check_fault n.table n.database s) _ (table_phases l gateway reads n s)

on_kept : (l : Layout) (gateway : List ℕ) (part whole : Reads) → IsPartOf part whole → (s : RowStatement) (o : Option Named)
    → IsKept whole (option_map_or (checked_outcome l gateway part s) o (faults S42P01)) (option_map_or (checked_outcome l gateway whole s) o (faults S42P01))
on_kept l gateway part whole h s None = refl
on_kept l gateway part whole h s (Some n) = unless_kept whole (check_fault n.table n.database s) _ _ (table_kept l gateway part whole h n s)

statement_phases : (l : Layout) (gateway : List ℕ) (reads : Reads) (s : RowStatement) → HasPhases 3 (statement_outcome l gateway reads s)
unfolding statement_outcome
statement_phases l gateway reads s = on_phases l gateway reads s (named_table l.catalog (table_name s))

pub statement_kept : (l : Layout) (gateway : List ℕ) (part whole : Reads) → IsPartOf part whole → (s : RowStatement)
    → IsKept whole (statement_outcome l gateway part s) (statement_outcome l gateway whole s)
unfolding statement_outcome
statement_kept l gateway part whole h s = on_kept l gateway part whole h s (named_table l.catalog (table_name s))

-- ---- lists

pub mapped : {X Y : Type 0} (f : X → Y) (r s : Option X) → ((x : X) → r ≡ Some x → s ≡ Some x) → (y : Y) → option_map f r ≡ Some y → option_map f s ≡ Some y
mapped f None s h y e = absurd (cc)
mapped f (Some x) s h y e = subst (λ o. option_map f o ≡ Some y) (sym (h x refl)) e

-- own writes keep what is part of what
pub through_part : (own : OwnWrites) (part whole : Reads) → IsPartOf part whole → IsPartOf (reads_through own part) (reads_through own whole)
unfolding reads_through
through_part own part whole h ask pairs e = mapped (patched_pairs (values_written own ask)) (part ask) (whole ask) (h ask) pairs e

pub through_some : (own : OwnWrites) (reads : Reads) (ask : Ask) (pairs : List KeyValue) → reads ask ≡ Some pairs
    → (more : List KeyValue) × (reads_through own reads ask ≡ Some more)
unfolding reads_through
through_some own reads ask pairs e = (patched_pairs (values_written own ask) pairs, ap (option_map (patched_pairs (values_written own ask))) e)

list_phases : (l : Layout) (gateway : List ℕ) (reads : Reads) (own : OwnWrites) (ss : List RowStatement)
    → HasPhases (3 * length ss) (list_outcome l gateway reads own ss)
unfolding list_outcome
list_phases l gateway reads own [] = tt
list_phases l gateway reads own (s ∷ ss) =
    phases_bind (3 * length (s ∷ ss)) _ _ (phases_followed 3 (3 * length ss) (3 * length (s ∷ ss)) _ (omega arith) (statement_phases l gateway (reads_through own reads) s))
    (λ x. phases_bind (3 * length (s ∷ ss)) _ _
    (phases_more (3 * length ss) (3 * length (s ∷ ss)) _ (omega arith) (list_phases l gateway reads (with_writes own x.writes) ss)) (λ y. tt))

list_kept : (l : Layout) (gateway : List ℕ) (part whole : Reads) → IsPartOf part whole → (own : OwnWrites) (ss : List RowStatement)
    → IsKept whole (list_outcome l gateway part own ss) (list_outcome l gateway whole own ss)
unfolding list_outcome
list_kept l gateway part whole h own [] = refl
list_kept l gateway part whole h own (s ∷ ss) =
    kept_bind whole (3 * length ss) _ _ _ _
    (kept_through (reads_through own whole) whole _ _ (through_some own whole)
    (statement_kept l gateway (reads_through own part) (reads_through own whole) (through_part own part whole h) s))
    (λ x. kept_end whole _ _ _ _ (list_kept l gateway part whole h (with_writes own x.writes) ss) (λ y. refl) (λ y. tt))
    (λ x. phases_bind (3 * length ss) _ _ (list_phases l gateway whole (with_writes own x.writes) ss) (λ y. tt))

-- over more that is known a list comes to the same, or nearer to its end
pub evaluation_kept : (s : Setting) (part whole : Reads) → IsPartOf part whole → IsKept whole (evaluation s part) (evaluation s whole)
unfolding evaluation
evaluation_kept s part whole h = kept_result whole s.list _ _ (λ list. list_kept s.layout s.region part whole h [] list)
