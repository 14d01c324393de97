-- Executing statements keeps a database valid, where each row that they make is one that its table may hold.
use Rattle.std.proofs.Common.{◌≡◌, ℕ, zero, suc, ◌<◌, ◌≤◌, Bool, true, false, List, [], ◌∷◌, ◌++◌, length, refl, sym, ap, ◌∙◌, subst, arith}
use Rattle.std.specs.Prelude.{◌==◌, not, if◌then◌else◌, filter, slice_get, Option, Some, None, option_map, option_and_then, Result, Ok, Err}
use Rattle.std.specs.List.{AllByRecursion}
use Rattle.std.proofs.lemmas.Bool.{eqb-true}
use Rattle.std.proofs.lemmas.List.Elements.{recursion_from_All}
use Rattle.mr_base.specs.declared.results.StatementResult.{StatementResult}
use Rattle.mr_base.specs.declared.states.SqlState.{SqlState}
use Rattle.mr_base.specs.declared.states.SqlState.TheVariants.{S23505}
use Rattle.region_sql.specs.declared.row_statements.RowStatement.{RowStatement}
use Rattle.region_sql.specs.declared.row_statements.RowStatement.TheVariants.{Insert, Select, Update, Delete}
use Rattle.descriptors.specs.Contents.{Contents}
use Rattle.descriptors.specs.declared.table.Table.{Table}
use Rattle.row_locality.specs.Plain.{PlainDatabase, IsValid, AreRowsOf, IsRowOf, database_of}
use Rattle.sql_eval.specs.Execution.{Named, named_table, place_named, with_database, rows_in_order, table_rows, on_rows, with_rows}
use Rattle.sql_eval.specs.RowWords.{◌>>=◌, matches, default_region, made_rows, changed_rows, has_twins}
use Rattle.answer_laws.proofs.Lists.{each_append}
use Rattle.answer_laws.proofs.Lists.{each_filter}
use Rattle.answer_laws.proofs.RowOrder.{Row}
use Rattle.answer_laws.proofs.Twins.{ordered_table, filtered_table}

-- ---- results

-- where a result comes out of two, the first came out too
pub came : {A B : Type 0} (r : Result A SqlState) (f : A → Result B SqlState) (y : B) → (r >>= f) ≡ Ok y → (x : A) × (r ≡ Ok x) × (f x ≡ Ok y)
came (Ok x) f y e = (x, refl, e)
came (Err code) f y e = absurd (cc)

abbrev fine : {A : Type 0} → A → Result A SqlState
fine x = Ok x

same_result : {A : Type 0} {x y : A} → fine x ≡ fine y → x ≡ y
same_result e = cc

table_by : (b : Bool) (rows after : List Row) → (if b then Err S23505 else Ok rows) ≡ Ok after → (b ≡ false) × (rows ≡ after)
table_by true rows after e = absurd (cc)
table_by false rows after e = (refl, same_result e)

pub table_came : (c : Contents) (t : Table) (rows after : List Row) → AllByRecursion (IsRowOf c t) rows → table_rows t rows ≡ Ok after → AreRowsOf c t after
table_came c t rows after h e =
    let r : (has_twins t rows ≡ false) × (rows_in_order t rows ≡ after) = table_by (has_twins t rows) (rows_in_order t rows) after e in
    subst (λ x. AreRowsOf c t x) r.1 (ordered_table c t rows r.0 h)

-- ---- statements

-- the rows that a statement makes are such
pub record MakesRows (c : Contents) (n : Named) (gateway : List ℕ) (s : RowStatement) (rows : List Row) : Type 0 where
  pub made : (table : List ℕ) (names : List (List ℕ)) (literals : _) (made : List Row) → s ≡ Insert table names literals
      → made_rows n.table (default_region n.database gateway) names literals ≡ Ok made → AllByRecursion (IsRowOf c n.table) made
  pub changed : (table : List ℕ) (targets : _) (terms : _) (changed : List Row) → s ≡ Update table targets terms
      → changed_rows n.table targets (filter (matches n.table terms) rows) ≡ Ok changed → AllByRecursion (IsRowOf c n.table) changed

second_of : {x y : StatementResult × List Row} → fine x ≡ fine y → x.1 ≡ y.1
second_of e = ap (λ (z : StatementResult × List Row). z.1) (same_result e)

pub on_rows_valid : (c : Contents) (n : Named) (gateway : List ℕ) (s : RowStatement) (rows : List Row) (x : StatementResult × List Row) → AreRowsOf c n.table rows
    → MakesRows c n gateway s rows → on_rows n gateway s rows ≡ Ok x → AreRowsOf c n.table x.1
unfolding on_rows
on_rows_valid c n gateway (Insert table names literals) rows x h m e =
    let r = came (made_rows n.table (default_region n.database gateway) names literals) _ x e in
    let q = came (table_rows n.table (rows ++ r.0)) _ x r.2 in
    subst (λ y. AreRowsOf c n.table y) (second_of q.2)
    (table_came c n.table (rows ++ r.0) q.0
    (each_append (IsRowOf c n.table) rows r.0 (recursion_from_All (IsRowOf c n.table) rows h.each) (m.made table names literals r.0 refl r.1)) q.1)
on_rows_valid c n gateway (Select table wanted terms) rows x h m e = subst (λ y. AreRowsOf c n.table y) (second_of e) h
on_rows_valid c n gateway (Update table targets terms) rows x h m e =
    let r = came (changed_rows n.table targets (filter (matches n.table terms) rows)) _ x e in
    let stay : List Row = filter (λ row. not (matches n.table terms row)) rows in
    let q = came (table_rows n.table (stay ++ r.0)) _ x r.2 in
    subst (λ y. AreRowsOf c n.table y) (second_of q.2)
    (table_came c n.table (stay ++ r.0) q.0
    (each_append (IsRowOf c n.table) stay r.0
    (each_filter (IsRowOf c n.table) (λ row. not (matches n.table terms row)) rows (recursion_from_All (IsRowOf c n.table) rows h.each))
    (m.changed table targets terms r.0 refl r.1)) q.1)
on_rows_valid c n gateway (Delete table terms) rows x h m e =
    subst (λ y. AreRowsOf c n.table y) (second_of e) (filtered_table c n.table (λ row. not (matches n.table terms row)) rows h)

-- ---- the table of a statement

-- a named table stands in the catalog, and its database too
pub record IsNamed (c : Contents) (n : Named) : Type 0 where
  pub at : slice_get c.tables n.place ≡ Some n.table
  pub database : database_of c n.table ≡ Some n.database

same_some : {A : Type 0} {x y : A} → Some x ≡ Some y → x ≡ y
same_some e = cc

named_with : (c : Contents) (place : ℕ) (t : Table) (n : Named) (o : Option _) → database_of c t ≡ o → slice_get c.tables place ≡ Some t
    → option_map (λ d. record { place = place; table = t; database = d }) o ≡ Some n → IsNamed c n
named_with c place t n None f a e = absurd (cc)
named_with c place t n (Some d) f a e = subst (λ m. IsNamed c m) (same_some e) (record { at = a; database = f })

named_at : (c : Contents) (place : ℕ) (n : Named) (o : Option Table) → slice_get c.tables place ≡ o → option_and_then (with_database c place) o ≡ Some n → IsNamed c n
named_at c place n None a e = absurd (cc)
named_at c place n (Some t) a e = named_with c place t n (database_of c t) refl a e

named_by_place : (c : Contents) (n : Named) (o : Option ℕ)
    → option_and_then (λ place. option_and_then (with_database c place) (slice_get c.tables place)) o ≡ Some n → IsNamed c n
named_by_place c n None e = absurd (cc)
named_by_place c n (Some place) e = named_at c place n (slice_get c.tables place) refl e

pub is_named : (c : Contents) (name : List ℕ) (n : Named) → named_table c name ≡ Some n → IsNamed c n
unfolding named_table
is_named c name n e = named_by_place c n (place_named c name) e

-- ---- databases

pub got_below : {X : Type 0} (xs : List X) (i : ℕ) (x : X) → slice_get xs i ≡ Some x → i < length xs
got_below [] i x e = absurd (cc)
got_below (y ∷ ys) zero x e = omega arith
got_below (y ∷ ys) (suc i) x e = let h : i < length ys = got_below ys i x e in omega arith

rows_at : (c : Contents) (d : PlainDatabase) (n : Named) (rows : List Row) → IsNamed c n → AreRowsOf c n.table rows → IsValid c d
    → (place : ℕ) (t : Table) → slice_get c.tables place ≡ Some t → (b : Bool) → (place == n.place) ≡ b → AreRowsOf c t (if b then rows else d place)
rows_at c d n rows i h v place t e true f =
    let same : place ≡ n.place = eqb-true place n.place f in
    subst (λ u. AreRowsOf c u rows) (same_some (sym i.at ∙ sym (ap (λ (k : ℕ). slice_get c.tables k) same) ∙ e)) h
rows_at c d n rows i h v place t e false f = v.tables place t e

others_at : (c : Contents) (d : PlainDatabase) (n : Named) (rows : List Row) → IsNamed c n → IsValid c d → (place : ℕ) → length c.tables ≤ place
    → (b : Bool) → (place == n.place) ≡ b → (if b then rows else d place) ≡ []
others_at c d n rows i v place l true f =
    let same : place ≡ n.place = eqb-true place n.place f in
    let below : n.place < length c.tables = got_below c.tables n.place n.table i.at in
    absurd (omega arith)
others_at c d n rows i v place l false f = v.others place l

pub with_rows_valid : (c : Contents) (d : PlainDatabase) (n : Named) (rows : List Row) → IsNamed c n → AreRowsOf c n.table rows → IsValid c d
    → IsValid c (with_rows d n.place rows)
with_rows_valid c d n rows i h v = record {
  tables = λ place t e. rows_at c d n rows i h v place t e (place == n.place) refl;
  others = λ place l. others_at c d n rows i v place l (place == n.place) refl;
}
