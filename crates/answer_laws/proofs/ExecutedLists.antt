-- Executing a list keeps a database valid.
use Rattle.std.proofs.Common.{◌≡◌, ℕ, true, List, [], ◌∷◌, length, refl, sym, ap, ◌∙◌, subst}
use Rattle.std.specs.Prelude.{◌==◌, not, All, filter, Option, Some, None, Result, Ok, Err}
use Rattle.std.specs.List.{AllByRecursion, AllZip, list_all}
use Rattle.std.specs.Option.{option_map_or}
use Rattle.std.proofs.lemmas.Bool.{eqb-true}
use Rattle.std.proofs.lemmas.List.Elements.{recursion_from_All}
use Rattle.std.proofs.lemmas.Option.{same_Some}
use Rattle.mr_base.specs.declared.results.StatementResult.{StatementResult}
use Rattle.mr_base.specs.declared.states.SqlState.{SqlState}
use Rattle.mr_base.specs.declared.states.SqlState.TheVariants.{S42P01}
use Rattle.region_sql.specs.TextLiterals.{IsUtf8Literal, IsUtf8Value, TextsAreUtf8}
use Rattle.region_sql.specs.declared.row_statements.Literal.{Literal}
use Rattle.region_sql.specs.declared.row_statements.RowStatement.{RowStatement}
use Rattle.region_sql.specs.declared.row_statements.RowStatement.TheVariants.{Insert, Update}
use Rattle.region_sql.specs.declared.row_statements.Target.{Target}
use Rattle.region_sql.specs.declared.row_statements.Term.{Term}
use Rattle.descriptors.specs.Contents.{Contents, is_database}
use Rattle.descriptors.specs.Lists.{has_name}
use Rattle.descriptors.specs.Sound.{IsSoundAmong, IsSoundCatalog, IsSoundDatabase, IsSoundIn}
use Rattle.descriptors.specs.declared.database.Database.{Database}
use Rattle.descriptors.specs.declared.table.Table.{Table}
use Rattle.row_locality.specs.Plain.{AreRowsOf, IsRowOf, IsValid, PlainDatabase, regions_of}
use Rattle.row_locality.specs.Rows.{all_columns}
use Rattle.sql_eval.specs.Execution.{Named, exec, exec_list, exec_statement, named_table, on_rows, on_table, table_name, unless, with_rows}
use Rattle.sql_eval.specs.Faults.{check_fault, columns_fault, literals_fault, row_literals_fault, shape_fault, target_value_fault}
use Rattle.sql_eval.specs.Laws.{ExecKeepsValid, HaveTexts}
use Rattle.sql_eval.specs.RowWords.{◌>>=◌, changed_row, changed_rows, default_region, made_row, made_rows, matches}
use Rattle.answer_laws.proofs.ChangedRows.{IsTarget, changed_suits}
use Rattle.answer_laws.proofs.ColumnValues.{Suits}
use Rattle.answer_laws.proofs.FittingRows.{row_suits, suiting_rows}
use Rattle.answer_laws.proofs.KeepsValid.{IsNamed, MakesRows, came, is_named, on_rows_valid, with_rows_valid}
use Rattle.answer_laws.proofs.Lists.{each_filter, each_weaker}
use Rattle.answer_laws.proofs.MadeRows.{IsGiven, made_suits}
use Rattle.answer_laws.proofs.Members.{each_has, find_has}
use Rattle.answer_laws.proofs.BuiltLists.{has_at}
use Rattle.answer_laws.proofs.RowOrder.{Row}
use Rattle.answer_laws.proofs.TableColumns.{Column}
use Rattle.answer_laws.proofs.NoFaults.{every, first_none, none_faulty, not_false, passed, same_ok}

-- ---- a table that a statement names

-- in a sound catalog it is sound in its database
pub record IsSoundNamed (c : Contents) (n : Named) : Type 0 where
  pub table : IsSoundIn n.database n.table
  pub database : IsSoundDatabase n.database
  pub regions : regions_of c n.table ≡ n.database.regions

sound_among : (c : Contents) (n : Named) → IsNamed c n → IsSoundAmong c.databases n.table → IsSoundIn n.database n.table
sound_among c n i a = subst (λ (d : Database). IsSoundIn d n.table) (same_Some a.0 n.database (sym a.1 ∙ i.database)) a.2

pub sound_named : (c : Contents) (n : Named) → IsSoundCatalog c → IsNamed c n → IsSoundNamed c n
sound_named c n sound i = record {
  table = sound_among c n i (each_has (IsSoundAmong c.databases) n.table c.tables (recursion_from_All (IsSoundAmong c.databases) c.tables sound.tables) (has_at c.tables n.place n.table i.at));
  database = each_has IsSoundDatabase n.database c.databases (recursion_from_All IsSoundDatabase c.databases sound.databases) (find_has (is_database n.table.database) c.databases n.database i.database);
  regions = ap (λ (o : Option Database). option_map_or (λ d. d.regions) o []) i.database;
}

-- ---- the rows that a statement makes

abbrev AreSuited : Contents → Table → Row → Type 0
AreSuited c t row = AllZip (Suits (regions_of c t)) (all_columns t) row

same_length : {X Y : Type 0} (xs : List X) (ys : List Y) → (length xs == length ys) ≡ true → length xs ≡ length ys
same_length xs ys e = eqb-true (length xs) (length ys) e

each_given : (t : Table) (d : Database) (names : List (List ℕ)) (rows : List (List Literal)) → AllByRecursion (λ row. (length row == length names) ≡ true) rows
    → AllByRecursion (All IsUtf8Literal) rows → AllByRecursion (λ row. row_literals_fault t d names row ≡ None) rows → AllByRecursion (IsGiven t d names) rows
each_given t d names [] h u k = tt
each_given t d names (row ∷ rows) h u k = (
  record { long = same_length row names h.0; texts = recursion_from_All IsUtf8Literal row u.0; checked = k.0 },
  each_given t d names rows h.1 u.1 k.1,
)

-- INSERT
made_are_rows : (c : Contents) (n : Named) (gateway table : List ℕ) (names : List (List ℕ)) (rows : List (List Literal)) (made : List Row) → IsSoundNamed c n
    → TextsAreUtf8 (Insert table names rows) → check_fault n.table n.database (Insert table names rows) ≡ None
    → made_rows n.table (default_region n.database gateway) names rows ≡ Ok made → AllByRecursion (IsRowOf c n.table) made
unfolding check_fault made_rows
made_are_rows c n gateway table names rows made sound u e m =
    let s : RowStatement = Insert table names rows in
    let rest = (first_none (columns_fault n.table s) _ e).1 in
    let parts = first_none (shape_fault n.table s) (literals_fault n.table n.database s) rest in
    let long = passed (not (list_all (λ row. length row == length names) rows)) _ _ parts.0 in
    let whole = passed (not (list_all (λ (x : Column). has_name names x.0) n.table.columns)) _ _ long.1 in
    let given : AllByRecursion (IsGiven n.table n.database names) rows =
    each_given n.table n.database names rows (every (λ row. length row == length names) rows (not_false _ long.0)) (recursion_from_All (All IsUtf8Literal) rows u)
    (none_faulty (row_literals_fault n.table n.database names) rows parts.1) in
    suiting_rows c n.table (made_row n.table (default_region n.database gateway) names) rows made
    (each_weaker (IsGiven n.table n.database names) (λ row. AreSuited c n.table (made_row n.table (default_region n.database gateway) names row))
    (λ row g. subst (λ (rs : List (List ℕ)). AllZip (Suits rs) (all_columns n.table) (made_row n.table (default_region n.database gateway) names row)) (sym sound.regions)
    (made_suits n.table n.database gateway names row sound.table sound.database (every (λ (x : Column). has_name names x.0) n.table.columns (not_false _ whole.0)) g))
    rows given)
    m

each_target : (t : Table) (d : Database) (targets : List Target) → AllByRecursion (λ x. IsUtf8Value x.value) targets → AllByRecursion (λ x. target_value_fault t d x ≡ None) targets
    → AllByRecursion (IsTarget t d) targets
each_target t d [] h k = tt
each_target t d (x ∷ xs) h k = ((h.0, k.0), each_target t d xs h.1 k.1)

-- UPDATE
changed_are_rows : (c : Contents) (n : Named) (table : List ℕ) (targets : List Target) (terms : List Term) (olds changed : List Row) → IsSoundNamed c n
    → TextsAreUtf8 (Update table targets terms) → check_fault n.table n.database (Update table targets terms) ≡ None → AllByRecursion (IsRowOf c n.table) olds
    → changed_rows n.table targets olds ≡ Ok changed → AllByRecursion (IsRowOf c n.table) changed
unfolding check_fault changed_rows
changed_are_rows c n table targets terms olds changed sound u e h m =
    let s : RowStatement = Update table targets terms in
    let rest = (first_none (columns_fault n.table s) _ e).1 in
    let parts = first_none (shape_fault n.table s) (literals_fault n.table n.database s) rest in
    let free = none_faulty (target_value_fault n.table n.database) targets (first_none _ _ parts.1).0 in
    let are : AllByRecursion (IsTarget n.table n.database) targets =
    each_target n.table n.database targets (recursion_from_All (λ (x : Target). IsUtf8Value x.value) targets u.0) free in
    suiting_rows c n.table (changed_row n.table targets) olds changed
    (each_weaker (IsRowOf c n.table) (λ old. AreSuited c n.table (changed_row n.table targets old))
    (λ old r. subst (λ (rs : List (List ℕ)). AllZip (Suits rs) (all_columns n.table) (changed_row n.table targets old)) (sym sound.regions)
    (changed_suits n.table n.database targets old sound.table.table are
    (subst (λ (rs : List (List ℕ)). AllZip (Suits rs) (all_columns n.table) old) sound.regions (row_suits c n.table old sound.table.table r))))
    olds h)
    m

pub makes_rows : (c : Contents) (n : Named) (gateway : List ℕ) (s : RowStatement) (rows : List Row) → IsSoundNamed c n → TextsAreUtf8 s
    → check_fault n.table n.database s ≡ None → AreRowsOf c n.table rows → MakesRows c n gateway s rows
makes_rows c n gateway s rows sound u e h = record {
  made = λ table names literals made same m. made_are_rows c n gateway table names literals made sound (subst TextsAreUtf8 same u) (subst (λ (x : RowStatement). check_fault n.table n.database x ≡ None) same e) m;
  changed = λ table targets terms changed same m. changed_are_rows c n table targets terms (filter (matches n.table terms) rows) changed sound (subst TextsAreUtf8 same u)
      (subst (λ (x : RowStatement). check_fault n.table n.database x ≡ None) same e)
      (each_filter (IsRowOf c n.table) (matches n.table terms) rows (recursion_from_All (IsRowOf c n.table) rows h.each)) m;
}

-- ---- statements and lists

table_by : (c : Contents) (gateway : List ℕ) (s : RowStatement) (d : PlainDatabase) (n : Named) (x : StatementResult × PlainDatabase) (o : Option SqlState) → IsSoundCatalog c
    → IsNamed c n → TextsAreUtf8 s → IsValid c d → check_fault n.table n.database s ≡ o
    → (unless o (on_rows n gateway s (d n.place)) >>= λ y. Ok (y.0, with_rows d n.place y.1)) ≡ Ok x → IsValid c x.1
table_by c gateway s d n x (Some code) sound i u v f e = absurd (cc)
table_by c gateway s d n x None sound i u v f e =
    let r = came (on_rows n gateway s (d n.place)) (λ y. Ok (y.0, with_rows d n.place y.1)) x e in
    let rows : AreRowsOf c n.table (d n.place) = v.tables n.place n.table i.at in
    let after : AreRowsOf c n.table r.0.1 = on_rows_valid c n gateway s (d n.place) r.0 rows (makes_rows c n gateway s (d n.place) (sound_named c n sound i) u f rows) r.1 in
    subst (λ (y : StatementResult × PlainDatabase). IsValid c y.1) (same_ok _ _ r.2) (with_rows_valid c d n r.0.1 i after v)

statement_by : (c : Contents) (gateway : List ℕ) (s : RowStatement) (d : PlainDatabase) (x : StatementResult × PlainDatabase) (o : Option Named) → IsSoundCatalog c → TextsAreUtf8 s
    → IsValid c d → named_table c (table_name s) ≡ o → option_map_or (on_table gateway s d) o (Err S42P01) ≡ Ok x → IsValid c x.1
statement_by c gateway s d x None sound u v f e = absurd (cc)
statement_by c gateway s d x (Some n) sound u v f e =
    table_by c gateway s d n x (check_fault n.table n.database s) sound (is_named c (table_name s) n f) u v refl e

pub statement_valid : (c : Contents) (gateway : List ℕ) (s : RowStatement) (d : PlainDatabase) (x : StatementResult × PlainDatabase) → IsSoundCatalog c → TextsAreUtf8 s
    → IsValid c d → exec_statement c gateway s d ≡ Ok x → IsValid c x.1
unfolding exec_statement
statement_valid c gateway s d x sound u v e = statement_by c gateway s d x (named_table c (table_name s)) sound u v refl e

list_valid : (c : Contents) (gateway : List ℕ) (list : List RowStatement) (d : PlainDatabase) (x : List StatementResult × PlainDatabase) → IsSoundCatalog c
    → AllByRecursion TextsAreUtf8 list → IsValid c d → exec_list c gateway list d ≡ Ok x → IsValid c x.1
unfolding exec_list
list_valid c gateway [] d x sound u v e = subst (λ (y : List StatementResult × PlainDatabase). IsValid c y.1) (same_ok _ _ e) v
list_valid c gateway (s ∷ ss) d x sound u v e =
    let first = came (exec_statement c gateway s d) _ x e in
    let rest = came (exec_list c gateway ss first.0.1) _ x first.2 in
    subst (λ (y : List StatementResult × PlainDatabase). IsValid c y.1) (same_ok _ _ rest.2)
    (list_valid c gateway ss first.0.1 rest.0 sound u.1 (statement_valid c gateway s d first.0 sound u.0 v first.1) rest.1)

pub exec_keeps : ExecKeepsValid
unfolding exec
exec_keeps c gateway list d after answers sound texts valid e =
    let r = came list (λ ss. exec_list c gateway ss d) (answers, after) e in
    list_valid c gateway r.0 d (answers, after) sound (recursion_from_All TextsAreUtf8 r.0 (subst (λ (l : Result (List RowStatement) SqlState). HaveTexts l) r.1 texts)) valid r.2
