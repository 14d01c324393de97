-- The columns of a sound table: each is found by its name, and the region's is the only one of its name.
use Rattle.std.proofs.Common.{◌≡◌, ℕ, Bool, true, false, cond, List, [], ◌∷◌, ◌++◌, refl, sym, ap, ◌∙◌, inl, inr}
use Rattle.std.specs.Prelude.{◌≢◌, ◌⊎◌, find, map, Some, codes}
use Rattle.std.specs.List.{AllByRecursion}
use Rattle.std.specs.Str.{bytes_eq}
use Rattle.std.proofs.lemmas.List.Elements.{recursion_from_All}
use Rattle.std.proofs.lemmas.Slice.Eq.{bytes_eq-Decides}
use Rattle.region_sql.specs.declared.region_statements.ColumnType.{ColumnType}
use Rattle.region_sql.specs.declared.region_statements.ColumnType.TheVariants as types
use Rattle.descriptors.specs.Sound.{IsSoundTable}
use Rattle.descriptors.specs.declared.table.Table.{Table}
use Rattle.descriptors.proofs.Found.{same_bytes}
use Rattle.row_locality.specs.Rows.{all_columns, is_by_row, region_column}
use Rattle.sql_eval.specs.Faults.{column_named}
use Rattle.sql_eval.specs.RowWords.{is_region_column}
use Rattle.answer_laws.proofs.Lists.{each_weaker}
use Rattle.answer_laws.proofs.Members.{Has, each_has}
use Rattle.answer_laws.proofs.Pairwise.{EachTwo, each_two, two_append}

abbrev pub Column : Type 0
Column = List ℕ × ColumnType

same_name : (a b : List ℕ) → a ≡ b → bytes_eq a b ≡ true
same_name a b e = (bytes_eq-Decides a b).1 e

other_name : (a b : List ℕ) → a ≢ b → bytes_eq a b ≡ false
other_name a b h = by (bytes_eq a b) refl
  where
    by : (v : Bool) → bytes_eq a b ≡ v → bytes_eq a b ≡ false
    by true e = absurd (h (same_bytes a b e))
    by false e = e

-- ---- columns found by name

abbrev AreNamedApart : Column → Column → Type 0
AreNamedApart a b = a.0 ≢ b.0

-- of columns of distinct names each is the first of its name
found_distinct : (columns : List Column) (c : Column) → EachTwo AreNamedApart columns → Has c columns → find (λ x. bytes_eq c.0 x.0) columns ≡ Some c
found_distinct [] c h m = absurd m
found_distinct (x ∷ xs) c h (inl e) =
    ap (λ b. cond b (Some x) (find (λ y. bytes_eq c.0 y.0) xs)) (same_name c.0 x.0 (sym (ap (λ (y : Column). y.0) e))) ∙ ap Some e
found_distinct (x ∷ xs) c h (inr m) =
    let apart : x.0 ≢ c.0 = each_has (AreNamedApart x) c xs h.0 m in
    ap (λ b. cond b (Some x) (find (λ y. bytes_eq c.0 y.0) xs)) (other_name c.0 x.0 (λ e. apart (sym e))) ∙ found_distinct xs c h.1 m

names_apart : (columns : List Column) → EachTwo (λ a b. a ≢ b) (map (λ c. c.0) columns) → EachTwo AreNamedApart columns
names_apart [] h = tt
names_apart (c ∷ cs) h = (back cs h.0, names_apart cs h.1)
  where
    back : (ds : List Column) → AllByRecursion (λ b. c.0 ≢ b) (map (λ x. x.0) ds) → AllByRecursion (AreNamedApart c) ds
    back [] k = tt
    back (d ∷ ds) k = (k.0, back ds k.1)

-- ---- all columns of a table

columns_by : (b : Bool) (columns : List Column) (c : Column) → Has c (cond b (columns ++ region_column ∷ []) columns) → Has c columns ⊎ ((c ≡ region_column) × (b ≡ true))
columns_by false columns c m = inl m
columns_by true [] c (inl e) = inr (sym e, refl)
columns_by true [] c (inr m) = absurd m
columns_by true (x ∷ xs) c (inl e) = inl (inl e)
columns_by true (x ∷ xs) c (inr m) = next (columns_by true xs c m)
  where
    next : Has c xs ⊎ ((c ≡ region_column) × (true ≡ true)) → Has c (x ∷ xs) ⊎ ((c ≡ region_column) × (true ≡ true))
    next (inl h) = inl (inr h)
    next (inr h) = inr h

-- a column is declared, or the region of a table that is REGIONAL BY ROW
pub column_cases : (t : Table) (c : Column) → Has c (all_columns t) → Has c t.columns ⊎ ((c ≡ region_column) × (is_by_row t ≡ true))
column_cases t c m = columns_by (is_by_row t) t.columns c m

-- no declared column has the name of the region's
pub none_hidden : (t : Table) → IsSoundTable t → AllByRecursion (λ (c : Column). is_region_column c.0 ≡ false) t.columns
none_hidden t sound =
    each_weaker (λ (c : Column). c.0 ≢ codes "crdb_region") (λ (c : Column). is_region_column c.0 ≡ false) (λ c h. other_name c.0 (codes "crdb_region") h) t.columns
    (recursion_from_All (λ (c : Column). c.0 ≢ codes "crdb_region") t.columns sound.not_hidden)

all_apart : (b : Bool) (columns : List Column) → EachTwo AreNamedApart columns → AllByRecursion (λ (c : Column). c.0 ≢ codes "crdb_region") columns
    → EachTwo AreNamedApart (cond b (columns ++ region_column ∷ []) columns)
all_apart false columns h k = h
all_apart true columns h k =
    two_append AreNamedApart columns (region_column ∷ []) h (tt, tt)
    (each_weaker (λ (c : Column). c.0 ≢ codes "crdb_region") (λ c. AllByRecursion (AreNamedApart c) (region_column ∷ [])) (λ c n. (n, tt)) columns k)

-- each column is the one of its name
pub column_of_name : (t : Table) (c : Column) → IsSoundTable t → Has c (all_columns t) → column_named t c.0 ≡ Some c
column_of_name t c sound m =
    found_distinct (all_columns t) c
    (all_apart (is_by_row t) t.columns (names_apart t.columns (each_two (λ a b. a ≢ b) (map (λ x. x.0) t.columns) sound.named))
    (recursion_from_All (λ (x : Column). x.0 ≢ codes "crdb_region") t.columns sound.not_hidden))
    m

-- a column of the region's name holds text
pub region_is_text : (t : Table) (c : Column) → IsSoundTable t → Has c (all_columns t) → is_region_column c.0 ≡ true → c.1 ≡ types.String
region_is_text t c sound m e = by (column_cases t c m)
  where
    by : Has c t.columns ⊎ ((c ≡ region_column) × (is_by_row t ≡ true)) → c.1 ≡ types.String
    by (inl h) =
        let plain : is_region_column c.0 ≡ false = each_has (λ (x : Column). is_region_column x.0 ≡ false) c t.columns (none_hidden t sound) h in
        absurd (cc (e, plain))
    by (inr h) = ap (λ (x : Column). x.1) h.0
