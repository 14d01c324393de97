-- The rows that UPDATE makes are such that their table may hold.
use Rattle.std.proofs.Common.{◌≡◌, ℕ, ◌+◌, Bool, true, false, cond, List, [], ◌∷◌, refl, sym, ap, ◌∙◌, subst, arith}
use Rattle.std.specs.Prelude.{find, IsSomeAnd, slice_get, Option, Some, None, option_and_then}
use Rattle.std.specs.List.{AllByRecursion, AllZip}
use Rattle.std.specs.Option.{option_or}
use Rattle.std.specs.Str.{bytes_eq}
use Rattle.std.proofs.lemmas.Option.{none-some, same_Some}
use Rattle.mr_base.specs.declared.rows.Datum.{Datum}
use Rattle.region_sql.specs.TextLiterals.{IsUtf8Value}
use Rattle.region_sql.specs.declared.region_statements.ColumnType.TheVariants as types
use Rattle.region_sql.specs.declared.row_statements.Target.{Target}
use Rattle.descriptors.specs.Sound.{IsSoundTable}
use Rattle.descriptors.specs.declared.database.Database.{Database}
use Rattle.descriptors.specs.declared.table.Table.{Table}
use Rattle.descriptors.proofs.Found.{same_bytes}
use Rattle.row_locality.specs.Rows.{all_columns}
use Rattle.sql_eval.specs.Faults.{column_named, target_value_fault, value_fault}
use Rattle.sql_eval.specs.RowWords.{changed_row, is_region_column, new_value, set_value}
use Rattle.answer_laws.proofs.BuiltLists.{built_from, has_at, zip_at}
use Rattle.answer_laws.proofs.ColumnValues.{Suits, value_suits}
use Rattle.answer_laws.proofs.Members.{Has, each_has, find_has}
use Rattle.answer_laws.proofs.RowOrder.{Row}
use Rattle.answer_laws.proofs.TableColumns.{Column, column_of_name, region_is_text}

-- what a target of an UPDATE has to be
abbrev pub IsTarget : Table → Database → Target → Type 0
IsTarget t d x = IsUtf8Value x.value × (target_value_fault t d x ≡ None)

found_passes : {X : Type 0} (p : X → Bool) (xs : List X) (x : X) → find p xs ≡ Some x → p x ≡ true
found_passes p [] x e = absurd (none-some x e)
found_passes {X} p (y ∷ ys) x e = by (p y) refl (found_passes p ys x)
  where
    by : (b : Bool) → p y ≡ b → (find p ys ≡ Some x → p x ≡ true) → p x ≡ true
    by true q rest = subst (λ (z : X). p z ≡ true) (same_Some y x (sym (ap (λ b. cond b (Some y) (find p ys)) q) ∙ e)) q
    by false q rest = rest (sym (ap (λ b. cond b (Some y) (find p ys)) q) ∙ e)

-- a new value, or else the old one
new_or_old : (P : Datum → Type 0) (o kept : Option Datum) → ((v : Datum) → o ≡ Some v → P v) → IsSomeAnd kept P → IsSomeAnd (option_or o kept) P
new_or_old P None kept f h = h
new_or_old P (Some v) kept f h = f v refl

set_by : (t : Table) (d : Database) (targets : List Target) (old : Row) (c : Column) (o : Option Target) (kept : Option Datum)
    → find (λ x. bytes_eq c.0 x.column) targets ≡ o → AllByRecursion (IsTarget t d) targets → AllZip (Suits d.regions) (all_columns t) old
    → column_named t c.0 ≡ Some c → (is_region_column c.0 ≡ true → c.1 ≡ types.String) → IsSomeAnd kept (Suits d.regions c)
    → IsSomeAnd (option_or (option_and_then (λ x. new_value t old x.value) o) kept) (Suits d.regions c)
set_by t d targets old c None kept at h s n text k = k
set_by t d targets old c (Some x) kept at h s n text k =
    let is : IsTarget t d x = each_has (IsTarget t d) x targets h (find_has (λ y. bytes_eq c.0 y.column) targets x at) in
    let same : c.0 ≡ x.column = same_bytes c.0 x.column (found_passes (λ (y : Target). bytes_eq c.0 y.column) targets x at) in
    let column : column_named t x.column ≡ Some c = subst (λ (name : List ℕ). column_named t name ≡ Some c) same n in
    let free : value_fault t d c x.value ≡ None = subst (λ (p : Option Column). option_and_then (λ y. value_fault t d y x.value) p ≡ None) column is.1 in
    new_or_old (Suits d.regions c) (new_value t old x.value) kept (λ v e. value_suits t d old c x.value v is.0 s text free e) k

-- the values of a row that UPDATE makes suit the columns
pub changed_suits : (t : Table) (d : Database) (targets : List Target) (old : Row) → IsSoundTable t → AllByRecursion (IsTarget t d) targets
    → AllZip (Suits d.regions) (all_columns t) old → AllZip (Suits d.regions) (all_columns t) (changed_row t targets old)
unfolding changed_row
changed_suits t d targets old sound h s = built_from (Suits d.regions) (λ (x : ℕ × Column). option_or (set_value t targets old x.1.0) (slice_get old x.0)) 0 (all_columns t) at
  where
    at : (k : ℕ) (c : Column) → slice_get (all_columns t) k ≡ Some c → IsSomeAnd (option_or (set_value t targets old c.0) (slice_get old (0 + k))) (Suits d.regions c)
    at k c e =
        let m : Has c (all_columns t) = has_at (all_columns t) k c e in
        let here : k ≡ 0 + k = omega arith in
        let kept : IsSomeAnd (slice_get old (0 + k)) (Suits d.regions c) = subst (λ (i : ℕ). IsSomeAnd (slice_get old i) (Suits d.regions c)) here (zip_at (Suits d.regions) (all_columns t) old k c s e) in
        set_by t d targets old c (find (λ x. bytes_eq c.0 x.column) targets) (slice_get old (0 + k)) refl h s (column_of_name t c sound m) (region_is_text t c sound m) kept
