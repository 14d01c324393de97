-- A row that a table may hold is one of values that suit its columns, checked as statements check it.
use Rattle.std.proofs.Common.{◌≡◌, ℕ, Bool, true, false, cond, List, [], ◌∷◌, ◌++◌, length, map, refl, subst}
use Rattle.std.specs.Prelude.{if◌then◌else◌, slice_get, Contains, IfSome, IsSomeAnd, Option, Some, None, option_and_then, Ok}
use Rattle.std.specs.List.{AllByRecursion, AllZip, list_all}
use Rattle.mr_base.specs.declared.rows.Datum.{Datum}
use Rattle.mr_base.specs.declared.rows.Datum.TheVariants as datums
use Rattle.mr_base.specs.declared.states.SqlState.TheVariants.{S22003, S54000}
use Rattle.region_sql.specs.declared.region_statements.ColumnType.TheVariants as types
use Rattle.descriptors.specs.Contents.{Contents}
use Rattle.descriptors.specs.Sound.{IsSoundTable}
use Rattle.descriptors.specs.declared.table.Table.{Table}
use Rattle.descriptors.proofs.Found.{named, has_named}
use Rattle.row_locality.specs.Plain.{IsRowOf, regions_of}
use Rattle.row_locality.specs.Rows.{HasType, all_columns, is_by_row, region_column, text_of}
use Rattle.row_locality.specs.Values.{is_small}
use Rattle.sql_eval.specs.RowWords.{all_values, checked_row, is_in_range, is_region_column, or_fault}
use Rattle.answer_laws.proofs.BuiltLists.{zip_each, zip_last}
use Rattle.answer_laws.proofs.ColumnValues.{Suits, is_named_among, kind_typed, type_kind}
use Rattle.answer_laws.proofs.KeepsValid.{came}
use Rattle.answer_laws.proofs.RowOrder.{Row}
use Rattle.answer_laws.proofs.TableColumns.{Column, none_hidden}
use Rattle.answer_laws.proofs.NoFaults.{every, same_ok}

-- ---- where a row lives

text_among : (regions : List (List ℕ)) (v : Datum) → is_named_among regions v ≡ true → IfSome (text_of v) (Contains regions)
text_among regions (datums.Int n) e = absurd (cc)
text_among regions (datums.Text s) e = named regions s e
text_among regions (datums.Bool b) e = absurd (cc)

-- a row whose last value suits the region's column lives in one of the regions
lives_by : (b : Bool) (regions : List (List ℕ)) (columns : List Column) (row : Row) → AllZip (Suits regions) (cond b (columns ++ region_column ∷ []) columns) row
    → IfSome (cond b (option_and_then text_of (slice_get row (length columns))) None) (Contains regions)
lives_by false regions columns row h = tt
lives_by true regions columns row h = by (slice_get row (length columns)) (zip_last (Suits regions) columns region_column row h)
  where
    by : (o : Option Datum) → IsSomeAnd o (Suits regions region_column) → IfSome (option_and_then text_of o) (Contains regions)
    by None k = absurd k
    by (Some v) k = text_among regions v (k.region refl)

-- ---- rows of values that suit

-- a row that is checked is as it was, in range and small
pub record IsChecked (t : Table) (row after : Row) : Type 0 where
  pub same : row ≡ after
  pub ranged : list_all is_in_range row ≡ true
  pub small : is_small t row ≡ true

checked_by : (t : Table) (row after : Row) (a b : Bool) → list_all is_in_range row ≡ a → is_small t row ≡ b
    → or_fault (if a then (if b then None else Some S54000) else Some S22003) row ≡ Ok after → IsChecked t row after
checked_by t row after true true r s e = record { same = same_ok row after e; ranged = r; small = s }
checked_by t row after true false r s e = absurd (cc)
checked_by t row after false b r s e = absurd (cc)

pub is_checked : (t : Table) (row after : Row) → checked_row t row ≡ Ok after → IsChecked t row after
is_checked t row after e = checked_by t row after (list_all is_in_range row) (is_small t row) refl refl e

-- a row of values that suit the columns, once checked, is one that the table may hold
pub suiting_row : (c : Contents) (t : Table) (row after : Row) → AllZip (Suits (regions_of c t)) (all_columns t) row → checked_row t row ≡ Ok after → IsRowOf c t after
suiting_row c t row after h e =
    let k = is_checked t row after e in
    subst (IsRowOf c t) k.same (record {
      fits = zip_each (Suits (regions_of c t)) (λ x v. HasType x.1 v) (λ v. is_in_range v ≡ true) (λ x v s r. kind_typed x.1 v s.kind r) (all_columns t) row h (every is_in_range row k.ranged);
      small = k.small;
      lives = lives_by (is_by_row t) (regions_of c t) t.columns row h;
    })

-- the rows that come out of such checks
pub suiting_rows : {A : Type 0} (c : Contents) (t : Table) (make : A → Row) (xs : List A) (rows : List Row)
    → AllByRecursion (λ x. AllZip (Suits (regions_of c t)) (all_columns t) (make x)) xs
    → all_values (map (λ x. checked_row t (make x)) xs) ≡ Ok rows → AllByRecursion (IsRowOf c t) rows
suiting_rows c t make [] rows h e = subst (AllByRecursion (IsRowOf c t)) (same_ok _ _ e) tt
suiting_rows c t make (x ∷ xs) rows h e =
    let first = came (checked_row t (make x)) _ rows e in
    let rest = came (all_values (map (λ y. checked_row t (make y)) xs)) _ rows first.2 in
    subst (AllByRecursion (IsRowOf c t)) (same_ok _ _ rest.2)
    (suiting_row c t (make x) first.0 h.0 first.1, suiting_rows c t make xs rest.0 h.1 rest.1)

-- ---- rows that a table holds

abbrev Typed : Column → Datum → Type 0
Typed c v = HasType c.1 v

plain_suits : (regions : List (List ℕ)) (c : Column) (v : Datum) → is_region_column c.0 ≡ false → HasType c.1 v → Suits regions c v
plain_suits regions c v e h = record { kind = type_kind c.1 v h; region = λ r. absurd (cc (e, r)) }

declared_suit : (regions : List (List ℕ)) (columns : List Column) (row : Row) → AllByRecursion (λ (c : Column). is_region_column c.0 ≡ false) columns
    → AllZip Typed columns row → AllZip (Suits regions) columns row
declared_suit regions [] [] n h = tt
declared_suit regions [] (v ∷ row) n h = absurd h
declared_suit regions (c ∷ cs) [] n h = absurd h
declared_suit regions (c ∷ cs) (v ∷ row) n h = (plain_suits regions c v n.0 h.0, declared_suit regions cs row n.1 h.1)

region_suits : (regions : List (List ℕ)) (v : Datum) → HasType types.String v → IfSome (text_of v) (Contains regions) → Suits regions region_column v
region_suits regions (datums.Int n) h l = absurd h
region_suits regions (datums.Text s) h l = record { kind = h; region = λ r. has_named regions s l }
region_suits regions (datums.Bool b) h l = absurd h

by_row_suit : (regions : List (List ℕ)) (columns : List Column) (row : Row) → AllByRecursion (λ (c : Column). is_region_column c.0 ≡ false) columns
    → AllZip Typed (columns ++ region_column ∷ []) row → IfSome (option_and_then text_of (slice_get row (length columns))) (Contains regions)
    → AllZip (Suits regions) (columns ++ region_column ∷ []) row
by_row_suit regions [] [] n h l = absurd h
by_row_suit regions [] (v ∷ []) n h l = (region_suits regions v h.0 l, tt)
by_row_suit regions [] (v ∷ w ∷ row) n h l = absurd h.1
by_row_suit regions (c ∷ cs) [] n h l = absurd h
by_row_suit regions (c ∷ cs) (v ∷ row) n h l = (plain_suits regions c v n.0 h.0, by_row_suit regions cs row n.1 h.1 l)

suits_by : (b : Bool) (regions : List (List ℕ)) (columns : List Column) (row : Row) → AllByRecursion (λ (c : Column). is_region_column c.0 ≡ false) columns
    → AllZip Typed (cond b (columns ++ region_column ∷ []) columns) row → IfSome (cond b (option_and_then text_of (slice_get row (length columns))) None) (Contains regions)
    → AllZip (Suits regions) (cond b (columns ++ region_column ∷ []) columns) row
suits_by true regions columns row n h l = by_row_suit regions columns row n h l
suits_by false regions columns row n h l = declared_suit regions columns row n h

-- the values of a row that the table may hold suit its columns
pub row_suits : (c : Contents) (t : Table) (row : Row) → IsSoundTable t → IsRowOf c t row → AllZip (Suits (regions_of c t)) (all_columns t) row
row_suits c t row sound h = suits_by (is_by_row t) (regions_of c t) t.columns row (none_hidden t sound) h.fits h.lives
