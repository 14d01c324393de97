-- Values that suit columns: literals, other columns and sums that statements may set them to.
use Rattle.std.proofs.Common.{◌≡◌, ℕ, ℤ, pos, negsuc, ◌<◌, ◌^◌, Bool, true, false, not, ◌&&◌, List, refl, sym, subst, arith}
use Rattle.std.specs.Prelude.{⊤, FitsSigned, IsUtf8, Option, Some, None, option_and_then, option_map}
use Rattle.std.specs.Int.{w64}
use Rattle.std.specs.List.{AllZip}
use Rattle.std.specs.Str.{bytes_eq}
use Rattle.std.proofs.lemmas.Bool.Decides.{nat_tests}
use Rattle.std.proofs.lemmas.Option.{none-some, same_Some}
use Rattle.mr_base.specs.declared.rows.Datum.{Datum}
use Rattle.mr_base.specs.declared.rows.Datum.TheVariants as datums
use Rattle.mr_base.specs.declared.states.SqlState.{SqlState}
use Rattle.region_sql.specs.TextLiterals.{IsUtf8Literal, IsUtf8Value}
use Rattle.region_sql.specs.declared.region_statements.ColumnType.{ColumnType}
use Rattle.region_sql.specs.declared.region_statements.ColumnType.TheVariants as types
use Rattle.region_sql.specs.declared.row_statements.Literal.{Literal}
use Rattle.region_sql.specs.declared.row_statements.Literal.TheVariants as literals
use Rattle.region_sql.specs.declared.row_statements.Value.{Value}
use Rattle.region_sql.specs.declared.row_statements.Value.TheVariants as values
use Rattle.descriptors.specs.declared.database.Database.{Database}
use Rattle.descriptors.specs.declared.table.Table.{Table}
use Rattle.descriptors.specs.Lists.{has_name}
use Rattle.row_locality.specs.Rows.{HasType, all_columns}
use Rattle.sql_eval.specs.Faults.{is_among, is_int, is_literal_of, is_same_type, column_fault, column_named, literal_fault, may_take, sum_fault, value_fault}
use Rattle.sql_eval.specs.RowWords.{datum_of, fits_int, is_in_range, is_region_column, minus, new_value, plus, value_in}
use Rattle.answer_laws.proofs.BuiltLists.{value_found}
use Rattle.answer_laws.proofs.TableColumns.{Column}
use Rattle.answer_laws.proofs.NoFaults.{allowed, both_true, not_false, passed, then_true, unless_true}

-- ---- kinds of values

-- a value of this type, of whatever size
abbrev pub IsOfKind : ColumnType → Datum → Type 0
IsOfKind types.Int (datums.Int n) = ⊤
IsOfKind types.String (datums.Text s) = IsUtf8 s
IsOfKind types.Bool (datums.Bool b) = ⊤
IsOfKind ty v = ⊥

int_fits : (n : ℤ) → fits_int n ≡ true → FitsSigned w64 n
int_fits (pos n) e =
    let h : n < 2 ^ 63 = grind (arith, nat_tests) in
    record { sfits = omega (arith, h) }
int_fits (negsuc n) e =
    let h : n < 2 ^ 63 = grind (arith, nat_tests) in
    record { sfits = omega (arith, h) }

pub kind_typed : (ty : ColumnType) (v : Datum) → IsOfKind ty v → is_in_range v ≡ true → HasType ty v
kind_typed types.Int (datums.Int n) h e = int_fits n e
kind_typed types.Int (datums.Text s) h e = absurd h
kind_typed types.Int (datums.Bool b) h e = absurd h
kind_typed types.String (datums.Int n) h e = absurd h
kind_typed types.String (datums.Text s) h e = h
kind_typed types.String (datums.Bool b) h e = absurd h
kind_typed types.Bool (datums.Int n) h e = absurd h
kind_typed types.Bool (datums.Text s) h e = absurd h
kind_typed types.Bool (datums.Bool b) h e = tt

pub type_kind : (ty : ColumnType) (v : Datum) → HasType ty v → IsOfKind ty v
type_kind types.Int (datums.Int n) h = tt
type_kind types.Int (datums.Text s) h = absurd h
type_kind types.Int (datums.Bool b) h = absurd h
type_kind types.String (datums.Int n) h = absurd h
type_kind types.String (datums.Text s) h = h
type_kind types.String (datums.Bool b) h = absurd h
type_kind types.Bool (datums.Int n) h = absurd h
type_kind types.Bool (datums.Text s) h = absurd h
type_kind types.Bool (datums.Bool b) h = tt

-- a text that is one of these names
abbrev pub is_named_among : List (List ℕ) → Datum → Bool
is_named_among names (datums.Int n) = false
is_named_among names (datums.Text s) = has_name names s
is_named_among names (datums.Bool b) = false

-- a value of the column's type; in the region's column it is one of the regions
pub record Suits (regions : List (List ℕ)) (c : Column) (v : Datum) : Type 0 where
  pub kind : IsOfKind c.1 v
  pub region : is_region_column c.0 ≡ true → is_named_among regions v ≡ true

-- ---- literals

literal_kind : (ty : ColumnType) (l : Literal) → IsUtf8Literal l → is_literal_of ty l ≡ true → IsOfKind ty (datum_of l)
literal_kind types.Int (literals.Int n) u e = tt
literal_kind types.Int (literals.Text s) u e = absurd (cc)
literal_kind types.Int (literals.Bool b) u e = absurd (cc)
literal_kind types.String (literals.Int n) u e = absurd (cc)
literal_kind types.String (literals.Text s) u e = u
literal_kind types.String (literals.Bool b) u e = absurd (cc)
literal_kind types.Bool (literals.Int n) u e = absurd (cc)
literal_kind types.Bool (literals.Text s) u e = absurd (cc)
literal_kind types.Bool (literals.Bool b) u e = tt

literal_among : (regions : List (List ℕ)) (l : Literal) → is_among regions l ≡ true → is_named_among regions (datum_of l) ≡ true
literal_among regions (literals.Int n) e = e
literal_among regions (literals.Text s) e = e
literal_among regions (literals.Bool b) e = e

pub literal_suits : (d : Database) (c : Column) (l : Literal) → IsUtf8Literal l → literal_fault d c l ≡ None → Suits d.regions c (datum_of l)
literal_suits d c l u e =
    let typed = passed (not (is_literal_of c.1 l)) _ _ e in
    let ranged = passed (not (is_in_range (datum_of l))) _ _ typed.1 in
    let placed = passed (is_region_column c.0 && not (is_among d.regions l)) _ _ ranged.1 in
    record {
      kind = literal_kind c.1 l u (not_false (is_literal_of c.1 l) typed.0);
      region = λ r. literal_among d.regions l (then_true (is_region_column c.0) (is_among d.regions l) placed.0 r);
    }

-- ---- other columns

same_type : (a b : ColumnType) → is_same_type a b ≡ true → a ≡ b
same_type types.Int types.Int e = refl
same_type types.Int types.String e = absurd (cc)
same_type types.Int types.Bool e = absurd (cc)
same_type types.String types.Int e = absurd (cc)
same_type types.String types.String e = refl
same_type types.String types.Bool e = absurd (cc)
same_type types.Bool types.Int e = absurd (cc)
same_type types.Bool types.String e = absurd (cc)
same_type types.Bool types.Bool e = refl

column_suits : (regions : List (List ℕ)) (target source : Column) (v : Datum) → column_fault target source ≡ None → Suits regions source v → Suits regions target v
column_suits regions target source v e s =
    let may = both_true (is_same_type target.1 source.1) _ (allowed (may_take target source) _ e) in
    record {
      kind = subst (λ (ty : ColumnType). IsOfKind ty v) (sym (same_type target.1 source.1 may.0)) s.kind;
      region = λ r. s.region (unless_true (is_region_column target.0) (is_region_column source.0) may.1 r);
    }

-- ---- sums

is_int_type : (ty : ColumnType) → is_int ty ≡ true → ty ≡ types.Int
is_int_type types.Int e = refl
is_int_type types.String e = absurd (cc)
is_int_type types.Bool e = absurd (cc)

plus_kind : (by : ℤ) (v : Datum) → IsOfKind types.Int v → IsOfKind types.Int (plus by v)
plus_kind by (datums.Int n) h = tt
plus_kind by (datums.Text s) h = absurd h
plus_kind by (datums.Bool b) h = absurd h

minus_kind : (by : ℤ) (v : Datum) → IsOfKind types.Int v → IsOfKind types.Int (minus by v)
minus_kind by (datums.Int n) h = tt
minus_kind by (datums.Text s) h = absurd h
minus_kind by (datums.Bool b) h = absurd h

sum_suits : (regions : List (List ℕ)) (target source : Column) (by : Literal) (f : Datum → Datum) (v : Datum)
    → ((w : Datum) → IsOfKind types.Int w → IsOfKind types.Int (f w)) → (is_region_column target.0 ≡ true → target.1 ≡ types.String)
    → sum_fault by target source ≡ None → Suits regions source v → Suits regions target (f v)
sum_suits regions target source by f v keeps text e s =
    let ints = both_true (is_int target.1) (is_int source.1) (not_false _ (passed (not (is_int target.1 && is_int source.1)) _ _ e).0) in
    let target_int : target.1 ≡ types.Int = is_int_type target.1 ints.0 in
    let source_int : source.1 ≡ types.Int = is_int_type source.1 ints.1 in
    let old : IsOfKind types.Int v = subst (λ (ty : ColumnType). IsOfKind ty v) source_int s.kind in
    record {
      kind = subst (λ (ty : ColumnType). IsOfKind ty (f v)) (sym target_int) (keeps v old);
      region = λ r. absurd (cc (target_int, text r));
    }

-- ---- values of UPDATE

fault_of : {A : Type 0} (f : A → Option SqlState) (o : Option A) (x : A) → option_and_then f o ≡ None → o ≡ Some x → f x ≡ None
fault_of f o x e g = subst (λ p. option_and_then f p ≡ None) g e

-- a value in a column suits the column of that name
pub named_suits : (t : Table) (regions : List (List ℕ)) (row : List Datum) (name : List ℕ) (v : Datum) → AllZip (Suits regions) (all_columns t) row
    → value_in t row name ≡ Some v → (source : Column) × (column_named t name ≡ Some source) × Suits regions source v
named_suits t regions row name v h e = value_found (Suits regions) (λ (c : Column). bytes_eq name c.0) (all_columns t) row v h e

mapped : (f : Datum → Datum) (o : Option Datum) (v : Datum) → option_map f o ≡ Some v → (w : Datum) × (o ≡ Some w) × (f w ≡ v)
mapped f None v e = absurd (none-some v e)
mapped f (Some w) v e = (w, refl, same_Some (f w) v e)

-- a value that UPDATE may set a column to suits it
pub value_suits : (t : Table) (d : Database) (old : List Datum) (c : Column) (value : Value) (v : Datum) → IsUtf8Value value
    → AllZip (Suits d.regions) (all_columns t) old → (is_region_column c.0 ≡ true → c.1 ≡ types.String)
    → value_fault t d c value ≡ None → new_value t old value ≡ Some v → Suits d.regions c v
value_suits t d old c (values.Literal l) v u h text e n = subst (Suits d.regions c) (same_Some (datum_of l) v n) (literal_suits d c l u e)
value_suits t d old c (values.Column name) v u h text e n =
    let s = named_suits t d.regions old name v h n in
    column_suits d.regions c s.0 v (fault_of (column_fault c) (column_named t name) s.0 e s.1) s.2
value_suits t d old c (values.Plus name by) v u h text e n =
    let m = mapped (plus by) (value_in t old name) v n in
    let s = named_suits t d.regions old name m.0 h m.1 in
    subst (Suits d.regions c) m.2
    (sum_suits d.regions c s.0 (literals.Int by) (plus by) m.0 (plus_kind by) text (fault_of (sum_fault (literals.Int by) c) (column_named t name) s.0 e s.1) s.2)
value_suits t d old c (values.Minus name by) v u h text e n =
    let m = mapped (minus by) (value_in t old name) v n in
    let s = named_suits t d.regions old name m.0 h m.1 in
    subst (Suits d.regions c) m.2
    (sum_suits d.regions c s.0 (literals.Int by) (minus by) m.0 (minus_kind by) text (fault_of (sum_fault (literals.Int by) c) (column_named t name) s.0 e s.1) s.2)
