-- A column that is read from a row's value is the one that was written, and what was written is read again.
use Rattle.std.proofs.Common.{◌≡◌, ℕ, ℤ, pos, negsuc, ◌^◌, ◌<◌, ◌≤◌, Bool, true, false, cond, ltb, eqb, List, [], ◌∷◌, ◌++◌, length, take, drop, Some, None, refl, sym, ap, subst, ◌∙◌, append_assoc, arith, inl, inr}
use Rattle.std.specs.Prelude.{option_and_then, option_map, FitsSigned, IsUtf8}
use Rattle.std.specs.Int.{w32, w64, to_be_bytes, cast_signed, cast_unsigned, from_bool}
use Rattle.std.specs.Str.{is_utf8}
use Rattle.std.proofs.lemmas.Bool.{eqb-true, ltb-false, le-ltb}
use Rattle.std.proofs.lemmas.Int.{of_z-to_z, to_z-of_z}
use Rattle.std.proofs.lemmas.List.{take_at, drop_at, take-append-drop, length-append, length-take}
use Rattle.std.proofs.lemmas.Option.{same_Some}
use Rattle.std.proofs.lemmas.Str.{IsUtf8-from_is_utf8, is_utf8-from_IsUtf8}
use mir.Facts.{sfits_to_z}
use Rattle.mr_base.specs.declared.rows.Datum.{Datum}
use Rattle.mr_base.specs.declared.rows.Datum.TheVariants as datums
use Rattle.region_sql.specs.declared.region_statements.ColumnType.{ColumnType}
use Rattle.region_sql.specs.declared.region_statements.ColumnType.TheVariants as types
use Rattle.row_locality.specs.Rows.{HasType}
use Rattle.row_locality.specs.Values.{value_part, HasLength}
use Rattle.row_locality.specs.Reading.{bool_at, int_at, text_at, measured_text_at, column_at}
use Rattle.row_locality.proofs.FrontLemmas.{IsBytes, bytes_drop, bytes_rest, passed, failed, chosen, bind_some, map_some, enough, enough_then, Takes, Takes-then, number_at, wide32, wide64, number_takes, number_again}

-- a value of this type, spelled so, stood in front of the rest
pub record TakesColumn (ty : ColumnType) (bytes : List ℕ) (x : Datum × List ℕ) : Type 0 where
  pub typed : HasType ty x.0
  pub length_fits : HasLength x.0
  pub taken : Takes bytes (value_part x.0) x.1

tagged : (tag k : ℕ) (bytes spelled rest : List ℕ) → tag ≡ k → Takes bytes spelled rest → Takes (tag ∷ bytes) (k ∷ spelled) rest
tagged tag k bytes spelled rest e t = record { parts = ap (λ (j : ℕ). j ∷ bytes) e ∙ ap (λ (s : List ℕ). k ∷ s) t.parts; rest_bytes = t.rest_bytes }

-- ---- BOOL

pub bool_takes : (bytes : List ℕ) (x : Datum × List ℕ) → IsBytes bytes → bool_at bytes ≡ Some x → (b : Bool) × (datums.Bool b ≡ x.0) × Takes bytes (from_bool b ∷ []) x.1
unfolding bool_at
bool_takes [] x fits e = absurd cc
bool_takes (b ∷ bytes) x fits e =
    elim (chosen (eqb b 0) (Some (datums.Bool false, bytes)) (cond (eqb b 1) (Some (datums.Bool true, bytes)) None) x e) [
      | inl zero ↦
          let is = same_Some (datums.Bool false, bytes) x zero.1 in
          let rest : bytes ≡ x.1 = ap (λ (p : Datum × List ℕ). p.1) is in
          (false, ap (λ (p : Datum × List ℕ). p.0) is, record { parts = rw (eqb-true b 0 zero.0, rest) refl; rest_bytes = rw (← rest) (bytes_rest b bytes fits) })
      | inr other ↦
          let one = passed (eqb b 1) (Some (datums.Bool true, bytes)) x other.1 in
          let is = same_Some (datums.Bool true, bytes) x one.1 in
          let rest : bytes ≡ x.1 = ap (λ (p : Datum × List ℕ). p.1) is in
          (true, ap (λ (p : Datum × List ℕ). p.0) is, record { parts = rw (eqb-true b 1 one.0, rest) refl; rest_bytes = rw (← rest) (bytes_rest b bytes fits) })
    ]

pub bool_again : (b : Bool) (rest : List ℕ) → bool_at (from_bool b ∷ rest) ≡ Some (datums.Bool b, rest)
unfolding bool_at
bool_again false rest = refl
bool_again true rest = refl

-- ---- INT

abbrev signed : ℕ × List ℕ → Datum × List ℕ
signed y = (datums.Int (cast_signed w64 y.0), y.1)

int_is : (bytes : List ℕ) → int_at bytes ≡ option_map signed (number_at w64 bytes)
unfolding int_at
int_is bytes = enough (ltb (length bytes) 8) signed _

int_takes : (bytes : List ℕ) (x : Datum × List ℕ) → IsBytes bytes → int_at bytes ≡ Some x
    → (n : ℤ) × (datums.Int n ≡ x.0) × FitsSigned w64 n × Takes bytes (to_be_bytes w64 (cast_unsigned w64 n)) x.1
int_takes bytes x fits e =
    let m = map_some signed (number_at w64 bytes) x (sym (int_is bytes) ∙ e) in
    let t = number_takes w64 (2 ^ 64) wide64 bytes m.0 fits m.1 in
    let rest : m.0.1 ≡ x.1 = ap (λ (p : Datum × List ℕ). p.1) m.2 in (
      cast_signed w64 m.0.0,
      ap (λ (p : Datum × List ℕ). p.0) m.2,
      sfits_to_z {w = w64} {n = m.0.0} (record { fits = t.1 }),
      subst (λ (s : List ℕ). Takes bytes (to_be_bytes w64 (cast_unsigned w64 (cast_signed w64 m.0.0))) s) rest
          (subst (λ (k : ℕ). Takes bytes (to_be_bytes w64 k) m.0.1) (sym (of_z-to_z w64 m.0.0 t.1)) t.0),
    )

unsigned_fits : (n : ℤ) → FitsSigned w64 n → cast_unsigned w64 n < 2 ^ 64
unsigned_fits (pos n) h = omega (arith, h)
unsigned_fits (negsuc n) h = omega (arith, h)

int_again : (n : ℤ) (rest : List ℕ) → FitsSigned w64 n → int_at (to_be_bytes w64 (cast_unsigned w64 n) ++ rest) ≡ Some (datums.Int n, rest)
int_again n rest fits =
    int_is (to_be_bytes w64 (cast_unsigned w64 n) ++ rest) ∙ ap (option_map signed) (number_again w64 (2 ^ 64) wide64 (cast_unsigned w64 n) rest (unsigned_fits n fits))
    ∙ ap (λ (k : ℤ). Some (datums.Int k, rest)) (to_z-of_z w64 n fits)

-- ---- STRING

text_takes : (n : ℕ) (bytes : List ℕ) (x : Datum × List ℕ) → IsBytes bytes → text_at n bytes ≡ Some x → (s : List ℕ) × (datums.Text s ≡ x.0) × (length s ≡ n) × IsUtf8 s × Takes bytes s x.1
unfolding text_at
text_takes n bytes x fits e =
    let long = failed (ltb (length bytes) n) (cond (is_utf8 (take n bytes)) (Some (datums.Text (take n bytes), drop n bytes)) None) x e in
    let text = passed (is_utf8 (take n bytes)) (Some (datums.Text (take n bytes), drop n bytes)) x long.1 in
    let is = same_Some (datums.Text (take n bytes), drop n bytes) x text.1 in
    let rest : drop n bytes ≡ x.1 = ap (λ (p : Datum × List ℕ). p.1) is in
    let enough : n ≤ length bytes = ltb-false _ _ long.0 in (
      take n bytes,
      ap (λ (p : Datum × List ℕ). p.0) is,
      omega (arith, length-take n bytes),
      IsUtf8-from_is_utf8 (take n bytes) text.0,
      record { parts = rw (← rest) (sym (take-append-drop n bytes)); rest_bytes = rw (← rest) (bytes_drop n bytes fits) },
    )

text_again : (s rest : List ℕ) → IsUtf8 s → text_at (length s) (s ++ rest) ≡ Some (datums.Text s, rest)
unfolding text_at
text_again s rest utf8 =
    let long : ltb (length (s ++ rest)) (length s) ≡ false = le-ltb _ _ (omega (arith, length-append s rest)) in
    rw (long, take_at s rest (length s) refl, drop_at s rest (length s) refl, is_utf8-from_IsUtf8 s utf8) refl

measured_is : (bytes : List ℕ) → measured_text_at bytes ≡ option_and_then (λ y. text_at y.0 y.1) (number_at w32 bytes)
unfolding measured_text_at
measured_is bytes = enough_then (ltb (length bytes) 4) (λ (y : ℕ × List ℕ). text_at y.0 y.1) _

measured_takes : (bytes : List ℕ) (x : Datum × List ℕ) → IsBytes bytes → measured_text_at bytes ≡ Some x
    → (s : List ℕ) × (datums.Text s ≡ x.0) × IsUtf8 s × (length s < 2 ^ 32) × Takes bytes (to_be_bytes w32 (length s) ++ s) x.1
measured_takes bytes x fits e =
    let m = bind_some (number_at w32 bytes) (λ y. text_at y.0 y.1) x (sym (measured_is bytes) ∙ e) in
    let t = number_takes w32 (2 ^ 32) wide32 bytes m.0 fits m.1 in
    let text = text_takes m.0.0 m.0.1 x t.0.rest_bytes m.2 in
    let s = text.0 in
    let len : length s ≡ m.0.0 = text.2 in
    let both : Takes bytes (to_be_bytes w32 m.0.0 ++ s) x.1 = Takes-then bytes (to_be_bytes w32 m.0.0) m.0.1 s x.1 t.0 text.4 in
    (s, text.1, text.3, omega (arith, t.1), subst (λ (k : ℕ). Takes bytes (to_be_bytes w32 k ++ s) x.1) (sym len) both)

measured_again : (s rest : List ℕ) → IsUtf8 s → length s < 2 ^ 32 → measured_text_at (to_be_bytes w32 (length s) ++ (s ++ rest)) ≡ Some (datums.Text s, rest)
measured_again s rest utf8 lt =
    measured_is (to_be_bytes w32 (length s) ++ (s ++ rest)) ∙ ap (option_and_then (λ (y : ℕ × List ℕ). text_at y.0 y.1)) (number_again w32 (2 ^ 32) wide32 (length s) (s ++ rest) lt) ∙ text_again s rest utf8

-- ---- columns

pub column_takes : (ty : ColumnType) (bytes : List ℕ) (x : Datum × List ℕ) → IsBytes bytes → column_at ty bytes ≡ Some x → TakesColumn ty bytes x
unfolding column_at value_part
column_takes types.Int [] x fits e = absurd cc
column_takes types.String [] x fits e = absurd cc
column_takes types.Bool [] x fits e = absurd cc
column_takes types.Int (tag ∷ bytes) x fits e =
    let one = passed (eqb tag 1) (int_at bytes) x e in
    let t = int_takes bytes x (bytes_rest tag bytes fits) one.1 in
    let taken = tagged tag 1 bytes (to_be_bytes w64 (cast_unsigned w64 t.0)) x.1 (eqb-true tag 1 one.0) t.3 in
    subst (λ (v : Datum). TakesColumn types.Int (tag ∷ bytes) (v, x.1)) t.1 (record { typed = t.2; length_fits = tt; taken = taken })
column_takes types.String (tag ∷ bytes) x fits e =
    let two = passed (eqb tag 2) (measured_text_at bytes) x e in
    let t = measured_takes bytes x (bytes_rest tag bytes fits) two.1 in
    let taken = tagged tag 2 bytes (to_be_bytes w32 (length t.0) ++ t.0) x.1 (eqb-true tag 2 two.0) t.4 in
    subst (λ (v : Datum). TakesColumn types.String (tag ∷ bytes) (v, x.1)) t.1 (record { typed = t.2; length_fits = t.3; taken = taken })
column_takes types.Bool (tag ∷ bytes) x fits e =
    let three = passed (eqb tag 3) (bool_at bytes) x e in
    let t = bool_takes bytes x (bytes_rest tag bytes fits) three.1 in
    let taken = tagged tag 3 bytes (from_bool t.0 ∷ []) x.1 (eqb-true tag 3 three.0) t.2 in
    subst (λ (v : Datum). TakesColumn types.Bool (tag ∷ bytes) (v, x.1)) t.1 (record { typed = tt; length_fits = tt; taken = taken })

pub column_again : (ty : ColumnType) (v : Datum) (rest : List ℕ) → HasType ty v → HasLength v → column_at ty (value_part v ++ rest) ≡ Some (v, rest)
unfolding column_at value_part
column_again types.Int (datums.Int n) rest fits len = int_again n rest fits
column_again types.Int (datums.Text s) rest fits len = absurd fits
column_again types.Int (datums.Bool b) rest fits len = absurd fits
column_again types.String (datums.Text s) rest fits len = ap measured_text_at (append_assoc (to_be_bytes w32 (length s)) s rest) ∙ measured_again s rest fits len
column_again types.String (datums.Int n) rest fits len = absurd fits
column_again types.String (datums.Bool b) rest fits len = absurd fits
column_again types.Bool (datums.Bool b) rest fits len = bool_again b rest
column_again types.Bool (datums.Int n) rest fits len = absurd fits
column_again types.Bool (datums.Text s) rest fits len = absurd fits
