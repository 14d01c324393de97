-- A row that is read from a pair is the one that was written, and what was written is read again.
use Rattle.std.proofs.Common.{◌≡◌, ℕ, Bool, true, false, cond, List, [], ◌∷◌, ◌++◌, length, take, All, Option, Some, None, Result, Ok, Err, refl, sym, ap, ap₂, subst, ◌∙◌, append_assoc}
use Rattle.std.specs.Prelude.{flat_map, option_and_then, IsUtf8, IsTrue, IsFalse, IfOk, IfErr, slice_get, bytes_eq}
use Rattle.std.specs.Cmp.Lexicographic.{bytes_decides}
use Rattle.std.specs.List.{AllZip, AllByRecursion}
use Rattle.std.proofs.lemmas.List.{append-nil, take_at}
use Rattle.std.proofs.lemmas.List.Elements.{All-from_recursion, recursion_from_All}
use Rattle.std.proofs.lemmas.Slice.Zip.{all_zipped_more, AllZip-long}
use Rattle.std.proofs.lemmas.Option.{same_Some, none-some}
use Rattle.std.proofs.lemmas.Result.{IfOk-weaker}
use Rattle.mr_base.specs.declared.memory.Memory.{Memory}
use Rattle.mr_base.specs.declared.rows.Datum.{Datum}
use Rattle.mr_base.specs.declared.rows.Datum.TheVariants as datums
use Rattle.region_sql.specs.declared.region_statements.ColumnType.{ColumnType}
use Rattle.descriptors.specs.declared.table.Table.{Table}
use Rattle.row_locality.specs.Rows.{HasType, Fits, is_by_row, region_column, text_of, region_of}
use Rattle.row_locality.specs.Keys.{primary_key}
use Rattle.row_locality.specs.Values.{value_part, value_of, HasLength}
use Rattle.row_locality.specs.Pairs.{KeyValue, row_pair, IsPairOf}
use Rattle.row_locality.specs.Reading.{column_at, at_end, columns_at, region_value, if_keyed, row_of}
use Rattle.row_locality.specs.declared.decode_fault.DecodeFault.{DecodeFault}
use Rattle.row_locality.specs.declared.decode_fault.DecodeFault.TheVariants as faults
use Rattle.row_locality.specs.Decoding.{IsRegionFor, IsDecodeFault, Reads}
use Rattle.row_locality.specs.ReadingLaws.{WhatIsWrittenIsRead}
use Rattle.row_locality.specs.Reshaping.{CanReshape}
use Rattle.row_locality.specs.Reshaped.{row_under, reshaped_row}
use Rattle.row_locality.proofs.EncodingLemmas.{small_lengths}
use Rattle.row_locality.proofs.ColumnLemmas.{column_takes, column_again}
use Rattle.row_locality.proofs.FrontLemmas.{IsBytes, passed, bind_some}

abbrev Columns : Type 0
Columns = List (List ℕ × ColumnType)

-- ---- columns

-- these columns were read behind those of before, all of the bytes
pub record AreColumns (columns : Columns) (before : List Datum) (bytes : List ℕ) (row : List Datum) : Type 0 where
  pub values : List Datum
  pub behind : before ++ values ≡ row
  pub typed : AllZip (λ c v. HasType c.1 v) columns values
  pub lengths_fit : AllByRecursion HasLength values
  pub spelled : bytes ≡ flat_map value_part values

pub ended : {X : Type 0} (x y : X) (bytes : List ℕ) → at_end x bytes ≡ Some y → (bytes ≡ []) × (x ≡ y)
ended x y [] e = (refl, same_Some x y e)
ended x y (b ∷ bytes) e = absurd cc

pub columns_take : (columns : Columns) (before : List Datum) (bytes : List ℕ) (row : List Datum) → IsBytes bytes → columns_at before bytes columns ≡ Some row → AreColumns columns before bytes row
unfolding columns_at
columns_take [] before bytes row fits e =
    let end = ended before row bytes e in
    record { values = []; behind = append-nil before ∙ end.1; typed = tt; lengths_fit = tt; spelled = end.0 }
columns_take (c ∷ columns) before bytes row fits e =
    let b = bind_some (column_at c.1 bytes) (λ x. columns_at (before ++ x.0 ∷ []) x.1 columns) row e in
    let first = column_takes c.1 bytes b.0 fits b.1 in
    let rest = columns_take columns (before ++ b.0.0 ∷ []) b.0.1 row first.taken.rest_bytes b.2 in
    record {
      values = b.0.0 ∷ rest.values;
      behind = sym (append_assoc before (b.0.0 ∷ []) rest.values) ∙ rest.behind;
      typed = (first.typed, rest.typed);
      lengths_fit = (first.length_fits, rest.lengths_fit);
      spelled = first.taken.parts ∙ ap (λ (s : List ℕ). value_part b.0.0 ++ s) rest.spelled;
    }

pub columns_again : (columns : Columns) (before values : List Datum) → AllZip (λ c v. HasType c.1 v) columns values → AllByRecursion HasLength values
    → columns_at before (flat_map value_part values) columns ≡ Some (before ++ values)
unfolding columns_at
columns_again [] before [] typed fit = ap Some (sym (append-nil before))
columns_again [] before (v ∷ values) typed fit = absurd typed
columns_again (c ∷ columns) before [] typed fit = absurd typed
columns_again (c ∷ columns) before (v ∷ values) typed fit =
    ap (option_and_then (λ (x : Datum × List ℕ). columns_at (before ++ x.0 ∷ []) x.1 columns)) (column_again c.1 v (flat_map value_part values) typed.0 fit.0)
    ∙ columns_again columns (before ++ v ∷ []) values typed.1 fit.1 ∙ ap Some (append_assoc before (v ∷ []) values)

-- ---- rows

-- a row's declared columns, and its region behind them
record AreParts (columns : Columns) (region : Option (List ℕ)) (row : List Datum) : Type 0 where
  values : List Datum
  typed : AllZip (λ c v. HasType c.1 v) columns values
  whole : values ++ region_value region ≡ row

taken : (columns : Columns) (region : Option (List ℕ)) (row : List Datum) → (parts : AreParts columns region row) → take (length columns) row ≡ parts.values
taken columns region row parts =
    rw (← parts.whole) (take_at parts.values (region_value region) (length columns) (AllZip-long (λ c v. HasType c.1 v) columns parts.values parts.typed))

-- the last value of a row that has one more than the columns
record HasLast (columns : Columns) (row : List Datum) : Type 0 where
  values : List Datum
  text : List ℕ
  typed : AllZip (λ c v. HasType c.1 v) columns values
  utf8 : IsUtf8 text
  whole : values ++ datums.Text text ∷ [] ≡ row
  last : slice_get row (length columns) ≡ Some (datums.Text text)

last_text : (columns : Columns) (row : List Datum) → AllZip (λ c v. HasType c.1 v) (columns ++ region_column ∷ []) row → HasLast columns row
last_text [] [] fits = absurd fits
last_text [] (datums.Text s ∷ []) fits = record { values = []; text = s; typed = tt; utf8 = fits.0; whole = refl; last = refl }
last_text [] (datums.Int n ∷ row) fits = absurd fits.0
last_text [] (datums.Bool b ∷ row) fits = absurd fits.0
last_text [] (datums.Text s ∷ w ∷ row) fits = absurd fits.1
last_text (c ∷ columns) [] fits = absurd fits
last_text (c ∷ columns) (v ∷ row) fits =
    let rest = last_text columns row fits.1 in
    record { values = v ∷ rest.values; text = rest.text; typed = (fits.0, rest.typed); utf8 = rest.utf8; whole = ap (λ (vs : List Datum). v ∷ vs) rest.whole; last = rest.last }

-- a row that fits and lives in a region is its columns and the region
parts_by : (b : Bool) (columns : Columns) (region : Option (List ℕ)) (row : List Datum) → AllZip (λ c v. HasType c.1 v) (cond b (columns ++ region_column ∷ []) columns) row
    → cond b (option_and_then text_of (slice_get row (length columns))) None ≡ region → AreParts columns region row
parts_by false columns region row fits lives = subst (λ (r : Option (List ℕ)). AreParts columns r row) lives (record { values = row; typed = fits; whole = append-nil row })
parts_by true columns region row fits lives =
    let l = last_text columns row fits in
    let is : Some l.text ≡ region = sym (ap (option_and_then text_of) l.last) ∙ lives in
    subst (λ (r : Option (List ℕ)). AreParts columns r row) is (record { values = l.values; typed = l.typed; whole = l.whole })

abbrev IsRegionBy : Bool → Option (List ℕ) → Type 0
IsRegionBy b None = IsFalse b
IsRegionBy b (Some region) = IsTrue b × IsUtf8 region

region_by : (t : Table) (region : Option (List ℕ)) → IsRegionFor t region → IsRegionBy (is_by_row t) region
region_by t None h = h
region_by t (Some region) h = h

at_end_of : (xs : List Datum) (y : Datum) (n : ℕ) → length xs ≡ n → slice_get (xs ++ y ∷ []) n ≡ Some y
at_end_of [] y n h = rw (← h) refl
at_end_of (x ∷ xs) y n h = rw (← h) (at_end_of xs y (length xs) refl)

fits_by : (b : Bool) (columns : Columns) (region : Option (List ℕ)) (row : List Datum) → IsRegionBy b region → AreParts columns region row
    → AllZip (λ c v. HasType c.1 v) (cond b (columns ++ region_column ∷ []) columns) row × (cond b (option_and_then text_of (slice_get row (length columns))) None ≡ region)
fits_by false columns None row h parts =
    (subst (λ (vs : List Datum). AllZip (λ c v. HasType c.1 v) columns vs) (sym (append-nil parts.values) ∙ parts.whole) parts.typed, refl)
fits_by true columns None row h parts = absurd cc
fits_by false columns (Some region) row h parts = absurd (absurd_false h.0)
  where
    absurd_false : IsTrue false → ⊥
    absurd_false e = cc
fits_by true columns (Some region) row h parts =
    let typed = all_zipped_more (λ c v. HasType c.1 v) columns parts.values region_column (datums.Text region) parts.typed h.1 in
    let len = AllZip-long (λ c v. HasType c.1 v) columns parts.values parts.typed in (
      subst (λ (vs : List Datum). AllZip (λ c v. HasType c.1 v) (columns ++ region_column ∷ []) vs) parts.whole typed,
      rw (← parts.whole) (ap (option_and_then text_of) (at_end_of parts.values (datums.Text region) (length columns) len)),
    )

-- what is read is spelled
pub row_takes : (t : Table) (region : Option (List ℕ)) (p : KeyValue) (row : List Datum) → IsRegionFor t region → IsBytes p.1 → row_of t region p ≡ Some row → IsPairOf t region row p
unfolding row_of
row_takes t region p row for_it bytes e =
    let b = bind_some (columns_at [] p.1 t.columns) (λ values. if_keyed t p.0 (values ++ region_value region)) row e in
    let read = columns_take t.columns [] p.1 b.0 bytes b.1 in
    let keyed = passed (bytes_eq p.0 (primary_key t (b.0 ++ region_value region))) (Some (b.0 ++ region_value region)) row b.2 in
    let whole : b.0 ++ region_value region ≡ row = same_Some (b.0 ++ region_value region) row keyed.1 in
    let parts : AreParts t.columns region row = record { values = read.values; typed = read.typed; whole = ap (λ (vs : List Datum). vs ++ region_value region) read.behind ∙ whole } in
    let fits = fits_by (is_by_row t) t.columns region row (region_by t region for_it) parts in
    let key : p.0 ≡ primary_key t row = (bytes_decides p.0 (primary_key t (b.0 ++ region_value region))).0 keyed.0 ∙ ap (primary_key t) whole in
    let front : take (length t.columns) row ≡ read.values = taken t.columns region row parts in
    record {
      fits = fits.0;
      lives = fits.1;
      lengths = subst (All HasLength) (sym front) (All-from_recursion HasLength read.values read.lengths_fit);
      pair = ap₂ (λ k v. (k, v)) key (read.spelled ∙ ap (flat_map value_part) (sym front));
    }

-- what is spelled is read
pub row_again : (t : Table) (region : Option (List ℕ)) (p : KeyValue) (row : List Datum) → IsPairOf t region row p → row_of t region p ≡ Some row
unfolding row_of
row_again t region p row of_it =
    let parts = parts_by (is_by_row t) t.columns region row of_it.fits of_it.lives in
    let front : take (length t.columns) row ≡ parts.values = taken t.columns region row parts in
    let fit : AllByRecursion HasLength parts.values = recursion_from_All HasLength parts.values (subst (All HasLength) front of_it.lengths) in
    let read : columns_at [] (value_of t row) t.columns ≡ Some parts.values = ap (λ (vs : List Datum). columns_at [] (flat_map value_part vs) t.columns) front ∙ columns_again t.columns [] parts.values parts.typed fit in
    let same : bytes_eq (primary_key t row) (primary_key t row) ≡ true = (bytes_decides (primary_key t row) (primary_key t row)).1 refl in
    let keyed : if_keyed t (primary_key t row) (parts.values ++ region_value region) ≡ Some row = ap (if_keyed t (primary_key t row)) parts.whole ∙ ap (λ (b : Bool). cond b (Some row) None) same in
    ap (row_of t region) of_it.pair ∙ ap (option_and_then (λ (values : List Datum). if_keyed t (primary_key t row) (values ++ region_value region))) read ∙ keyed

-- a row that may be written has a pair
pub written_again : WhatIsWrittenIsRead
written_again t row fits small =
    row_again t (region_of t row) (row_pair t row) row (record { fits = fits; lives = refl; lengths = small_lengths (take (length t.columns) row) (sym small); pair = refl })

-- ---- what a reader's answer says of the pair

pub row_found : {X : Type 0} (view : X → List Datum) (r : Result X DecodeFault) (t : Table) (region : Option (List ℕ)) (p : KeyValue) → IsRegionFor t region → IsBytes p.1 → Reads view r (row_of t region p)
    → IfOk r (λ x. IsPairOf t region (view x) p)
row_found view (Ok x) t region p for_it bytes read = row_takes t region p (view x) for_it bytes read
row_found view (Err f) t region p for_it bytes read = tt

pub none_found : {X : Type 0} (view : X → List Datum) (r : Result X DecodeFault) (t : Table) (region : Option (List ℕ)) (p : KeyValue) → Reads view r (row_of t region p)
    → IfErr r (IsDecodeFault t region p)
none_found view (Ok x) t region p read = tt
none_found view (Err faults.Malformed) t region p read = λ row of_it. none-some row (sym read ∙ row_again t region p row of_it)
none_found view (Err faults.Memory) t region p read = tt

-- ---- rows under another locality

pub reshaped_fits : (was is : Bool) (columns : Columns) (primary : List ℕ) (row : List Datum) → IsUtf8 primary → AllZip (λ c v. HasType c.1 v) (cond was (columns ++ region_column ∷ []) columns) row
    → AllZip (λ c v. HasType c.1 v) (cond is (columns ++ region_column ∷ []) columns) (row_under was is (length columns) primary row)
reshaped_fits false false columns primary row utf8 fits = fits
reshaped_fits true true columns primary row utf8 fits = fits
reshaped_fits false true columns primary row utf8 fits = all_zipped_more (λ c v. HasType c.1 v) columns row region_column (datums.Text primary) fits utf8
reshaped_fits true false columns primary row utf8 fits =
    let l = last_text columns row fits in
    let parts : AreParts columns (Some l.text) row = record { values = l.values; typed = l.typed; whole = l.whole } in
    subst (λ (vs : List Datum). AllZip (λ c v. HasType c.1 v) columns vs) (sym (taken columns (Some l.text) row parts)) l.typed

pub reshaped_row_fits : (old new : Table) (primary : List ℕ) (row : List Datum) (r : Result (List Datum) Memory) → IfOk r (λ x. x ≡ reshaped_row old new primary row)
    → CanReshape old new primary row → IfOk r (Fits new)
reshaped_row_fits old new primary row r is can =
    let f : Fits new (reshaped_row old new primary row) = subst (λ (cs : Columns). AllZip (λ c v. HasType c.1 v) (cond (is_by_row new) (cs ++ region_column ∷ []) cs) (reshaped_row old new primary row)) (sym can.same_columns)
    (reshaped_fits (is_by_row old) (is_by_row new) old.columns primary row can.is_text can.fits) in
    IfOk-weaker r (λ x. x ≡ reshaped_row old new primary row) (Fits new) (λ x e. subst (Fits new) (sym e) f) is
