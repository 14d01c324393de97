use Rattle.std.proofs.Common.{◌≡◌, ◌≢◌, ℕ, zero, suc, ◌+◌, ◌<◌, ◌≤◌, ◌==◌, Bool, true, false, cond, not, ◌||◌, List, [], ◌∷◌, Option, Some, All, AllPairs, IsUtf8, length, map, position, get_or, refl, ap, sym, ◌∙◌, arith, subst, is_some, nat_lt, true≢false, codes}
use Rattle.std.specs.List.{list_all, position_from}
use Rattle.std.specs.Str.{bytes_eq}
use Rattle.std.proofs.lemmas.Bool.{not-false, ltb-false}
use Rattle.std.proofs.lemmas.Iterator.Adapters.{position_from-zero}
use Rattle.std.proofs.lemmas.List.Elements.{All-cons, All-nil, All-weaker}
use Rattle.std.proofs.lemmas.List.Kept.{AllPairs-cons}
use Rattle.std.proofs.lemmas.List.Quantifiers.{position-Some}
use Rattle.region_sql.specs.declared.region_statements.ColumnType.{ColumnType}
use Rattle.region_sql.specs.declared.region_statements.ColumnType.TheVariants as types
use Rattle.region_sql.specs.declared.region_statements.ColumnKey.TheVariants.{Plain, Primary, Unique}
use Rattle.region_sql.specs.declared.region_statements.Item.{Item}
use Rattle.region_sql.specs.declared.region_statements.Item.TheVariants.{Column, Key}
use Rattle.region_sql.specs.declared.region_statements.Locality.{Locality}
use Rattle.descriptors.specs.declared.database.Database.{Database}
use Rattle.descriptors.specs.Changes.{table_made}
use Rattle.descriptors.specs.Columns.{columns_of, key_names, keys_declared, unique_from, has_column, has_column_twice, places_of, break_a_rule, make_no_table}
use Rattle.descriptors.specs.Lists.{has_name, has_twice}
use Rattle.descriptors.specs.Sound.{AreDistinct, IsSoundTable}
use Rattle.descriptors.proofs.Additions.{bytes_same}
use Rattle.descriptors.proofs.Found.{and_true, or_false, have, same_bytes, differ_bytes}

-- Columns of which none is named twice.
named_column : (columns : List (List ℕ × ColumnType)) (n : List ℕ) → has_column columns n ≡ false → (k : ℕ) (d : List ℕ) → k < length (map {B = List ℕ} (λ c. c.0) columns) → n ≢ get_or (map {B = List ℕ} (λ c. c.0) columns) k d
named_column [] n h k d lt = absurd (omega arith)
named_column (c ∷ columns) n h zero d lt = differ_bytes n c.0 (or_false (bytes_eq n c.0) (has_column columns n) h).0
named_column (c ∷ columns) n h (suc k) d lt = named_column columns n (or_false (bytes_eq n c.0) (has_column columns n) h).1 k d (omega arith)

distinct_columns : (columns : List (List ℕ × ColumnType)) → has_column_twice columns ≡ false → AreDistinct (map {B = List ℕ} (λ c. c.0) columns)
distinct_columns [] h = λ i j d lt within. absurd (omega arith)
distinct_columns (c ∷ columns) h =
    let parts = or_false (has_column columns c.0) (has_column_twice columns) h in
    AllPairs-cons (λ x y. x ≢ y) c.0 (map (λ c. c.0) columns) (λ k d lt. named_column columns c.0 parts.0 k d lt) (distinct_columns columns parts.1)

-- No column of this name.
not_column : (columns : List (List ℕ × ColumnType)) (n : List ℕ) → has_column columns n ≡ false → All (λ c. c.0 ≢ n) columns
not_column [] n h = All-nil (λ c. c.0 ≢ n)
not_column (c ∷ columns) n h =
    let parts = or_false (bytes_eq n c.0) (has_column columns n) h in
    All-cons (λ c. c.0 ≢ n) c columns (λ same. differ_bytes n c.0 parts.0 (sym same)) (not_column columns n parts.1)

-- A column of this name has a place.
some_column : (n : List ℕ) (k : ℕ) (columns : List (List ℕ × ColumnType)) → has_column columns n ≡ true → is_some (position_from (λ c. bytes_eq n c.0) k columns) ≡ true
some_column n k [] h = absurd (true≢false (sym h))
some_column n k (c ∷ columns) h = by (bytes_eq n c.0) refl (some_column n (k + 1) columns)
  where
    by : (b : Bool) → bytes_eq n c.0 ≡ b → (has_column columns n ≡ true → is_some (position_from (λ c. bytes_eq n c.0) (k + 1) columns) ≡ true) → is_some (position_from (λ c. bytes_eq n c.0) k (c ∷ columns)) ≡ true
    by true e rest = ap (λ b. is_some (cond b (Some k) (position_from (λ c. bytes_eq n c.0) (k + 1) columns))) e
    by false e rest = ap (λ b. is_some (cond b (Some k) (position_from (λ c. bytes_eq n c.0) (k + 1) columns))) e ∙ rest (sym (ap (λ b. b || has_column columns n) e) ∙ h)

column_place : (columns : List (List ℕ × ColumnType)) (n : List ℕ) → has_column columns n ≡ true → (k : ℕ) × (position (λ c. bytes_eq n c.0) columns ≡ Some k)
column_place columns n h = have (position (λ c. bytes_eq n c.0) columns) (ap is_some (position_from-zero (λ c. bytes_eq n c.0) columns) ∙ some_column n 0 columns h)

any_column : List ℕ × ColumnType
any_column = ([], types.Int)

-- What is known of the places of some columns.
record ArePlaces (columns : List (List ℕ × ColumnType)) (names : List (List ℕ)) (places : List ℕ) : Type 0 where
  long : length places ≡ length names
  within : All (λ k. k < length columns) places
  named : All (λ k. has_name names (get_or columns k any_column).0 ≡ true) places
  distinct : AreDistinct places

or_right : (a b : Bool) → b ≡ true → (a || b) ≡ true
or_right true b h = refl
or_right false b h = h

or_here : (a b : Bool) → a ≡ true → (a || b) ≡ true
or_here true b h = refl
or_here false b h = absurd (true≢false (sym h))

are_places : (columns : List (List ℕ × ColumnType)) (names : List (List ℕ)) → list_all (has_column columns) names ≡ true → has_twice names ≡ false → ArePlaces columns names (places_of columns names)
are_places columns [] h twice = record { long = refl; within = All-nil (λ k. k < length columns); named = All-nil (λ k. has_name [] (get_or columns k any_column).0 ≡ true); distinct = λ i j d lt within. absurd (omega arith) }
are_places columns (n ∷ names) h twice =
    let both = and_true (has_column columns n) (list_all (has_column columns) names) h in
    let parts = or_false (has_name names n) (has_twice names) twice in
    let rest = are_places columns names both.1 parts.1 in
    let k = column_place columns n both.0 in
    let at = position-Some (λ c. bytes_eq n c.0) columns k.0 any_column k.1 in
    let same : n ≡ (get_or columns k.0 any_column).0 = same_bytes n (get_or columns k.0 any_column).0 at.1 in
    subst (ArePlaces columns (n ∷ names)) (sym (ap (λ o. Rattle.std.specs.List.cons_option o (places_of columns names)) k.1)) (record {
      long = ap suc rest.long;
      within = All-cons (λ k. k < length columns) k.0 (places_of columns names) at.0 rest.within;
      named = All-cons (λ k. has_name (n ∷ names) (get_or columns k any_column).0 ≡ true) k.0 (places_of columns names)
          (or_here (bytes_eq (get_or columns k.0 any_column).0 n) (has_name names (get_or columns k.0 any_column).0) (bytes_same (get_or columns k.0 any_column).0 n (sym same)))
          (All-weaker (λ k. has_name names (get_or columns k any_column).0 ≡ true) (λ k. has_name (n ∷ names) (get_or columns k any_column).0 ≡ true) (λ j e. or_right (bytes_eq (get_or columns j any_column).0 n) (has_name names (get_or columns j any_column).0) e) (places_of columns names) rest.named);
      distinct = AllPairs-cons (λ x y. x ≢ y) k.0 (places_of columns names)
          (All-weaker (λ j. has_name names (get_or columns j any_column).0 ≡ true) (λ j. k.0 ≢ j) (λ j e eq. true≢false (sym e ∙ ap (λ i. has_name names (get_or columns i any_column).0) (sym eq) ∙ ap (has_name names) (sym same) ∙ parts.0)) (places_of columns names) rest.named)
          rest.distinct;
    })

-- What is known of the places of UNIQUE columns.
record RiseFrom (low high : ℕ) (places : List ℕ) : Type 0 where
  above : All (λ k. low ≤ k) places
  below : All (λ k. k < high) places
  rises : AllPairs (λ j k. j < k) places

rise_later : (low high high' : ℕ) (places : List ℕ) → high ≡ high' → RiseFrom (low + 1) high places → RiseFrom low high' places
rise_later low high high' places e r = record {
  above = All-weaker (λ k. low + 1 ≤ k) (λ k. low ≤ k) (λ k h. omega (arith, h)) places r.above;
  below = All-weaker (λ k. k < high) (λ k. k < high') (λ k h. omega (arith, h, e)) places r.below;
  rises = r.rises;
}

unique_rises : (place : ℕ) (items : List Item) → RiseFrom place (place + length (columns_of items)) (unique_from place items)
unique_rises place [] = record { above = All-nil (λ k. place ≤ k); below = All-nil (λ k. k < place + 0); rises = λ i j d lt within. absurd (omega arith) }
unique_rises place (Column name ty not_null Plain ∷ items) = rise_later place (place + 1 + length (columns_of items)) (place + length ((name, ty) ∷ columns_of items)) (unique_from (place + 1) items) (omega arith) (unique_rises (place + 1) items)
unique_rises place (Column name ty not_null Primary ∷ items) = rise_later place (place + 1 + length (columns_of items)) (place + length ((name, ty) ∷ columns_of items)) (unique_from (place + 1) items) (omega arith) (unique_rises (place + 1) items)
unique_rises place (Column name ty not_null Unique ∷ items) =
    let rest = unique_rises (place + 1) items in
    record {
      above = All-cons (λ k. place ≤ k) place (unique_from (place + 1) items) (omega arith) (All-weaker (λ k. place + 1 ≤ k) (λ k. place ≤ k) (λ k h. omega (arith, h)) (unique_from (place + 1) items) rest.above);
      below = All-cons (λ k. k < place + length ((name, ty) ∷ columns_of items)) place (unique_from (place + 1) items) (omega arith) (All-weaker (λ k. k < place + 1 + length (columns_of items)) (λ k. k < place + length ((name, ty) ∷ columns_of items)) (λ k h. omega (arith, h)) (unique_from (place + 1) items) rest.below);
      rises = AllPairs-cons (λ j k. j < k) place (unique_from (place + 1) items) (All-weaker (λ k. place + 1 ≤ k) (λ k. place < k) (λ k h. omega (arith, h)) (unique_from (place + 1) items) rest.above) rest.rises;
    }
unique_rises place (Key columns ∷ items) = unique_rises place items

some_long : (names : List (List ℕ)) → (length names == 0) ≡ false → 1 ≤ length names
some_long [] h = absurd (true≢false h)
some_long (n ∷ names) h = omega arith

some_columns : (columns : List (List ℕ × ColumnType)) (names : List (List ℕ)) → list_all (has_column columns) names ≡ true → 1 ≤ length names → 1 ≤ length columns
some_columns columns [] h lt = absurd (omega arith)
some_columns [] (n ∷ names) h lt = absurd (true≢false (sym h))
some_columns (c ∷ columns) (n ∷ names) h lt = omega arith

few_long : (n : ℕ) → nat_lt 16 n ≡ false → n ≤ 16
few_long n h = ltb-false 16 n h

pub sound_table : (d : Database) (n : List ℕ) (items : List Item) (l : Option Locality) → IsUtf8 n → All (λ c. IsUtf8 c.0) (columns_of items) → make_no_table items ≡ false → IsSoundTable (table_made d n items l)
sound_table d n items l utf8 columns h =
    let cs = columns_of items in
    let ns = key_names items in
    let r1 = or_false (not (keys_declared items == 1) || (length ns == 0)) (break_a_rule cs ns) h in
    let some = (or_false (not (keys_declared items == 1)) (length ns == 0) r1.0).1 in
    let r2 = or_false (nat_lt 16 (length cs) || has_column_twice cs || has_column cs (codes "crdb_region") || not (list_all (has_column cs) ns)) (has_twice ns) r1.1 in
    let r3 = or_false (nat_lt 16 (length cs) || has_column_twice cs || has_column cs (codes "crdb_region")) (not (list_all (has_column cs) ns)) r2.0 in
    let r4 = or_false (nat_lt 16 (length cs) || has_column_twice cs) (has_column cs (codes "crdb_region")) r3.0 in
    let r5 = or_false (nat_lt 16 (length cs)) (has_column_twice cs) r4.0 in
    let all = not-false (list_all (has_column cs) ns) r3.1 in
    let places = are_places cs ns all r2.1 in
    let unique = unique_rises 0 items in
    record {
      name = utf8;
      columns = columns;
      some = some_columns cs ns all (some_long ns some);
      few = few_long (length cs) r5.0;
      named = distinct_columns cs r5.1;
      not_hidden = not_column cs (codes "crdb_region") r4.1;
      key = omega (arith, places.long, some_long ns some);
      key_distinct = places.distinct;
      key_places = places.within;
      unique_rises = unique.rises;
      unique_places = All-weaker (λ k. k < 0 + length cs) (λ k. k < length cs) (λ k h. omega (arith, h)) (unique_from 0 items) unique.below;
    }
