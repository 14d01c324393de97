-- Steps of the loops that write rows.
use Rattle.std.proofs.Common.{◌≡◌, ℕ, suc, ◌+◌, ◌<◌, ◌≤◌, true, false, List, [], ◌∷◌, ◌++◌, length, map, take, drop, get_or, All, sym, ap, ◌∙◌, arith, append_assoc, leb}
use Rattle.std.specs.Prelude.{flat_map, slice_get, AllPairs}
use Rattle.std.specs.List.{AllByRecursion, enumerate_from}
use Rattle.std.proofs.lemmas.Bool.Decides.{nat_tests}
use Rattle.std.proofs.lemmas.List.{take_more, drop_more, take-append-drop, length-append}
use Rattle.std.proofs.lemmas.List.Concat.{flat_map-append}
use Rattle.std.proofs.lemmas.List.Elements.{All-from_recursion, recursion_from_All, filter_map-append}
use Rattle.mr_base.specs.declared.rows.Datum.{Datum}
use Rattle.mr_base.specs.declared.rows.Datum.TheVariants as datums
use Rattle.descriptors.specs.declared.table.Table.{Table}
use Rattle.descriptors.specs.Sound.{IsSoundTable}
use Rattle.row_locality.specs.Rows.{values_at}
use Rattle.row_locality.specs.Keys.{key_part, index_key, primary_key}
use Rattle.row_locality.specs.Pairs.{KeyValue}
use Rattle.row_locality.specs.Values.{value_part, HasLength}

-- ---- keys

pub values_more : (places : List ℕ) (i : ℕ) (row : List Datum) → i < length places
    → values_at (take (i + 1) places) row ≡ values_at (take i places) row ++ values_at (get_or places i 0 ∷ []) row
values_more places i row h = rw (take_more places i 0 h) (filter_map-append (slice_get row) (take i places) (get_or places i 0 ∷ []))

pub key_more : (number : ℕ) (places : List ℕ) (i : ℕ) (row : List Datum) (old new : List ℕ) → i < length places → old ≡ index_key number (values_at (take i places) row)
    → new ≡ old ++ flat_map key_part (values_at (get_or places i 0 ∷ []) row) → new ≡ index_key number (values_at (take (i + 1) places) row)
key_more number places i row old new h before after =
    let front = values_at (take i places) row in
    let one = values_at (get_or places i 0 ∷ []) row in
    let joined : index_key number front ++ flat_map key_part one ≡ index_key number (front ++ one) = ap (λ (bytes : List ℕ). number ∷ bytes) (sym (flat_map-append key_part front one)) in
    after ∙ ap (λ (bytes : List ℕ). bytes ++ flat_map key_part one) before ∙ joined ∙ ap (index_key number) (sym (values_more places i row h))

-- ---- values

pub part_of_whole : (row : List Datum) (i : ℕ) (v : Datum) → i < length row → v ≡ get_or row i v
    → length (flat_map value_part (take i row)) + length (value_part v) ≤ length (flat_map value_part row)
part_of_whole row i v h is =
    let front = flat_map value_part (take i row) in
    let rest = flat_map value_part (drop (i + 1) row) in
    let split : row ≡ take i row ++ v ∷ drop (i + 1) row = sym (take-append-drop i row) ∙ ap (λ (xs : List Datum). take i row ++ xs) (drop_more row i v h ∙ ap (λ x. x ∷ drop (i + 1) row) (sym is)) in
    let whole : flat_map value_part row ≡ front ++ (value_part v ++ rest) = ap (flat_map value_part) split ∙ flat_map-append value_part (take i row) (v ∷ drop (i + 1) row) in
    omega (arith, ap length whole, length-append front (value_part v ++ rest), length-append (value_part v) rest)

pub is_too_long : (row : List Datum) (i : ℕ) (v : Datum) (room : ℕ) → i < length row → v ≡ get_or row i v → room + length (flat_map value_part (take i row)) ≡ 1024
    → (length (value_part v) ≤ room → ⊥) → false ≡ leb (length (flat_map value_part row)) 1024
is_too_long row i v room h is room-is full =
    let part = part_of_whole row i v h is in
    grind (arith, nat_tests)

length_of_part : (v : Datum) → length (value_part v) ≤ 1024 → HasLength v
unfolding value_part
length_of_part (datums.Int n) h = tt
length_of_part (datums.Text s) h = omega (arith, h)
length_of_part (datums.Bool b) h = tt

lengths_of_parts : (row : List Datum) → length (flat_map value_part row) ≤ 1024 → AllByRecursion HasLength row
lengths_of_parts [] h = tt
lengths_of_parts (v ∷ row) h = (
  length_of_part v (omega (arith, length-append (value_part v) (flat_map value_part row))),
  lengths_of_parts row (omega (arith, length-append (value_part v) (flat_map value_part row))),
)

-- the texts of a small value have lengths of four bytes
pub small_lengths : (row : List Datum) → true ≡ leb (length (flat_map value_part row)) 1024 → All HasLength row
small_lengths row e =
    let h : length (flat_map value_part row) ≤ 1024 = grind (arith, nat_tests) in
    All-from_recursion HasLength row (lengths_of_parts row h)

-- ---- pairs of indexes

abbrev pub pairs_from : Table → List Datum → ℕ → List ℕ → List KeyValue
pairs_from t row n columns = map (λ x. (index_key x.0 (values_at x.1 row), primary_key t row)) (enumerate_from n (map (λ c. c ∷ []) columns))

pub pairs_more : (t : Table) (row : List Datum) (n : ℕ) (columns : List ℕ) (i : ℕ) (held total : List KeyValue) → i < length columns
    → held ++ pairs_from t row n (drop i columns) ≡ total
    → (held ++ (index_key n (values_at (get_or columns i 0 ∷ []) row), primary_key t row) ∷ []) ++ pairs_from t row (n + 1) (drop (i + 1) columns) ≡ total
pairs_more t row n columns i held total h so_far =
    let pair : KeyValue = (index_key n (values_at (get_or columns i 0 ∷ []) row), primary_key t row) in
    append_assoc held (pair ∷ []) (pairs_from t row (n + 1) (drop (i + 1) columns)) ∙ ap (λ (cs : List ℕ). held ++ pairs_from t row n cs) (sym (drop_more columns i 0 h)) ∙ so_far

-- ---- a table has no more than 16 UNIQUE columns

rising_few : (n low : ℕ) (xs : List ℕ) → low ≤ n → AllPairs (λ j k. j < k) xs → AllByRecursion (λ k. k < n) xs → AllByRecursion (λ k. low ≤ k) xs → low + length xs ≤ n
rising_few n low [] h rise below above = omega arith
rising_few n low (x ∷ xs) h rise below above =
    let later : AllPairs (λ j k. j < k) xs = λ i j d p q. rise (suc i) (suc j) d (omega arith) (omega arith) in
    let past : All (λ k. x + 1 ≤ k) xs = λ k d p. omega (arith, rise 0 (suc k) d (omega arith) (omega arith)) in
    let rest : (x + 1) + length xs ≤ n = rising_few n (x + 1) xs (omega (arith, below.0)) later below.1 (recursion_from_All (λ k. x + 1 ≤ k) xs past) in
    omega (arith, rest, above.0)

none_below : (xs : List ℕ) → AllByRecursion (λ k. 0 ≤ k) xs
none_below [] = tt
none_below (x ∷ xs) = (omega arith, none_below xs)

pub few_unique : (t : Table) → IsSoundTable t → length t.unique ≤ 16
few_unique t sound =
    let few : 0 + length t.unique ≤ length t.columns = rising_few (length t.columns) 0 t.unique (omega arith) sound.unique_rises (recursion_from_All (λ k. k < length t.columns) t.unique sound.unique_places) (none_below t.unique) in
    omega (arith, few, sound.few)
