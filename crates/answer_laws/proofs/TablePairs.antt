-- The pairs of a table's rows, by the numbers of their indexes.
use Rattle.std.proofs.Common.{◌≡◌, ℕ, zero, suc, ◌+◌, Bool, false, cond, List, [], ◌∷◌, refl, sym, ap, ◌∙◌, subst, inl, inr, arith}
use Rattle.std.specs.Prelude.{◌≢◌, ◌⊎◌, ◌==◌, slice_get, Some}
use Rattle.std.specs.List.{enumerate_from}
use Rattle.std.proofs.lemmas.Bool.{ne_eqb}
use Rattle.std.proofs.lemmas.List.Elements.{recursion_from_All}
use Rattle.descriptors.specs.Sound.{IsSoundTable}
use Rattle.descriptors.specs.declared.table.Table.{Table}
use Rattle.row_locality.specs.Keys.{index_key, index_types, primary_key}
use Rattle.row_locality.specs.Pairs.{KeyValue, index_pairs, pairs_of}
use Rattle.row_locality.specs.Plain.{AreApart}
use Rattle.row_locality.specs.Rows.{Fits, indexes, unique_indexes, values_at}
use Rattle.row_locality.specs.Values.{value_of}
use Rattle.row_locality.proofs.KeyLemmas.{equal_keys}
use Rattle.row_locality.proofs.TypeLemmas.{index_typed}
use Rattle.answer_laws.proofs.Members.{Has, each_has}
use Rattle.answer_laws.proofs.MoreMembers.{same_some, got_has, numbered_has, has_numbered, map_has, has_map}
use Rattle.answer_laws.proofs.Pairwise.{EachTwo}
use Rattle.answer_laws.proofs.RowOrder.{Row}
use Rattle.answer_laws.proofs.Twins.{apart_flip}

-- ---- pairs by the numbers of indexes

abbrev pub index_value : Table → Row → ℕ → List ℕ
index_value t row number = cond (number == 0) (value_of t row) (primary_key t row)

-- a row's pair in the index of this number, which has these columns
abbrev pub pair_in : Table → Row → ℕ → List ℕ → KeyValue
pair_in t row number places = (index_key number (values_at places row), index_value t row number)

pub record IsPairIn (t : Table) (row : Row) (p : KeyValue) : Type 0 where
  pub number : ℕ
  pub places : List ℕ
  pub index : slice_get (indexes t) number ≡ Some places
  pub pair : p ≡ pair_in t row number places

later_number : (i : ℕ) → ((1 + i) == 0) ≡ false
later_number i = ne_eqb (1 + i) 0 (λ e. omega (arith, e))

later_value : (t : Table) (row : Row) (n i : ℕ) → n ≡ 1 + i → index_value t row n ≡ primary_key t row
later_value t row n i e = ap (λ (b : Bool). cond b (value_of t row) (primary_key t row)) (ap (λ (m : ℕ). m == 0) e ∙ later_number i)

abbrev unique_pair : Table → Row → ℕ × List ℕ → KeyValue
unique_pair t row x = (index_key x.0 (values_at x.1 row), primary_key t row)

later_index : (t : Table) (i n : ℕ) (places : List ℕ) → slice_get (unique_indexes t) i ≡ Some places → suc i ≡ n → slice_get (indexes t) n ≡ Some places
later_index t i n places e f = subst (λ (m : ℕ). slice_get (indexes t) m ≡ Some places) f e

pub pair_number : (t : Table) (row : Row) (p : KeyValue) → Has p (pairs_of t row) → IsPairIn t row p
pair_number t row p (inl e) = record { number = 0; places = t.key; index = refl; pair = sym e }
pair_number t row p (inr h) =
    let r = map_has (unique_pair t row) (enumerate_from 1 (unique_indexes t)) p h in
    let k = numbered_has 1 (unique_indexes t) r.0 r.1 in
    record {
      number = r.0.0;
      places = r.0.1;
      index = later_index t k.0 r.0.0 r.0.1 k.1 (omega (arith, k.2));
      pair = sym r.2 ∙ (λ i. (index_key r.0.0 (values_at r.0.1 row), sym (later_value t row r.0.0 k.0 k.2) i));
    }

pub pair_there : (t : Table) (row : Row) (number : ℕ) (places : List ℕ) → slice_get (indexes t) number ≡ Some places → Has (pair_in t row number places) (pairs_of t row)
pair_there t row zero places e =
    let same : t.key ≡ places = same_some e in
    subst (λ (ps : List ℕ). Has (pair_in t row 0 ps) (pairs_of t row)) same (inl refl)
pair_there t row (suc i) places e =
    let there : Has (unique_pair t row (suc i, places)) (index_pairs t row) =
    has_map (unique_pair t row) (enumerate_from 1 (unique_indexes t)) (suc i, places) (has_numbered 1 i (suc i) (unique_indexes t) places e (omega arith)) in
    inr (subst (λ (v : List ℕ). Has (index_key (suc i) (values_at places row), v) (index_pairs t row)) (sym (later_value t row (suc i) i (omega arith))) there)

-- the key of a row in the index numbered 0 is its primary key
pub primary_index : (t : Table) (row : Row) (n : ℕ) (places : List ℕ) → n ≡ 0 → slice_get (indexes t) n ≡ Some places → index_key n (values_at places row) ≡ primary_key t row
primary_index t row n places z e =
    let same : t.key ≡ places = same_some (subst (λ (m : ℕ). slice_get (indexes t) m ≡ Some places) z e) in
    ap (λ (m : ℕ). index_key m (values_at places row)) z ∙ ap (λ (qs : List ℕ). index_key 0 (values_at qs row)) (sym same)

-- ---- two pairs of one key

-- rows of which two pairs have one key: they have equal values in one index, of which both pairs are
pub record Meet (t : Table) (x y : Row) (p q : KeyValue) : Type 0 where
  pub number : ℕ
  pub places : List ℕ
  pub index : slice_get (indexes t) number ≡ Some places
  pub values : values_at places x ≡ values_at places y
  pub first : p ≡ pair_in t x number places
  pub second : q ≡ pair_in t y number places

pub same_heads : (m n : ℕ) (s r : List ℕ) → m ∷ s ≡ n ∷ r → m ≡ n
same_heads m n s r e = cc

meet_in : (t : Table) (x y : Row) (p q : KeyValue) → IsSoundTable t → Fits t x → Fits t y → (number : ℕ) (places others : List ℕ) → slice_get (indexes t) number ≡ Some places
    → slice_get (indexes t) number ≡ Some others → p ≡ pair_in t x number places → q ≡ pair_in t y number others → p.0 ≡ q.0 → Meet t x y p q
meet_in t x y p q sound fx fy number places others e f g h k =
    let same : others ≡ places = same_some (sym f ∙ e) in
    let second : q ≡ pair_in t y number places = subst (λ (ps : List ℕ). q ≡ pair_in t y number ps) same h in
    let keys : index_key number (values_at places x) ≡ index_key number (values_at places y) = sym (ap (λ (z : KeyValue). z.0) g) ∙ k ∙ ap (λ (z : KeyValue). z.0) second in
    record {
      number = number;
      places = places;
      index = e;
      values = equal_keys (index_types t number) (values_at places x) (values_at places y) (index_typed t x number places sound fx e) (index_typed t y number places sound fy e) number keys;
      first = g;
      second = second;
    }

pub rows_meet : (t : Table) (x y : Row) (p q : KeyValue) → IsSoundTable t → Fits t x → Fits t y → IsPairIn t x p → IsPairIn t y q → p.0 ≡ q.0 → Meet t x y p q
rows_meet t x y p q sound fx fy a b e =
    let number : b.number ≡ a.number =
    same_heads b.number a.number _ _ (sym (ap (λ (z : KeyValue). z.0) b.pair) ∙ sym e ∙ ap (λ (z : KeyValue). z.0) a.pair) in
    meet_in t x y p q sound fx fy a.number a.places b.places a.index (subst (λ (n : ℕ). slice_get (indexes t) n ≡ Some b.places) number b.index) a.pair
    (subst (λ (n : ℕ). q ≡ pair_in t y n b.places) number b.pair) e

-- rows that are apart have no two pairs of one key
pub apart_in : (t : Table) (x y : Row) (number : ℕ) (places : List ℕ) → AreApart t x y → slice_get (indexes t) number ≡ Some places → values_at places x ≢ values_at places y
apart_in t x y number places h e =
    each_has (λ (ps : List ℕ). values_at ps x ≢ values_at ps y) places (indexes t) (recursion_from_All (λ (ps : List ℕ). values_at ps x ≢ values_at ps y) (indexes t) h) (got_has (indexes t) number places e)

pub apart_not : (t : Table) (x y : Row) (p q : KeyValue) → AreApart t x y → Meet t x y p q → ⊥
apart_not t x y p q h m = apart_in t x y m.number m.places h m.index m.values

-- two rows of a list of which each two are apart are one, or apart
pub one_or_apart : (t : Table) (rows : List Row) (x y : Row) → EachTwo (AreApart t) rows → Has x rows → Has y rows → (x ≡ y) ⊎ AreApart t x y
one_or_apart t [] x y two h k = absurd h
one_or_apart t (r ∷ rows) x y two (inl e) (inl f) = inl (sym e ∙ f)
one_or_apart t (r ∷ rows) x y two (inl e) (inr k) = inr (subst (λ (z : Row). AreApart t z y) e (each_has (AreApart t r) y rows two.0 k))
one_or_apart t (r ∷ rows) x y two (inr h) (inl f) = inr (subst (λ (z : Row). AreApart t x z) f (apart_flip t r x (each_has (AreApart t r) x rows two.0 h)))
one_or_apart t (r ∷ rows) x y two (inr h) (inr k) = one_or_apart t rows x y two.1 h k

one_by : (t : Table) (x y : Row) (number : ℕ) (places : List ℕ) → slice_get (indexes t) number ≡ Some places → values_at places x ≡ values_at places y → (x ≡ y) ⊎ AreApart t x y → x ≡ y
one_by t x y number places e f (inl h) = h
one_by t x y number places e f (inr h) = absurd (apart_in t x y number places h e f)

-- rows of such a list with equal values in an index are one
pub one_row : (t : Table) (rows : List Row) (x y : Row) (number : ℕ) (places : List ℕ) → EachTwo (AreApart t) rows → Has x rows → Has y rows
    → slice_get (indexes t) number ≡ Some places → values_at places x ≡ values_at places y → x ≡ y
one_row t rows x y number places two h k e f = one_by t x y number places e f (one_or_apart t rows x y two h k)

-- two pairs of one key of rows of such a list are one
pub one_pair : (t : Table) (rows : List Row) (x y : Row) (p q : KeyValue) → IsSoundTable t → EachTwo (AreApart t) rows → Has x rows → Has y rows → Fits t x → Fits t y
    → IsPairIn t x p → IsPairIn t y q → p.0 ≡ q.0 → (x ≡ y) × (p ≡ q)
one_pair t rows x y p q sound two h k fx fy a b e =
    let m : Meet t x y p q = rows_meet t x y p q sound fx fy a b e in
    let same : x ≡ y = one_row t rows x y m.number m.places two h k m.index m.values in
    (same, m.first ∙ ap (λ (z : Row). pair_in t z m.number m.places) same ∙ sym m.second)
