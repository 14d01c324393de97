-- The writes of rows: of each pair one, at a place of its own.
use Rattle.std.proofs.Common.{◌≡◌, ℕ, ◌+◌, List, [], ◌∷◌, refl, sym, ap, ◌∙◌, subst, inl, inr, arith}
use Rattle.std.specs.Prelude.{◌≢◌, flat_map, map}
use Rattle.std.specs.List.{AllByRecursion, enumerate_from}
use Rattle.mr_base.specs.declared.ids.RangeId.{RangeId}
use Rattle.descriptors.specs.Sound.{IsSoundTable}
use Rattle.descriptors.specs.declared.table.Table.{Table}
use Rattle.row_locality.specs.Keys.{index_key, primary_key}
use Rattle.row_locality.specs.Pairs.{KeyValue, row_pair, pairs_of}
use Rattle.row_locality.specs.Plain.{Layout, AreApart, range_of}
use Rattle.row_locality.specs.Rows.{Fits, unique_indexes, values_at}
use Rattle.sql_eval.specs.OwnWrites.{OwnWrite}
use Rattle.answer_laws.proofs.Members.{Has, each_has}
use Rattle.answer_laws.proofs.MoreMembers.{flat_has, has_flat, map_has, has_map, numbered_has}
use Rattle.answer_laws.proofs.Pairwise.{EachTwo, two_append}
use Rattle.answer_laws.proofs.RowOrder.{Row}
use Rattle.answer_laws.proofs.TablePairs.{IsPairIn, pair_number, rows_meet, apart_not, same_heads}
use Rattle.answer_laws.proofs.TrackedWrites.{AtOthers, place_of}

-- ---- each two of lists that are made of others

pub each_from : {X : Type 0} (P : X → Type 0) (xs : List X) → ((x : X) → Has x xs → P x) → AllByRecursion P xs
each_from P [] h = tt
each_from P (x ∷ xs) h = (h x (inl refl), each_from P xs (λ y m. h y (inr m)))

pub two_map : {X Y : Type 0} (R : Y → Y → Type 0) (f : X → Y) (xs : List X) → EachTwo (λ x y. R (f x) (f y)) xs → EachTwo R (map f xs)
two_map R f [] h = tt
two_map R f (x ∷ xs) h = (each_from (R (f x)) (map f xs) (λ y m. later y (map_has f xs y m)), two_map R f xs h.1)
  where
    later : (y : _) → (z : _) × Has z xs × (f z ≡ y) → R (f x) y
    later y r = subst (R (f x)) r.2 (each_has (λ w. R (f x) (f w)) r.0 xs h.0 r.1)

numbers_differ : {X : Type 0} (k : ℕ) (xs : List X) → EachTwo (λ (x y : ℕ × X). x.0 ≢ y.0) (enumerate_from k xs)
numbers_differ k [] = tt
numbers_differ k (x ∷ xs) = (each_from (λ y. k ≢ y.0) (enumerate_from (k + 1) xs) later, numbers_differ (k + 1) xs)
  where
    later : (y : _) → Has y (enumerate_from (k + 1) xs) → k ≢ y.0
    later y m e = let r = numbered_has (k + 1) xs y m in omega (arith, r.2)

-- ---- the pairs of a row have keys of their own

abbrev OtherKey : KeyValue → KeyValue → Type 0
OtherKey p q = p.0 ≢ q.0

other_keys : (t : Table) (row : Row) → EachTwo OtherKey (pairs_of t row)
other_keys t row = (
  each_from (OtherKey (row_pair t row)) _ first,
  two_map OtherKey pair (enumerate_from 1 (unique_indexes t)) (weaker (enumerate_from 1 (unique_indexes t)) (numbers_differ 1 (unique_indexes t))),
)
  where
    pair : ℕ × List ℕ → KeyValue
    pair x = (index_key x.0 (values_at x.1 row), primary_key t row)

    first : (q : KeyValue) → Has q (map pair (enumerate_from 1 (unique_indexes t))) → primary_key t row ≢ q.0
    first q m e =
        let r = map_has pair (enumerate_from 1 (unique_indexes t)) q m in
        let k = numbered_has 1 (unique_indexes t) r.0 r.1 in
        let zero_is : 0 ≡ r.0.0 = same_heads 0 r.0.0 _ _ (e ∙ sym (ap (λ (z : KeyValue). z.0) r.2)) in
        omega (arith, k.2)

    weaker : (xs : List (ℕ × List ℕ)) → EachTwo (λ x y. x.0 ≢ y.0) xs → EachTwo (λ x y. OtherKey (pair x) (pair y)) xs
    weaker [] h = tt
    weaker (x ∷ xs) h = (each_from (λ y. OtherKey (pair x) (pair y)) xs (λ y m e. each_has (λ z. x.0 ≢ z.0) y xs h.0 m (same_heads x.0 y.0 _ _ e)), weaker xs h.1)

-- ---- the writes of rows

-- Each pair of these rows of a table, written by such writes.
abbrev pub row_writes : Layout → ℕ → Table → (RangeId → KeyValue → OwnWrite) → List Row → List OwnWrite
row_writes l place t write rows = flat_map (λ row. map (write (range_of l place t row)) (pairs_of t row)) rows

module _ (l : Layout) (place : ℕ) (t : Table) (write : RangeId → KeyValue → OwnWrite) (at : (range : RangeId) (p : KeyValue) → place_of (write range p) ≡ (range, p.0)) where
  -- the row and the pair of a write
  pub record IsWriteOf (rows : List Row) (w : OwnWrite) : Type 0 where
    pub row : Row
    pub there : Has row rows
    pub pair : KeyValue
    pub in_row : IsPairIn t row pair
    pub write_is : w ≡ write (range_of l place t row) pair

  pub write_of : (rows : List Row) (w : OwnWrite) → Has w (row_writes l place t write rows) → IsWriteOf rows w
  write_of rows w h =
      let r = flat_has (λ row. map (write (range_of l place t row)) (pairs_of t row)) rows w h in
      let k = map_has (write (range_of l place t r.0)) (pairs_of t r.0) w r.2 in
      record { row = r.0; there = r.1; pair = k.0; in_row = pair_number t r.0 k.0 k.1; write_is = sym k.2 }

  pub write_there : (rows : List Row) (row : Row) (p : KeyValue) → Has row rows → Has p (pairs_of t row) → Has (write (range_of l place t row) p) (row_writes l place t write rows)
  write_there rows row p h k =
      has_flat (λ row. map (write (range_of l place t row)) (pairs_of t row)) rows row (write (range_of l place t row) p) h
      (has_map (write (range_of l place t row)) (pairs_of t row) p k)

  key_of_place : (range other : RangeId) (p q : KeyValue) → place_of (write range p) ≡ place_of (write other q) → p.0 ≡ q.0
  key_of_place range other p q e = ap (λ (x : RangeId × List ℕ). x.1) (sym (at range p) ∙ e ∙ at other q)

  one_row_writes : (row : Row) → EachTwo AtOthers (map (write (range_of l place t row)) (pairs_of t row))
  one_row_writes row = two_map AtOthers (write (range_of l place t row)) (pairs_of t row) (weaker (pairs_of t row) (other_keys t row))
    where
      weaker : (ps : List KeyValue) → EachTwo OtherKey ps → EachTwo (λ p q. AtOthers (write (range_of l place t row) p) (write (range_of l place t row) q)) ps
      weaker [] h = tt
      weaker (p ∷ ps) h =
          (each_from _ ps (λ q m e. each_has (OtherKey p) q ps h.0 m (key_of_place (range_of l place t row) (range_of l place t row) p q e)), weaker ps h.1)

  two_rows : (x y : Row) (p q : KeyValue) → IsSoundTable t → Fits t x → Fits t y → AreApart t x y → Has p (pairs_of t x) → Has q (pairs_of t y)
      → AtOthers (write (range_of l place t x) p) (write (range_of l place t y) q)
  two_rows x y p q sound fx fy apart h k e =
      apart_not t x y p q apart
      (rows_meet t x y p q sound fx fy (pair_number t x p h) (pair_number t y q k) (key_of_place (range_of l place t x) (range_of l place t y) p q e))

  -- the writes of rows that are apart are at places of their own
  pub writes_apart : (rows : List Row) → IsSoundTable t → ((row : Row) → Has row rows → Fits t row) → EachTwo (AreApart t) rows → EachTwo AtOthers (row_writes l place t write rows)
  writes_apart [] sound fits two = tt
  writes_apart (row ∷ rows) sound fits two =
      two_append AtOthers (map (write (range_of l place t row)) (pairs_of t row)) (row_writes l place t write rows) (one_row_writes row)
      (writes_apart rows sound (λ r m. fits r (inr m)) two.1)
      (each_from (λ w. AllByRecursion (AtOthers w) (row_writes l place t write rows)) (map (write (range_of l place t row)) (pairs_of t row)) (λ w m. each_from (AtOthers w) (row_writes l place t write rows) (λ v n. across w v m n)))
    where
      across : (w v : OwnWrite) → Has w (map (write (range_of l place t row)) (pairs_of t row)) → Has v (row_writes l place t write rows) → AtOthers w v
      across w v m n e =
          let a = map_has (write (range_of l place t row)) (pairs_of t row) w m in
          let b = flat_has (λ row. map (write (range_of l place t row)) (pairs_of t row)) rows v n in
          let c = map_has (write (range_of l place t b.0)) (pairs_of t b.0) v b.2 in
          two_rows row b.0 a.0 c.0 sound (fits row (inl refl)) (fits b.0 (inr b.1)) (each_has (AreApart t row) b.0 rows two.0 b.1) a.1 c.1
          (ap place_of a.2 ∙ e ∙ sym (ap place_of c.2))
