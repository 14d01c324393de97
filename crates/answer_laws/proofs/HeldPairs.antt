-- What a valid database holds at a key of a range is the pair of a row of one table.
use Rattle.std.proofs.Common.{◌≡◌, ℕ, Bool, true, false, List, [], refl, sym, ap, ◌∙◌, subst, arith}
use Rattle.std.specs.Prelude.{◌==◌, if◌then◌else◌, flat_map, slice_get, Some}
use Rattle.std.specs.List.{enumerate_from}
use Rattle.std.proofs.lemmas.Bool.{eqb-true, eq-eqb}
use Rattle.std.proofs.lemmas.List.Elements.{recursion_from_All}
use Rattle.mr_base.specs.declared.ids.RangeId.{RangeId}
use Rattle.descriptors.specs.declared.table.Table.{Table}
use Rattle.row_locality.specs.Pairs.{KeyValue, pairs_of}
use Rattle.row_locality.specs.Plain.{Layout, PlainDatabase, IsSoundLayout, IsValid, IsRowOf, AreApart, pairs_of_row, pairs_of_rows, range_of}
use Rattle.sql_eval.specs.Agreement.{range_value}
use Rattle.answer_laws.proofs.Members.{Has, each_has}
use Rattle.answer_laws.proofs.MoreMembers.{flat_has, has_flat, numbered_has, has_numbered}
use Rattle.answer_laws.proofs.Pairwise.{EachTwo, each_two}
use Rattle.answer_laws.proofs.PutAll.{held_pair, pair_held}
use Rattle.answer_laws.proofs.RangesOfTables.{IsRangeIn, one_table, row_range, table_sound}
use Rattle.answer_laws.proofs.RowOrder.{Row}
use Rattle.answer_laws.proofs.TablePairs.{IsPairIn, pair_number, pair_there, one_pair}
use Rattle.answer_laws.proofs.TrackedWrites.{same_number}

-- a pair of a row of this table that lives in a range
pub record InTable (l : Layout) (d : PlainDatabase) (place : ℕ) (t : Table) (range : RangeId) (p : KeyValue) : Type 0 where
  pub row : Row
  pub there : Has row (d place)
  pub range_is : range_of l place t row ≡ range
  pub pair : IsPairIn t row p

-- a pair of a row that lives in a range
pub record Lives (l : Layout) (d : PlainDatabase) (range : RangeId) (p : KeyValue) : Type 0 where
  pub place : ℕ
  pub table : Table
  pub at : slice_get l.catalog.tables place ≡ Some table
  pub in_table : InTable l d place table range p

-- ---- members of what a range holds

lived : (b : Bool) (m n : ℕ) (p : KeyValue) (ps : List KeyValue) → (m == n) ≡ b → Has p (if b then ps else []) → (m ≡ n) × Has p ps
lived true m n p ps e h = (eqb-true m n e, h)
lived false m n p ps e h = absurd h

abbrev table_pairs : Layout → PlainDatabase → RangeId → ℕ × Table → List KeyValue
table_pairs l d range x = flat_map (pairs_of_row l range x.0 x.1) (d x.0)

pub pairs_live : (l : Layout) (d : PlainDatabase) (range : RangeId) (p : KeyValue) → Has p (pairs_of_rows l d range) → Lives l d range p
pairs_live l d range p h =
    let r = flat_has (table_pairs l d range) (enumerate_from 0 l.catalog.tables) p h in
    let k = numbered_has 0 l.catalog.tables r.0 r.1 in
    let s = flat_has (pairs_of_row l range r.0.0 r.0.1) (d r.0.0) p r.2 in
    let v = lived ((range_of l r.0.0 r.0.1 s.0).0 == range.0) (range_of l r.0.0 r.0.1 s.0).0 range.0 p (pairs_of r.0.1 s.0) refl s.2 in
    let same : k.0 ≡ r.0.0 = omega (arith, k.2) in
    record {
      place = r.0.0;
      table = r.0.1;
      at = subst (λ (i : ℕ). slice_get l.catalog.tables i ≡ Some r.0.1) same k.1;
      in_table = record { row = s.0; there = s.1; range_is = same_number (range_of l r.0.0 r.0.1 s.0) range v.0; pair = pair_number r.0.1 s.0 p v.1 };
    }

pub live_pairs : (l : Layout) (d : PlainDatabase) (range : RangeId) (p : KeyValue) → Lives l d range p → Has p (pairs_of_rows l d range)
live_pairs l d range p v =
    let x = v.in_table in
    let in_row : Has p (pairs_of v.table x.row) =
    subst (λ (q : KeyValue). Has q (pairs_of v.table x.row)) (sym x.pair.pair) (pair_there v.table x.row x.pair.number x.pair.places x.pair.index) in
    let same : ((range_of l v.place v.table x.row).0 == range.0) ≡ true = eq-eqb (range_of l v.place v.table x.row).0 range.0 (ap (λ (r : RangeId). r.0) x.range_is) in
    let lives : Has p (pairs_of_row l range v.place v.table x.row) = subst (λ (b : Bool). Has p (if b then pairs_of v.table x.row else [])) (sym same) in_row in
    has_flat (table_pairs l d range) (enumerate_from 0 l.catalog.tables) (v.place, v.table) p
    (has_numbered 0 v.place v.place l.catalog.tables v.table v.at (omega arith))
    (has_flat (pairs_of_row l range v.place v.table) (d v.place) x.row p x.there lives)

-- ---- rows of a valid database

pub row_is : (l : Layout) (d : PlainDatabase) (place : ℕ) (t : Table) (row : Row) → IsValid l.catalog d → slice_get l.catalog.tables place ≡ Some t → Has row (d place)
    → IsRowOf l.catalog t row
row_is l d place t row v e h =
    each_has (IsRowOf l.catalog t) row (d place) (recursion_from_All (IsRowOf l.catalog t) (d place) ((v.tables place t e).each)) h

pub rows_apart : (l : Layout) (d : PlainDatabase) (place : ℕ) (t : Table) → IsValid l.catalog d → slice_get l.catalog.tables place ≡ Some t → EachTwo (AreApart t) (d place)
rows_apart l d place t v e = each_two (AreApart t) (d place) ((v.tables place t e).apart)

-- ---- in a range of a table

pub moved : (l : Layout) (d : PlainDatabase) (i j : ℕ) (t u : Table) (range : RangeId) (p : KeyValue) → i ≡ j → t ≡ u → InTable l d i t range p → InTable l d j u range p
moved l d i j t u range p e f x = subst (λ (k : ℕ). InTable l d k u range p) e (subst (λ (w : Table). InTable l d i w range p) f x)

-- a pair of a range of a table is of a row of this table
pub of_table : (l : Layout) (d : PlainDatabase) (place : ℕ) (t : Table) (range : RangeId) (p : KeyValue) → IsSoundLayout l → IsRangeIn l place t range → Lives l d range p
    → InTable l d place t range p
of_table l d place t range p s r v =
    let own : IsRangeIn l v.place v.table range = subst (λ (x : RangeId). IsRangeIn l v.place v.table x) v.in_table.range_is (row_range l v.place v.table v.in_table.row s.catalog v.at) in
    let same = one_table l v.place place v.table t range s.ranges own r in
    moved l d v.place place v.table t range p same.0 same.1 v.in_table

-- two pairs of one range and one key are one, of one row
pub one_in_table : (l : Layout) (d : PlainDatabase) (place : ℕ) (t : Table) (range : RangeId) (p q : KeyValue) → IsSoundLayout l → IsValid l.catalog d → slice_get l.catalog.tables place ≡ Some t
    → (x : InTable l d place t range p) (y : InTable l d place t range q) → p.0 ≡ q.0 → (x.row ≡ y.row) × (p ≡ q)
one_in_table l d place t range p q s v e x y f =
    let fx : IsRowOf l.catalog t x.row = row_is l d place t x.row v e x.there in
    let fy : IsRowOf l.catalog t y.row = row_is l d place t y.row v e y.there in
    one_pair t (d place) x.row y.row p q (table_sound l.catalog place t s.catalog e) (rows_apart l d place t v e) x.there y.there fx.fits fy.fits x.pair y.pair f

-- ---- what is held at a key

pub value_lives : (l : Layout) (d : PlainDatabase) (range : RangeId) (key value : List ℕ) → range_value l d range key ≡ Some value → Lives l d range (key, value)
value_lives l d range key value e = pairs_live l d range (key, value) (held_pair l d range key value e)

pub live_value : (l : Layout) (d : PlainDatabase) (range : RangeId) (p : KeyValue) → IsSoundLayout l → IsValid l.catalog d → Lives l d range p → range_value l d range p.0 ≡ Some p.1
live_value l d range p s v x =
    let r = pair_held l d range p.0 p.1 (live_pairs l d range p x) in
    let own : IsRangeIn l x.place x.table range = subst (λ (z : RangeId). IsRangeIn l x.place x.table z) x.in_table.range_is (row_range l x.place x.table x.in_table.row s.catalog x.at) in
    let other : InTable l d x.place x.table range (p.0, r.0) = of_table l d x.place x.table range (p.0, r.0) s own (value_lives l d range p.0 r.0 r.1) in
    let same = one_in_table l d x.place x.table range p (p.0, r.0) s v x.at x.in_table other refl in
    r.1 ∙ ap (λ (z : KeyValue). Some z.1) (sym same.1)

pub table_value : (l : Layout) (d : PlainDatabase) (place : ℕ) (t : Table) (range : RangeId) (key value : List ℕ) → IsSoundLayout l → IsRangeIn l place t range
    → range_value l d range key ≡ Some value → InTable l d place t range (key, value)
table_value l d place t range key value s r e = of_table l d place t range (key, value) s r (value_lives l d range key value e)

pub held_in_table : (l : Layout) (d : PlainDatabase) (place : ℕ) (t : Table) (range : RangeId) (p : KeyValue) → IsSoundLayout l → IsValid l.catalog d → slice_get l.catalog.tables place ≡ Some t
    → InTable l d place t range p → range_value l d range p.0 ≡ Some p.1
held_in_table l d place t range p s v e x = live_value l d range p s v (record { place = place; table = t; at = e; in_table = x })
