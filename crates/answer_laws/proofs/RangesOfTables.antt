-- The ranges of two tables differ, and so do those of a table's partitions. Each row lives in one.
use Rattle.std.proofs.Common.{◌≡◌, ℕ, zero, suc, ◌+◌, ◌<◌, ◌≤◌, Bool, true, false, List, [], ◌∷◌, ◌++◌, length, refl, sym, ap, ◌∙◌, subst, inl, inr, arith}
use Rattle.std.specs.Prelude.{if◌then◌else◌, map, position, slice_get, unwrap_or, Contains, IfSome, Option, Some, None, option_and_then, bytes_eq}
use Rattle.std.specs.List.{AllZip, enumerate_from}
use Rattle.std.proofs.lemmas.Bool.{cases_eq, cases_order}
use Rattle.std.proofs.lemmas.List.Elements.{recursion_from_All}
use Rattle.std.proofs.lemmas.Slice.Eq.{bytes_eq-Decides}
use Rattle.mr_base.specs.declared.ids.RangeId.{RangeId}
use Rattle.mr_base.specs.declared.rows.Datum.TheVariants as datums
use Rattle.region_sql.specs.declared.region_statements.ColumnType.{ColumnType}
use Rattle.descriptors.specs.declared.database.Database.{Database}
use Rattle.descriptors.specs.declared.table.Table.{Table}
use Rattle.descriptors.specs.Contents.{Contents}
use Rattle.descriptors.specs.Sound.{IsSoundAmong, IsSoundCatalog, IsSoundTable}
use Rattle.row_locality.specs.Plain.{Layout, AreRangesOf, IsRowOf, Partition, partitions, partition_regions, partition_of, first_range, range_at, range_of, regions_of}
use Rattle.row_locality.specs.Rows.{HasType, is_by_row, region_column, region_of, text_of}
use Rattle.sql_eval.specs.Execution.{Named}
use Rattle.answer_laws.proofs.KeepsValid.{IsNamed, got_below}
use Rattle.answer_laws.proofs.Members.{Has, has_itself, each_has}
use Rattle.answer_laws.proofs.MoreMembers.{same_some, got_has, has_map, map_has, numbered_has, has_numbered}
use Rattle.answer_laws.proofs.Positions.{first_at}
use Rattle.answer_laws.proofs.RowOrder.{Row}
use Rattle.answer_laws.proofs.WrittenRanges.{place_below, some_regions}

-- ---- tables of a sound catalog

sound_among : (c : Contents) (place : ℕ) (t : Table) → IsSoundCatalog c → slice_get c.tables place ≡ Some t → IsSoundAmong c.databases t
sound_among c place t h e = each_has (IsSoundAmong c.databases) t c.tables (recursion_from_All (IsSoundAmong c.databases) c.tables h.tables) (got_has c.tables place t e)

pub table_sound : (c : Contents) (place : ℕ) (t : Table) → IsSoundCatalog c → slice_get c.tables place ≡ Some t → IsSoundTable t
table_sound c place t h e = let r = sound_among c place t h e in r.2.table

pub as_named : (c : Contents) (place : ℕ) (t : Table) → IsSoundCatalog c → slice_get c.tables place ≡ Some t
    → (d : Database) × IsNamed c (record { place = place; table = t; database = d })
as_named c place t h e = let r = sound_among c place t h e in (r.0, record { at = e; database = r.1 })

-- ---- ranges

pub got_at : {X : Type 0} (xs : List X) (i : ℕ) → i < length xs → (x : X) × (slice_get xs i ≡ Some x)
got_at [] i h = absurd (omega arith)
got_at (x ∷ xs) zero h = (x, refl)
got_at (x ∷ xs) (suc i) h = got_at xs i (omega arith)

abbrev parts : Layout → Table → ℕ
parts l t = length (partition_regions l.catalog t)

abbrev first : Layout → ℕ → ℕ
first l place = first_range l place

after_one : (l : Layout) (i j : ℕ) (t : Table) → AreRangesOf l → slice_get l.catalog.tables i ≡ Some t → i + 1 ≡ j → j < length l.catalog.tables → first l j ≡ first l i + parts l t
after_one l i j t h e f lt = subst (λ k. first l k ≡ first l i + parts l t) f (h.follow i t e (omega arith))

-- the ranges of a later table come after those of an earlier one
ranges_rise : (l : Layout) (i j : ℕ) (t : Table) → AreRangesOf l → slice_get l.catalog.tables i ≡ Some t → i < j → j < length l.catalog.tables → first l i + parts l t ≤ first l j
ranges_rise l i zero t h e lt len = absurd (omega arith)
ranges_rise l i (suc j) t h e lt len =
    elim (cases_eq i j) [
      | inl same ↦ let f : first l (suc j) ≡ first l i + parts l t = after_one l i (suc j) t h e (omega arith) len in omega arith
      | inr differs ↦
          let before : first l i + parts l t ≤ first l j = ranges_rise l i j t h e (omega arith) (omega arith) in
          let u = got_at l.catalog.tables j (omega arith) in
          let f : first l (suc j) ≡ first l j + parts l u.0 = after_one l j (suc j) u.0 h u.1 (omega arith) len in
          omega arith
    ]

-- a number of a range of a table
pub record IsRangeIn (l : Layout) (place : ℕ) (t : Table) (range : RangeId) : Type 0 where
  pub at : slice_get l.catalog.tables place ≡ Some t
  pub partition : ℕ
  pub below : partition < length (partition_regions l.catalog t)
  pub number : range.0 ≡ first_range l place + partition

apart_ranges : (l : Layout) (i j : ℕ) (t u : Table) (range : RangeId) → AreRangesOf l → IsRangeIn l i t range → IsRangeIn l j u range → i < j → ⊥
apart_ranges l i j t u range h a b lt =
    let rise : first l i + parts l t ≤ first l j = ranges_rise l i j t h a.at lt (got_below l.catalog.tables j u b.at) in
    let below : a.partition < parts l t = a.below in
    let x : range.0 ≡ first l i + a.partition = a.number in
    let y : range.0 ≡ first l j + b.partition = b.number in
    omega arith

-- a range is of one table
pub one_table : (l : Layout) (i j : ℕ) (t u : Table) (range : RangeId) → AreRangesOf l → IsRangeIn l i t range → IsRangeIn l j u range → (i ≡ j) × (t ≡ u)
one_table l i j t u range h a b =
    elim (cases_order i j) [
      | inl e ↦ (e, same_some (sym a.at ∙ ap (λ k. slice_get l.catalog.tables k) e ∙ b.at))
      | inr (inl lt) ↦ absurd (apart_ranges l i j t u range h a b lt)
      | inr (inr gt) ↦ absurd (apart_ranges l j i u t range h b a gt)
    ]

-- the range of a row is one of its table
pub row_range : (l : Layout) (place : ℕ) (t : Table) (row : Row) → IsSoundCatalog l.catalog → slice_get l.catalog.tables place ≡ Some t → IsRangeIn l place t (range_of l place t row)
row_range l place t row h e =
    let d = as_named l.catalog place t h e in
    let n : Named = record { place = place; table = t; database = d.0 } in
    record {
      at = e;
      partition = partition_of l.catalog t row;
      below = place_below (is_by_row t) (regions_of l.catalog t) _ (some_regions l.catalog n h d.1);
      number = refl;
    }

-- ---- partitions

pub record IsPartitionAt (l : Layout) (place : ℕ) (t : Table) (p : Partition) : Type 0 where
  pub partition : ℕ
  pub region_at : slice_get (partition_regions l.catalog t) partition ≡ Some p.region
  pub range_is : p.range ≡ range_at l place partition

pub partition_at : (l : Layout) (place : ℕ) (t : Table) (p : Partition) → Has p (partitions l place t) → IsPartitionAt l place t p
partition_at l place t p h =
    let f : ℕ × Option (List ℕ) → Partition = λ x. record { range = range_at l place x.0; region = x.1 } in
    let r = map_has f (enumerate_from 0 (partition_regions l.catalog t)) p h in
    let k = numbered_has 0 (partition_regions l.catalog t) r.0 r.1 in
    let same : r.0.0 ≡ k.0 = omega (arith, k.2) in
    record {
      partition = k.0;
      region_at = k.1 ∙ ap (λ (q : Partition). Some q.region) r.2;
      range_is = sym (ap (λ (q : Partition). q.range) r.2) ∙ ap (range_at l place) same;
    }

pub partition_range : (l : Layout) (place : ℕ) (t : Table) (p : Partition) → slice_get l.catalog.tables place ≡ Some t → Has p (partitions l place t) → IsRangeIn l place t p.range
partition_range l place t p e h =
    let a = partition_at l place t p h in
    record {
      at = e;
      partition = a.partition;
      below = got_below (partition_regions l.catalog t) a.partition p.region a.region_at;
      number = ap (λ (r : RangeId). r.0) a.range_is;
    }

-- partitions of one range are one
pub one_partition_of_range : (l : Layout) (place : ℕ) (t : Table) (p q : Partition) → Has p (partitions l place t) → Has q (partitions l place t) → p.range ≡ q.range → p ≡ q
one_partition_of_range l place t p q h k e =
    let a = partition_at l place t p h in
    let b = partition_at l place t q k in
    let numbers : first l place + a.partition ≡ first l place + b.partition = ap (λ (r : RangeId). r.0) (sym a.range_is ∙ e ∙ b.range_is) in
    let same : a.partition ≡ b.partition = omega arith in
    let region : p.region ≡ q.region = same_some (sym a.region_at ∙ ap (λ k. slice_get (partition_regions l.catalog t) k) same ∙ b.region_at) in
    λ i. record { range = e i; region = region i }

-- ---- the partition of a row

-- The partition in which a row lives.
abbrev pub home : Layout → ℕ → Table → Row → Partition
home l place t row = record { range = range_of l place t row; region = region_of t row }

last_is_text : (columns : List (List ℕ × ColumnType)) (row : Row) → AllZip (λ c v. HasType c.1 v) (columns ++ region_column ∷ []) row
    → (s : List ℕ) × (slice_get row (length columns) ≡ Some (datums.Text s))
last_is_text [] [] fits = absurd fits
last_is_text [] (datums.Text s ∷ row) fits = (s, refl)
last_is_text [] (datums.Int n ∷ row) fits = absurd fits.0
last_is_text [] (datums.Bool b ∷ row) fits = absurd fits.0
last_is_text (c ∷ columns) [] fits = absurd fits
last_is_text (c ∷ columns) (v ∷ row) fits = last_is_text columns row fits.1

got_mapped : (rs : List (List ℕ)) (i : ℕ) (r : List ℕ) → slice_get rs i ≡ Some r → slice_get (map (λ x. Some x) rs) i ≡ Some (Some r)
got_mapped [] i r e = absurd (cc)
got_mapped (x ∷ rs) zero r e = ap (λ (y : List ℕ). Some (Some y)) (same_some e)
got_mapped (x ∷ rs) (suc i) r e = got_mapped rs i r e

region_placed : (rs : List (List ℕ)) (region : List ℕ) → Has region rs → slice_get (map (λ x. Some x) rs) (unwrap_or (position (bytes_eq region) rs) 0) ≡ Some (Some region)
region_placed rs region h =
    let f = first_at (bytes_eq region) rs region h ((bytes_eq-Decides region region).1 refl) in
    let same : region ≡ f.item = (bytes_eq-Decides region f.item).0 f.passes in
    ap (λ (o : Option ℕ). slice_get (map (λ (x : List ℕ). Some x) rs) (unwrap_or o 0)) f.position_is
    ∙ got_mapped rs f.place f.item f.at ∙ ap (λ (y : List ℕ). Some (Some y)) (sym same)

home_by : (b : Bool) (rs : List (List ℕ)) (columns : List (List ℕ × ColumnType)) (row : Row) → AllZip (λ c v. HasType c.1 v) (if b then columns ++ region_column ∷ [] else columns) row
    → IfSome (if b then option_and_then text_of (slice_get row (length columns)) else None) (Contains rs)
    → slice_get (if b then map (λ x. Some x) rs else None ∷ [])
    (unwrap_or (option_and_then (λ region. position (bytes_eq region) rs) (if b then option_and_then text_of (slice_get row (length columns)) else None)) 0)
    ≡ Some (if b then option_and_then text_of (slice_get row (length columns)) else None)
home_by false rs columns row fits lives = refl
home_by true rs columns row fits lives =
    let last = last_is_text columns row fits in
    let o : option_and_then text_of (slice_get row (length columns)) ≡ Some last.0 = ap (option_and_then text_of) last.1 in
    let c : Contains rs last.0 = subst (λ (r : Option (List ℕ)). IfSome r (Contains rs)) o lives in
    subst
    (λ (r : Option (List ℕ)). slice_get (map (λ (x : List ℕ). Some x) rs) (unwrap_or (option_and_then (λ region. position (bytes_eq region) rs) r) 0) ≡ Some r)
    (sym o) (region_placed rs last.0 (has_itself last.0 rs c))

-- a row that a table may hold lives in one of its partitions
pub home_there : (l : Layout) (place : ℕ) (t : Table) (row : Row) → IsRowOf l.catalog t row → Has (home l place t row) (partitions l place t)
home_there l place t row is =
    let f : ℕ × Option (List ℕ) → Partition = λ x. record { range = range_at l place x.0; region = x.1 } in
    has_map f (enumerate_from 0 (partition_regions l.catalog t)) (partition_of l.catalog t row, region_of t row)
    (has_numbered 0 (partition_of l.catalog t row) (partition_of l.catalog t row) (partition_regions l.catalog t) (region_of t row)
    (home_by (is_by_row t) (regions_of l.catalog t) t.columns row is.fits is.lives) (omega arith))
