-- The ranges of rows, and the tables that names name.
use Rattle.std.proofs.Common.{◌≡◌, ℕ, ◌+◌, ◌<◌, List, [], sym, ap, ◌∙◌, arith}
use Rattle.std.specs.Prelude.{Option, Some, None, length, option_map, slice_get}
use Rattle.std.specs.List.{enumerate_from}
use Rattle.std.specs.Option.{option_map_or}
use Rattle.std.proofs.lemmas.Option.{same_Some, slice_get-map}
use Rattle.mr_base.specs.declared.ids.RangeId.{RangeId}
use Rattle.mr_base.specs.declared.rows.Datum.{Datum}
use Rattle.descriptors.specs.Sound.{IsSoundTable}
use Rattle.descriptors.specs.declared.database.Database.{Database}
use Rattle.row_locality.specs.Plain.{Layout, Partition, partition_of, partition_regions, range_at, range_of, regions_of}
use Rattle.row_locality.specs.Rows.{is_by_row, region_of}
use Rattle.sql_eval.specs.Evaluation.{Setting, partitions_of}
use Rattle.sql_eval.specs.Execution.{Named, named_table}
use Rattle.sql_eval.specs.Laws.{IsSoundSetting}
use Rattle.sql_eval.proofs.ListSteps.{enumerate_at}
use Rattle.answer_laws.proofs.ExecutedLists.{sound_named}
use Rattle.answer_laws.proofs.KeepsValid.{IsNamed, is_named}
use Rattle.answer_laws.proofs.RangesOfTables.{got_at}
use Rattle.answer_laws.proofs.WrittenRanges.{place_below, some_regions}
use Rattle.planner.specs.RowWrites.{ArePartitionsOf, place_of_region}

-- ---- tables

pub table_is_sound : (s : Setting) (name : List ℕ) (n : Named) → IsSoundSetting s → named_table s.layout.catalog name ≡ Some n → IsSoundTable n.table
table_is_sound s name n h e = (sound_named s.layout.catalog n h.layout.catalog (is_named s.layout.catalog name n e)).table.table

pub are_partitions : (s : Setting) (name : List ℕ) (n : Named) (ps : List Partition) → IsSoundSetting s → named_table s.layout.catalog name ≡ Some n → ps ≡ partitions_of s.layout n
    → ArePartitionsOf s.layout n ps
are_partitions s name n ps h e p = record { catalog = h.layout.catalog; name = name; table = e; partitions = p }

-- ---- ranges

abbrev partition_by : Layout → Named → ℕ × Option (List ℕ) → Partition
partition_by l n x = record { range = range_at l n.place x.0; region = x.1 }

there : (l : Layout) (n : Named) (k : ℕ) → k < length (partition_regions l.catalog n.table)
    → (region : Option (List ℕ)) × (slice_get (partitions_of l n) k ≡ Some (record { range = range_at l n.place k; region = region }))
there l n k h =
    let r = got_at (partition_regions l.catalog n.table) k h in
    let zero_more : 0 + k ≡ k = omega (arith) in (
      r.0,
      slice_get-map (partition_by l n) (enumerate_from 0 (partition_regions l.catalog n.table)) k
          ∙ ap (option_map (partition_by l n)) (enumerate_at 0 (partition_regions l.catalog n.table) k ∙ ap (option_map (λ x. (0 + k, x))) r.1)
          ∙ ap (λ (i : ℕ). Some (partition_by l n (i, r.0))) zero_more,
    )

regions_are : (l : Layout) (n : Named) → IsNamed l.catalog n → regions_of l.catalog n.table ≡ n.database.regions
regions_are l n i = ap (λ (o : Option Database). option_map_or (λ d. d.regions) o []) i.database

-- a row's partition is among them
row_there : (l : Layout) (n : Named) (ps : List Partition) (row : List Datum) (place : ℕ) → ArePartitionsOf l n ps → place ≡ place_of_region n.database.regions (region_of n.table row)
    → (region : Option (List ℕ)) × (slice_get ps place ≡ Some (record { range = range_of l n.place n.table row; region = region }))
row_there l n ps row place h e =
    let named = is_named l.catalog h.name n h.table in
    let at = there l n (partition_of l.catalog n.table row) (place_below (is_by_row n.table) (regions_of l.catalog n.table) _ (some_regions l.catalog n h.catalog named)) in
    let same : place ≡ partition_of l.catalog n.table row = e ∙ ap (λ (rs : List (List ℕ)). place_of_region rs (region_of n.table row)) (sym (regions_are l n named)) in
    (at.0, ap (slice_get ps) same ∙ ap (λ (qs : List Partition). slice_get qs (partition_of l.catalog n.table row)) h.partitions ∙ at.1)

pub range_is : (l : Layout) (n : Named) (ps : List Partition) (row : List Datum) (place : ℕ) (p : Partition) → place ≡ place_of_region n.database.regions (region_of n.table row)
    → Some p ≡ slice_get ps place → ArePartitionsOf l n ps → p.range ≡ range_of l n.place n.table row
range_is l n ps row place p e f h =
    let at = row_there l n ps row place h e in
    ap (λ (q : Partition). q.range) (same_Some _ _ (f ∙ at.1))

pub range_is_there : (l : Layout) (n : Named) (ps : List Partition) (row : List Datum) (place : ℕ) (range : RangeId) → place ≡ place_of_region n.database.regions (region_of n.table row)
    → None ≡ slice_get ps place → ArePartitionsOf l n ps → range ≡ range_of l n.place n.table row
range_is_there l n ps row place range e f h =
    let at = row_there l n ps row place h e in
    let never : None ≡ Some (record { range = range_of l n.place n.table row; region = at.0 }) = f ∙ at.1 in
    absurd (cc)
