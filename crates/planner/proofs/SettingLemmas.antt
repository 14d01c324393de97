-- The ranges of a named table's partitions.
use Rattle.std.proofs.Common.{◌≡◌, ℕ, ◌+◌, ◌<◌, ◌≤◌, ◌^◌, Bool, true, false, List, [], ◌∷◌, length, map, refl, sym, ap, subst, ◌∙◌, arith}
use Rattle.std.specs.Prelude.{if◌then◌else◌, Option, Some, None, slice_get}
use Rattle.std.specs.Option.{option_map_or}
use Rattle.std.proofs.lemmas.List.{length-map}
use Rattle.std.proofs.lemmas.Option.{slice_get_within}
use Rattle.mr_base.specs.declared.ids.RangeId.{RangeId}
use Rattle.descriptors.specs.declared.database.Database.{Database}
use Rattle.row_locality.specs.Plain.{Partition, first_range, partition_regions, regions_of}
use Rattle.row_locality.specs.Rows.{is_by_row}
use Rattle.sql_eval.specs.Evaluation.{Setting, partitions_of}
use Rattle.sql_eval.specs.Execution.{Named, named_table}
use Rattle.sql_eval.specs.Laws.{IsSoundSetting}
use Rattle.local_search.specs.Partitions.{ArePartitions, partition_count}
use Rattle.answer_laws.proofs.KeepsValid.{IsNamed, is_named}
use Rattle.answer_laws.proofs.RangesOfTables.{got_at}

counted : (b : Bool) (rs : List (List ℕ)) → length (if b then map (λ r. Some r) rs else None ∷ []) ≡ (if b then length rs else 1)
counted true rs = length-map rs (λ (r : List ℕ). Some r)
counted false rs = refl

module _ (s : Setting) (name : List ℕ) (n : Named) (sound : IsSoundSetting s) (table : named_table s.layout.catalog name ≡ Some n) where
  named' : IsNamed s.layout.catalog n
  named' = is_named s.layout.catalog name n table

  count_is : length (partition_regions s.layout.catalog n.table) ≡ partition_count n.table n.database
  count_is =
      counted (is_by_row n.table) (regions_of s.layout.catalog n.table)
      ∙ ap (λ (o : Option Database). if is_by_row n.table then length (option_map_or (λ d. d.regions) o []) else 1) named'.database

  first_is : (first : RangeId) → Some first ≡ slice_get s.layout.first_ranges n.place → first.0 ≡ first_range s.layout n.place
  first_is first e = ap (λ (o : Option RangeId). option_map_or (λ r. r.0) o 0) e

  pub has_room : (first : RangeId) → Some first ≡ slice_get s.layout.first_ranges n.place → first.0 + partition_count n.table n.database ≤ 2 ^ 32
  has_room first e =
      let room : first_range s.layout n.place + length (partition_regions s.layout.catalog n.table) ≤ 2 ^ 32 = sound.layout.ranges.numbered n.place n.table named'.at in
      subst (λ (m : ℕ). m + partition_count n.table n.database ≤ 2 ^ 32) (sym (first_is first e))
      (subst (λ (m : ℕ). first_range s.layout n.place + m ≤ 2 ^ 32) count_is room)

  pub partitions_are : (first : RangeId) (ps : List Partition) → Some first ≡ slice_get s.layout.first_ranges n.place → ArePartitions n.table n.database first ps → ps ≡ partitions_of s.layout n
  partitions_are first ps e are = are s.layout n.place named'.database (sym e)

  pub first_is_there : None ≡ slice_get s.layout.first_ranges n.place → ⊥
  first_is_there e =
      let below : n.place < length s.layout.catalog.tables = slice_get_within s.layout.catalog.tables n.place n.table named'.at in
      let each : length s.layout.first_ranges ≡ length s.layout.catalog.tables = sound.layout.ranges.each in
      let r = got_at s.layout.first_ranges n.place (omega (arith, below, each)) in
      let never : ◌≡◌ {A = Option RangeId} None (Some r.0) = e ∙ r.1 in
      cc
