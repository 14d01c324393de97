-- The rows of which look-ups in the partitions of a table hold pairs, over all that a valid database holds.
use Rattle.std.proofs.Common.{◌≡◌, ℕ, Bool, true, false, cond, refl, sym, ap, ◌∙◌}
use Rattle.std.specs.Prelude.{slice_get, Option, Some, None}
use Rattle.std.specs.Cmp.Lexicographic.{nat_list_cmp_total}
use Rattle.std.specs.FinMap.Entries.{find}
use Rattle.std.proofs.lemmas.Map.Lookups.{exact_bytes}
use Rattle.descriptors.specs.declared.table.Table.{Table}
use Rattle.row_locality.specs.Pairs.{KeyValue, bytes_cmp}
use Rattle.row_locality.specs.Plain.{Layout, PlainDatabase, IsSoundLayout, IsValid, Partition, partitions}
use Rattle.row_locality.specs.Spans.{is_in}
use Rattle.sql_eval.specs.Agreement.{range_value}
use Rattle.sql_eval.specs.Search.{Lookup, ask_of}
use Rattle.answer_laws.proofs.HeldPairs.{InTable, row_is, table_value, held_in_table}
use Rattle.answer_laws.proofs.KeyedEntries.{found_entry, entry_found}
use Rattle.answer_laws.proofs.Members.{Has}
use Rattle.answer_laws.proofs.RangesOfTables.{home, home_there, one_partition_of_range, partition_range}
use Rattle.answer_laws.proofs.RowOrder.{Row}
use Rattle.answer_laws.proofs.StoredSearches.{held_at}
use Rattle.answer_laws.proofs.TablePairs.{IsPairIn}
use Rattle.answer_laws.proofs.ThroughWrites.{in_span, span_value, span_sorted}

passed : {A : Type 0} (b : Bool) (o : Option A) (v : A) → cond b o None ≡ Some v → (b ≡ true) × (o ≡ Some v)
passed true o v e = (refl, e)
passed false o v e = absurd (cc)

-- a pair that a look-up holds is of a row of the look-up's partition
pub record HeldRow (l : Layout) (d : PlainDatabase) (place : ℕ) (t : Table) (x : Lookup) (p : KeyValue) : Type 0 where
  pub row : Row
  pub there : Has row (d place)
  pub home_is : home l place t row ≡ x.partition
  pub pair : IsPairIn t row p
  pub inside : is_in x.span p.0 ≡ true

module _ (l : Layout) (d : PlainDatabase) (place : ℕ) (t : Table) (sound : IsSoundLayout l) (valid : IsValid l.catalog d) (at : slice_get l.catalog.tables place ≡ Some t) where
  pub row_home : (row : Row) → Has row (d place) → Has (home l place t row) (partitions l place t)
  row_home row h = home_there l place t row (row_is l d place t row valid at h)

  pub held_row : (x : Lookup) (p : KeyValue) → Has x.partition (partitions l place t) → Has p (held_at l d x) → HeldRow l d place t x p
  held_row x p h m =
      let found : find bytes_cmp p.0 (in_span l d (ask_of x)) ≡ Some p.1 =
      entry_found bytes_cmp nat_list_cmp_total exact_bytes p.0 p.1 (in_span l d (ask_of x)) (span_sorted l d (ask_of x)) m in
      let both = passed (is_in x.span p.0) (range_value l d x.partition.range p.0) p.1 (sym (span_value l d (ask_of x) p.0) ∙ found) in
      let v : InTable l d place t x.partition.range p = table_value l d place t x.partition.range p.0 p.1 sound (partition_range l place t x.partition at h) both.1 in
      record {
        row = v.row;
        there = v.there;
        home_is = one_partition_of_range l place t (home l place t v.row) x.partition (row_home v.row v.there) h v.range_is;
        pair = v.pair;
        inside = both.0;
      }

  pub row_held : (x : Lookup) (row : Row) (p : KeyValue) → Has row (d place) → home l place t row ≡ x.partition → IsPairIn t row p → is_in x.span p.0 ≡ true → Has p (held_at l d x)
  row_held x row p h e i inside =
      let v : InTable l d place t x.partition.range p = record { row = row; there = h; range_is = ap (λ (q : Partition). q.range) e; pair = i } in
      let value : range_value l d x.partition.range p.0 ≡ Some p.1 = held_in_table l d place t x.partition.range p sound valid at v in
      found_entry bytes_cmp nat_list_cmp_total exact_bytes p.0 p.1 (in_span l d (ask_of x))
      (span_value l d (ask_of x) p.0 ∙ ap (λ (b : Bool). cond b (range_value l d x.partition.range p.0) None) inside ∙ value)
