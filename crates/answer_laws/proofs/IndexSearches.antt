-- Over all that a valid database holds, a search by an index finds the rows that match.
use Rattle.std.proofs.Common.{◌≡◌, ℕ, Bool, true, false, List, refl, sym, ap, ◌∙◌, subst, inl, inr}
use Rattle.std.specs.Prelude.{◌==◌, if◌then◌else◌, filter, map, slice_get, Option, Some, None, option_map, option_and_then, option_to_list, is_some}
use Rattle.std.specs.List.{AllZip}
use Rattle.std.proofs.lemmas.Bool.{eqb-true}
use Rattle.mr_base.specs.declared.rows.Datum.{Datum}
use Rattle.region_sql.specs.declared.row_statements.Term.{Term}
use Rattle.descriptors.specs.Sound.{IsSoundTable}
use Rattle.descriptors.specs.declared.table.Table.{Table}
use Rattle.row_locality.specs.Keys.{index_key, index_types, primary_key}
use Rattle.row_locality.specs.Pairs.{KeyValue}
use Rattle.row_locality.specs.Plain.{Layout, PlainDatabase, IsSoundLayout, IsValid, Partition, partitions}
use Rattle.row_locality.specs.Reading.{is_key_of, primary_of}
use Rattle.row_locality.specs.Rows.{Fits, HasType, key_of, values_at}
use Rattle.row_locality.specs.Spans.{point_of}
use Rattle.row_locality.specs.Values.{value_of}
use Rattle.row_locality.proofs.KeyPartLemmas.{key_values_again}
use Rattle.row_locality.proofs.PointLemmas.{point_holds}
use Rattle.row_locality.proofs.TypeLemmas.{key_typed, index_typed}
use Rattle.sql_eval.specs.Evaluation.{KeyedRow, has_pair, ends_at, led_to, at_primary, followed_answers, matched_rows, found_rows}
use Rattle.sql_eval.specs.Lookups.{index_for, near_first, searched_partitions, key_lookup, primary_lookup}
use Rattle.sql_eval.specs.Reads.{stored_reads}
use Rattle.sql_eval.specs.RowWords.{matches}
use Rattle.sql_eval.specs.Search.{Evaluation, gives, ◌>>=◌, followed_by, Lookup, Answer, search as searched}
use Rattle.answer_laws.proofs.FixedByTerms.{IsFoundBy, found_by_index}
use Rattle.answer_laws.proofs.FoundRows.{has_near, near_has, searched_has, point_primary, tested_primary, led_by, led_when, has_some, some_has, found_by, ps, all, is_table, fits, home_searched, found_whole}
use Rattle.answer_laws.proofs.HeldPairs.{rows_apart}
use Rattle.answer_laws.proofs.HeldRows.{HeldRow, held_row, row_held}
use Rattle.answer_laws.proofs.MatchedRows.{keyed, IsPrimarySpan, IsSearched, IsCovered, matched}
use Rattle.answer_laws.proofs.Members.{Has}
use Rattle.answer_laws.proofs.MoreMembers.{same_some, has_map, map_has, has_flat, flat_has, mapped_some}
use Rattle.answer_laws.proofs.RangesOfTables.{home}
use Rattle.answer_laws.proofs.RowOrder.{Row}
use Rattle.answer_laws.proofs.StoredSearches.{held_at, answer_at, answered, search_stored, answer_is, all_answered, EndsAt, ends_somewhere}
use Rattle.answer_laws.proofs.TablePairs.{IsPairIn, Meet, pair_in, index_value, rows_meet, one_row, primary_index}

-- ---- the key of a row is one of its index

tested_key : (t : Table) (number : ℕ) (values : List Datum) → AllZip HasType (index_types t number) values → is_key_of t number (index_key number values) ≡ true
tested_key t number values typed = ap (λ (o : Option (List Datum)). is_some o) (key_values_again t number values typed)

-- where an option is there, it is the one member of its list
option_has : {X : Type 0} (o : Option X) (x : X) → o ≡ Some x → Has x (option_to_list o)
option_has None x e = absurd (cc)
option_has (Some y) x e = inl (same_some e)

has_option : {X : Type 0} (o : Option X) (x : X) → Has x (option_to_list o) → o ≡ Some x
has_option None x h = absurd h
has_option (Some y) x (inl e) = ap (λ z. Some z) e
has_option (Some y) x (inr h) = absurd h

module _ (l : Layout) (d : PlainDatabase) (place : ℕ) (t : Table) (sound : IsSoundLayout l) (valid : IsValid l.catalog d) (at : slice_get l.catalog.tables place ≡ Some t)
    (gateway : List ℕ) (terms : List Term) (x : ℕ × List Datum) (by : index_for t terms ≡ Some x) where
  abbrev parts : List Partition
  parts = ps l d place t sound valid at gateway terms

  abbrev lookups : List Lookup
  lookups = map (key_lookup x.0 x.1) (near_first gateway parts)

  abbrev first : List Answer
  first = answered l d (ends_at (Some x)) lookups

  index_is : IsFoundBy t terms x
  index_is = found_by_index t terms x (is_table l d place t sound valid at gateway terms) by

  fits_row : (row : Row) → Has row (d place) → Fits t row
  fits_row row h = fits l d place t sound valid at gateway terms row h

  in_parts : (p : Partition) → Has p (near_first gateway parts) → Has p (partitions l place t)
  in_parts p h = searched_has terms (partitions l place t) p (near_has gateway parts p h)

  -- a row that matches has its pair in this index
  row_pair : (row : Row) → matches t terms row ≡ true → IsPairIn t row (pair_in t row x.0 index_is.places)
  row_pair row m = record { number = x.0; places = index_is.places; index = index_is.index; pair = refl }

  key_is : (row : Row) → matches t terms row ≡ true → index_key x.0 (values_at index_is.places row) ≡ index_key x.0 x.1
  key_is row m = ap (index_key x.0) (index_is.values row m)

  -- the look-up at which the search of a row that matches ends: in the row's partition it holds the row's pair alone
  record Ended (row : Row) : Type 0 where
    partition : Partition
    there : Has partition (near_first gateway parts)
    home_is : home l place t row ≡ partition
    answer : Has (answer_at l d (key_lookup x.0 x.1 partition)) first
    pair : slice_get (held_at l d (key_lookup x.0 x.1 partition)) 0 ≡ Some (pair_in t row x.0 index_is.places)

  same_row : (row : Row) (p : KeyValue) (y : Lookup) → Has row (d place) → matches t terms row ≡ true → (r : HeldRow l d place t y p) → p.0 ≡ index_key x.0 x.1
      → (r.row ≡ row) × (p ≡ pair_in t row x.0 index_is.places)
  same_row row p y h m r e =
      let meet : Meet t r.row row p (pair_in t row x.0 index_is.places) =
      rows_meet t r.row row p (pair_in t row x.0 index_is.places) (is_table l d place t sound valid at gateway terms) (fits_row r.row r.there) (fits_row row h) r.pair (row_pair row m) (e ∙ sym (key_is row m)) in
      let same : r.row ≡ row = one_row t (d place) r.row row meet.number meet.places (rows_apart l d place t valid at) r.there h meet.index meet.values in
      (same, meet.first ∙ ap (λ (z : Row). pair_in t z meet.number meet.places) same ∙ sym meet.second)

  ended_at : (row : Row) → Has row (d place) → matches t terms row ≡ true → (p : Partition) → Has p (near_first gateway parts) → Has (answer_at l d (key_lookup x.0 x.1 p)) first
      → has_pair (answer_at l d (key_lookup x.0 x.1 p)) ≡ true → Ended row
  ended_at row h m p k a e =
      let y : Lookup = key_lookup x.0 x.1 p in
      let q = some_has y (held_at l d y) e in
      let r : HeldRow l d place t y q.0 = held_row l d place t sound valid at y q.0 (in_parts p k) q.1 in
      let key : q.0.0 ≡ index_key x.0 x.1 = (point_holds (index_key x.0 x.1) q.0.0).0 r.inside in
      let same = same_row row q.0 y h m r key in
      record {
        partition = p;
        there = k;
        home_is = sym (ap (home l place t) same.0) ∙ r.home_is;
        answer = a;
        pair = q.2 ∙ ap (λ (z : KeyValue). Some z) same.1;
      }

  ended_from : (row : Row) → Has row (d place) → matches t terms row ≡ true → (y : Lookup) → (p : Partition) × Has p (near_first gateway parts) × (key_lookup x.0 x.1 p ≡ y)
      → Has (answer_at l d y) first → has_pair (answer_at l d y) ≡ true → Ended row
  ended_from row h m y (p, k, q) a e =
      ended_at row h m p k (subst (λ (z : Lookup). Has (answer_at l d z) first) (sym q) a) (subst (λ (z : Lookup). has_pair (answer_at l d z) ≡ true) (sym q) e)

  ended : (row : Row) → Has row (d place) → matches t terms row ≡ true → Ended row
  ended row h m =
      let own : Lookup = key_lookup x.0 x.1 (home l place t row) in
      let k : Has (home l place t row) (near_first gateway parts) =
      has_near gateway parts (home l place t row) (home_searched l d place t sound valid at gateway terms row h m) in
      let p : Has (pair_in t row x.0 index_is.places) (held_at l d own) =
      row_held l d place t sound valid at own row (pair_in t row x.0 index_is.places) h refl (row_pair row m) ((point_holds (index_key x.0 x.1) _).1 (key_is row m)) in
      let last : EndsAt l d (ends_at (Some x)) lookups =
      ends_somewhere l d (ends_at (Some x)) lookups own (has_map (key_lookup x.0 x.1) (near_first gateway parts) (home l place t row) k) (has_some own (held_at l d own) (pair_in t row x.0 index_is.places) p) in
      ended_from row h m last.last (map_has (key_lookup x.0 x.1) (near_first gateway parts) last.last last.there) last.answer last.ending

  -- ---- by the primary key

  primary_searched : x.0 ≡ 0 → (a : Answer) → Has a first → IsSearched l d place t a
  primary_searched z a h =
      let r = answer_is l d (ends_at (Some x)) lookups a h in
      let k = map_has (key_lookup x.0 x.1) (near_first gateway parts) r.0 r.1 in
      record {
        lookup = r.0;
        answer = r.2;
        partition = subst (λ (y : Lookup). Has y.partition (partitions l place t)) k.2 (in_parts k.0 k.1);
        primary = subst (λ (y : Lookup). IsPrimarySpan y.span) k.2 (subst (λ (n : ℕ). IsPrimarySpan (point_of (index_key n x.1))) (sym z) (point_primary x.1));
      }

  primary_covered : x.0 ≡ 0 → (row : Row) → Has row (d place) → matches t terms row ≡ true → IsCovered l d place t first row
  primary_covered z row h m =
      let e : Ended row = ended row h m in
      record {
        lookup = key_lookup x.0 x.1 e.partition;
        there = e.answer;
        home_is = e.home_is;
        inside = (point_holds (index_key x.0 x.1) (primary_key t row)).1 (sym (primary_index t row x.0 index_is.places z index_is.index) ∙ key_is row m);
      }

  -- ---- by a UNIQUE column

  abbrev second : List Answer
  second = answered l d (λ a. false) (at_primary t x.0 first)

  -- the answers of the first search are of partitions of the table
  first_partition : (b : Answer) → Has b first → Has b.0.partition (partitions l place t)
  first_partition b h = of_lookup (answer_is l d (ends_at (Some x)) lookups b h)
    where
      of_partition : (y : Lookup) → (p : Partition) × Has p (near_first gateway parts) × (key_lookup x.0 x.1 p ≡ y) → Has y.partition (partitions l place t)
      of_partition y (p, k, q) = subst (λ (z : Lookup). Has z.partition (partitions l place t)) q (in_parts p k)

      of_lookup : (y : Lookup) × Has y lookups × (b ≡ answer_at l d y) → Has b.0.partition (partitions l place t)
      of_lookup (y, k, q) =
          subst (λ (a : Answer). Has a.0.partition (partitions l place t)) (sym q) (of_partition y (map_has (key_lookup x.0 x.1) (near_first gateway parts) y k))

  tested_key_of : (p : KeyValue) (key : List ℕ) → primary_of t x.0 p ≡ Some key → is_key_of t 0 key ≡ true
  tested_key_of p key e = let r = led_by (is_key_of t x.0 p.0) (is_key_of t 0 p.1) p.1 key e in subst (λ (k : List ℕ). is_key_of t 0 k ≡ true) r.1 r.0

  primary_led : (o : Option KeyValue) (key : List ℕ) → option_and_then (primary_of t x.0) o ≡ Some key → is_key_of t 0 key ≡ true
  primary_led None key e = absurd (cc)
  primary_led (Some p) key e = tested_key_of p key e

  led_searched : (b : Answer) (y : Lookup) → Has b first → (key : List ℕ) × (option_and_then (primary_of t x.0) (slice_get b.1 0) ≡ Some key) × (primary_lookup key b.0.partition ≡ y)
      → Has y.partition (partitions l place t) × IsPrimarySpan y.span
  led_searched b y h (key, e, q) = (
    subst (λ (z : Lookup). Has z.partition (partitions l place t)) q (first_partition b h),
    subst (λ (z : Lookup). IsPrimarySpan z.span) q (tested_primary t key (primary_led (slice_get b.1 0) key e)),
  )

  second_lookup : (y : Lookup) → (b : Answer) × Has b first × Has y (option_to_list (led_to t x.0 b)) → Has y.partition (partitions l place t) × IsPrimarySpan y.span
  second_lookup y (b, h, k) =
      led_searched b y h (mapped_some (λ key. primary_lookup key b.0.partition) (option_and_then (primary_of t x.0) (slice_get b.1 0)) y (has_option (led_to t x.0 b) y k))

  second_searched : (a : Answer) → Has a second → IsSearched l d place t a
  second_searched a h =
      let r = answer_is l d (λ a. false) (at_primary t x.0 first) a h in
      let both : Has r.0.partition (partitions l place t) × IsPrimarySpan r.0.span =
      second_lookup r.0 (flat_has (λ (b : Answer). option_to_list (led_to t x.0 b)) first r.0 r.1) in
      record { lookup = r.0; answer = r.2; partition = both.0; primary = both.1 }

  leads : (row : Row) → Has row (d place) → (x.0 == 0) ≡ false → primary_of t x.0 (pair_in t row x.0 index_is.places) ≡ Some (primary_key t row)
  leads row h z =
      let value : index_value t row x.0 ≡ primary_key t row = ap (λ (b : Bool). if b then value_of t row else primary_key t row) z in
      let s : IsSoundTable t = is_table l d place t sound valid at gateway terms in
      ap (λ (v : List ℕ). primary_of t x.0 (index_key x.0 (values_at index_is.places row), v)) value
      ∙ led_when (is_key_of t x.0 (index_key x.0 (values_at index_is.places row))) (is_key_of t 0 (primary_key t row)) (primary_key t row)
      (tested_key t x.0 (values_at index_is.places row) (index_typed t row x.0 index_is.places s (fits_row row h) index_is.index))
      (tested_key t 0 (key_of t row) (key_typed t row s (fits_row row h)))

  second_covered : (x.0 == 0) ≡ false → (row : Row) → Has row (d place) → matches t terms row ≡ true → IsCovered l d place t second row
  second_covered z row h m =
      let e : Ended row = ended row h m in
      let a : Answer = answer_at l d (key_lookup x.0 x.1 e.partition) in
      let y : Lookup = primary_lookup (primary_key t row) e.partition in
      let led : led_to t x.0 a ≡ Some y =
      ap (λ (o : Option KeyValue). option_map (λ key. primary_lookup key e.partition) (option_and_then (primary_of t x.0) o)) e.pair
      ∙ ap (option_map (λ key. primary_lookup key e.partition)) (leads row h z) in
      let k : Has y (at_primary t x.0 first) = has_flat (λ (b : Answer). option_to_list (led_to t x.0 b)) first a y e.answer (option_has (led_to t x.0 a) y led) in
      record {
        lookup = y;
        there = all_answered l d (at_primary t x.0 first) y k;
        home_is = e.home_is;
        inside = (point_holds (primary_key t row) (primary_key t row)).1 refl;
      }

  -- ---- both

  found_if : (b : Bool) → (x.0 == 0) ≡ b
      → ((if b then gives first else searched (stored_reads l d) (λ a. false) (at_primary t x.0 first)) >>= λ answers. gives (matched_rows t terms answers))
      ≡ gives (all l d place t sound valid at gateway terms)
  found_if true z =
      ap (λ (rows : List KeyedRow). gives rows)
      (matched l d place t sound valid at terms first (primary_searched (eqb-true x.0 0 z)) (primary_covered (eqb-true x.0 0 z)))
  found_if false z =
      ap (λ (e : Evaluation (List Answer)). e >>= λ answers. gives (matched_rows t terms answers)) (search_stored l d (λ a. false) (at_primary t x.0 first))
      ∙ ap (λ (rows : List KeyedRow). gives rows) (matched l d place t sound valid at terms second second_searched (second_covered z))

  pub found_indexed : found_by (stored_reads l d) t gateway (Some x) parts terms ≡ gives (all l d place t sound valid at gateway terms)
  found_indexed =
      ap (λ (e : Evaluation (List Answer)). followed_by 1 e >>= λ first. followed_answers (stored_reads l d) t (Some x) first >>= λ answers. gives (matched_rows t terms answers))
      (search_stored l d (ends_at (Some x)) lookups)
      ∙ found_if (x.0 == 0) refl

module _ (l : Layout) (d : PlainDatabase) (place : ℕ) (t : Table) (sound : IsSoundLayout l) (valid : IsValid l.catalog d) (at : slice_get l.catalog.tables place ≡ Some t)
    (gateway : List ℕ) (terms : List Term) where
  found_either : (o : Option (ℕ × List Datum)) → index_for t terms ≡ o
      → found_by (stored_reads l d) t gateway o (searched_partitions terms (partitions l place t)) terms ≡ gives (map (keyed t) (filter (matches t terms) (d place)))
  found_either None e = found_whole l d place t sound valid at gateway terms
  found_either (Some x) e = found_indexed l d place t sound valid at gateway terms x e

  -- over all that a valid database holds, a search finds the rows that match
  pub found : found_rows (stored_reads l d) t gateway (partitions l place t) terms ≡ gives (map (keyed t) (filter (matches t terms) (d place)))
  unfolding found_rows
  found = found_either (index_for t terms) refl
