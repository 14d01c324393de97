-- Where the answers of a search cover the rows that match, it finds exactly these.
use Rattle.std.proofs.Common.{◌≡◌, ℕ, Bool, true, false, List, [], ◌∷◌, refl, sym, ap, ◌∙◌, subst, inl, inr}
use Rattle.std.specs.Prelude.{T, if◌then◌else◌, filter, flat_map, map, slice_get, Option, Some, None, option_map, option_and_then}
use Rattle.std.specs.Cmp.Lexicographic.{nat_list_cmp_total}
use Rattle.std.specs.FinMap.Entries.{find, is_sorted, below_all}
use Rattle.std.specs.List.{AllByRecursion}
use Rattle.std.specs.Option.{option_or}
use Rattle.std.specs.Ordering.{is_lt}
use Rattle.std.specs.declared.cmp.Ordering.TheVariants.{Less}
use Rattle.std.proofs.lemmas.Map.Lookups.{exact_bytes}
use Rattle.region_sql.specs.declared.row_statements.Term.{Term}
use Rattle.descriptors.specs.Sound.{IsSoundTable}
use Rattle.descriptors.specs.declared.table.Table.{Table}
use Rattle.row_locality.specs.Keys.{index_key, index_types, primary_key}
use Rattle.row_locality.specs.Pairs.{KeyValue, bytes_cmp, put_all, row_pair}
use Rattle.row_locality.specs.Plain.{Layout, PlainDatabase, IsSoundLayout, IsValid, IsRowOf, Partition, partitions}
use Rattle.row_locality.specs.Rows.{Fits, indexes, key_of, region_of, values_at}
use Rattle.row_locality.specs.Spans.{is_in}
use Rattle.mr_base.specs.declared.spans.Span.{Span}
use Rattle.row_locality.proofs.KeyLemmas.{key_order, equal_keys}
use Rattle.row_locality.proofs.RowLemmas.{written_again}
use Rattle.row_locality.proofs.TypeLemmas.{key_typed}
use Rattle.sql_eval.specs.Evaluation.{KeyedRow, keyed_row, if_small, rows_in, matched_rows}
use Rattle.sql_eval.specs.RowWords.{matches}
use Rattle.sql_eval.specs.Search.{Lookup, Answer}
use Rattle.answer_laws.proofs.HeldPairs.{row_is, rows_apart}
use Rattle.answer_laws.proofs.HeldRows.{HeldRow, held_row, row_held}
use Rattle.answer_laws.proofs.KeyedEntries.{both_hold, is_less, found_entry, entry_found, sorted_filter, by_members}
use Rattle.answer_laws.proofs.Members.{Has, has_filter, filter_has}
use Rattle.answer_laws.proofs.MoreMembers.{same_some, flat_has, has_flat, filter_map_has, has_filter_map, map_has, has_map, or_none}
use Rattle.answer_laws.proofs.Pairwise.{EachTwo, each_two, two_filter}
use Rattle.answer_laws.proofs.PutAll.{last_of, find_all, last_has, has_last, sorted_all}
use Rattle.answer_laws.proofs.RangesOfTables.{home, table_sound}
use Rattle.answer_laws.proofs.RowOrder.{Row, IsBelow}
use Rattle.answer_laws.proofs.StoredSearches.{held_at, answer_at}
use Rattle.answer_laws.proofs.TablePairs.{IsPairIn, pair_in, one_row}

-- A row with its primary key.
abbrev pub keyed : Table → Row → KeyedRow
keyed t row = (primary_key t row, row)

-- ---- keyed rows

abbrev with_key : List ℕ → Row → KeyedRow
with_key key row = (key, row)

small_kept : (t : Table) (row : Row) (key : List ℕ) (b : Bool) → b ≡ true → option_map (with_key key) (if b then Some row else None) ≡ Some (with_key key row)
small_kept t row key true e = refl
small_kept t row key false e = absurd (cc)

-- the pair of a row of a table is read as that row
keyed_own : (l : Layout) (t : Table) (row : Row) → IsRowOf l.catalog t row → keyed_row t (region_of t row) (row_pair t row) ≡ Some (keyed t row)
keyed_own l t row is =
    ap (λ (o : Option Row). option_map (with_key (primary_key t row)) (option_and_then (if_small t) o)) (written_again t row is.fits is.small)
    ∙ small_kept t row (primary_key t row) _ is.small

own_pair : (t : Table) (row : Row) → IsPairIn t row (row_pair t row)
own_pair t row = record { number = 0; places = t.key; index = refl; pair = refl }

primary_pair : (t : Table) (row : Row) (p : KeyValue) (i : IsPairIn t row p) → i.number ≡ 0 → p ≡ row_pair t row
primary_pair t row p i zero_is =
    let places : t.key ≡ i.places = same_some (subst (λ (n : ℕ). slice_get (indexes t) n ≡ Some i.places) zero_is i.index) in
    i.pair ∙ ap (λ (n : ℕ). pair_in t row n i.places) zero_is ∙ ap (pair_in t row 0) (sym places)

-- of keys of indexes the span holds primary keys alone
abbrev pub IsPrimarySpan : Span → Type 0
IsPrimarySpan span = (number : ℕ) (values : Row) → is_in span (index_key number values) ≡ true → number ≡ 0

-- ---- rows that rise

module _ (l : Layout) (t : Table) (sound : IsSoundTable t) where
  rows_below : (a b : Row) → Fits t a → Fits t b → IsBelow t a b → bytes_cmp (primary_key t a) (primary_key t b) ≡ Less
  rows_below a b fa fb h = key_order (index_types t 0) (key_of t a) (key_of t b) (key_typed t a sound fa) (key_typed t b sound fb) 0 ∙ h

  all_below : (a : Row) (rows : List Row) → Fits t a → AllByRecursion (Fits t) rows → AllByRecursion (IsBelow t a) rows → T (below_all bytes_cmp (primary_key t a) (map (keyed t) rows))
  all_below a [] fa f h = tt
  all_below a (r ∷ rows) fa f h =
      both_hold (is_lt (bytes_cmp (primary_key t a) (primary_key t r))) (below_all bytes_cmp (primary_key t a) (map (keyed t) rows))
      (is_less (bytes_cmp (primary_key t a) (primary_key t r)) (rows_below a r fa f.0 h.0)) (all_below a rows fa f.1 h.1)

  pub keyed_rising : (rows : List Row) → AllByRecursion (Fits t) rows → EachTwo (IsBelow t) rows → T (is_sorted bytes_cmp (map (keyed t) rows))
  keyed_rising [] f h = tt
  keyed_rising (r ∷ rows) f h =
      both_hold (below_all bytes_cmp (primary_key t r) (map (keyed t) rows)) (is_sorted bytes_cmp (map (keyed t) rows)) (all_below r rows f.0 f.1 h.0) (keyed_rising rows f.1 h.1)

fits_each : (t : Table) (rows : List Row) → ((r : Row) → Has r rows → Fits t r) → AllByRecursion (Fits t) rows
fits_each t [] h = tt
fits_each t (r ∷ rows) h = (h r (inl refl), fits_each t rows (λ x m. h x (inr m)))

-- ---- what is found

-- what a look-up of primary keys in a partition of a table holds
pub record IsSearched (l : Layout) (d : PlainDatabase) (place : ℕ) (t : Table) (a : Answer) : Type 0 where
  pub lookup : Lookup
  pub answer : a ≡ answer_at l d lookup
  pub partition : Has lookup.partition (partitions l place t)
  pub primary : IsPrimarySpan lookup.span

-- one of the answers is of a look-up that holds the row
pub record IsCovered (l : Layout) (d : PlainDatabase) (place : ℕ) (t : Table) (answers : List Answer) (row : Row) : Type 0 where
  pub lookup : Lookup
  pub there : Has (answer_at l d lookup) answers
  pub home_is : home l place t row ≡ lookup.partition
  pub inside : is_in lookup.span (primary_key t row) ≡ true

module _ (l : Layout) (d : PlainDatabase) (place : ℕ) (t : Table) (sound : IsSoundLayout l) (valid : IsValid l.catalog d) (at : slice_get l.catalog.tables place ≡ Some t) where
  is_row : (row : Row) → Has row (d place) → IsRowOf l.catalog t row
  is_row row h = row_is l d place t row valid at h

  row_entry : (x : Lookup) (p : KeyValue) (e : KeyedRow) → Has x.partition (partitions l place t) → IsPrimarySpan x.span → Has p (held_at l d x) → keyed_row t x.partition.region p ≡ Some e
      → (row : Row) × Has row (d place) × (keyed t row ≡ e)
  row_entry x p e h primary m f =
      let r : HeldRow l d place t x p = held_row l d place t sound valid at x p h m in
      let zero_is : r.pair.number ≡ 0 =
      primary r.pair.number (values_at r.pair.places r.row) (subst (λ (q : KeyValue). is_in x.span q.0 ≡ true) r.pair.pair r.inside) in
      let is : p ≡ row_pair t r.row = primary_pair t r.row p r.pair zero_is in
      let region : region_of t r.row ≡ x.partition.region = ap (λ (q : Partition). q.region) r.home_is in
      let read : keyed_row t x.partition.region p ≡ Some (keyed t r.row) = (λ i. keyed_row t (sym region i) (is i)) ∙ keyed_own l t r.row (is_row r.row r.there) in
      (r.row, r.there, same_some (sym read ∙ f))

  entry_in : (a : Answer) (e : KeyedRow) → IsSearched l d place t a → Has e (rows_in t a) → (row : Row) × Has row (d place) × (keyed t row ≡ e)
  entry_in a e s h =
      let k : Has e (rows_in t (answer_at l d s.lookup)) = subst (λ (b : Answer). Has e (rows_in t b)) s.answer h in
      let r = filter_map_has (keyed_row t s.lookup.partition.region) (held_at l d s.lookup) e k in
      row_entry s.lookup r.0 e s.partition s.primary r.1 r.2

  entry_of : (answers : List Answer) (e : KeyedRow) → ((a : Answer) → Has a answers → IsSearched l d place t a) → Has e (flat_map (rows_in t) answers)
      → (row : Row) × Has row (d place) × (keyed t row ≡ e)
  entry_of answers e s h =
      let r = flat_has (rows_in t) answers e h in
      entry_in r.0 e (s r.0 r.1) r.2

  entry_there : (answers : List Answer) (row : Row) → Has row (d place) → IsCovered l d place t answers row → Has (keyed t row) (flat_map (rows_in t) answers)
  entry_there answers row h c =
      let p : Has (row_pair t row) (held_at l d c.lookup) = row_held l d place t sound valid at c.lookup row (row_pair t row) h c.home_is (own_pair t row) c.inside in
      let read : keyed_row t c.lookup.partition.region (row_pair t row) ≡ Some (keyed t row) =
      ap (λ (q : Partition). keyed_row t q.region (row_pair t row)) (sym c.home_is) ∙ keyed_own l t row (is_row row h) in
      has_flat (rows_in t) answers (answer_at l d c.lookup) (keyed t row) c.there
      (has_filter_map (keyed_row t c.lookup.partition.region) (held_at l d c.lookup) (row_pair t row) (keyed t row) p read)

  -- rows with one primary key are one
  pub one_keyed : (x y : Row) → Has x (d place) → Has y (d place) → primary_key t x ≡ primary_key t y → x ≡ y
  one_keyed x y h k e =
      let s : IsSoundTable t = table_sound l.catalog place t sound.catalog at in
      let fx : Fits t x = let is : IsRowOf l.catalog t x = is_row x h in is.fits in
      let fy : Fits t y = let is : IsRowOf l.catalog t y = is_row y k in is.fits in
      one_row t (d place) x y 0 t.key (rows_apart l d place t valid at) h k refl
      (equal_keys (index_types t 0) (key_of t x) (key_of t y) (key_typed t x s fx) (key_typed t y s fy) 0 e)

  abbrev matching : List Term → List Row
  matching terms = filter (matches t terms) (d place)

  pub matching_rising : (terms : List Term) → T (is_sorted bytes_cmp (map (keyed t) (matching terms)))
  matching_rising terms =
      let s : IsSoundTable t = table_sound l.catalog place t sound.catalog at in
      keyed_rising l t s (matching terms)
      (fits_each t (matching terms) (λ r m. let is : IsRowOf l.catalog t r = is_row r (filter_has (matches t terms) (d place) r m).0 in is.fits))
      (two_filter (IsBelow t) (matches t terms) (d place) (each_two (IsBelow t) (d place) ((valid.tables place t at).rising)))

  put_has : (es : List KeyedRow) (e : KeyedRow) → Has e (put_all es []) → Has e es
  put_has es e h =
      let found : find bytes_cmp e.0 (put_all es []) ≡ Some e.1 = entry_found bytes_cmp nat_list_cmp_total exact_bytes e.0 e.1 (put_all es []) (sorted_all es [] tt) h in
      last_has e.0 es e.1 (sym (or_none (last_of e.0 es)) ∙ sym (find_all e.0 es []) ∙ found)

  has_put : (answers : List Answer) (row : Row) → ((a : Answer) → Has a answers → IsSearched l d place t a) → Has row (d place) → Has (keyed t row) (flat_map (rows_in t) answers)
      → Has (keyed t row) (put_all (flat_map (rows_in t) answers) [])
  has_put answers row s m h =
      let es : List KeyedRow = flat_map (rows_in t) answers in
      let r = has_last (primary_key t row) es row h in
      let k = entry_of answers (primary_key t row, r.0) s (last_has (primary_key t row) es r.0 r.1) in
      let same : row ≡ k.0 = one_keyed row k.0 m k.1 (sym (ap (λ (e : KeyedRow). e.0) k.2)) in
      let value : r.0 ≡ row = sym (ap (λ (e : KeyedRow). e.1) k.2) ∙ sym same in
      found_entry bytes_cmp nat_list_cmp_total exact_bytes (primary_key t row) row (put_all es [])
      (find_all (primary_key t row) es [] ∙ ap (λ (o : Option Row). option_or o None) r.1 ∙ ap (λ (x : Row). Some x) value)

  -- the rows that are found are those that match
  pub matched : (terms : List Term) (answers : List Answer) → ((a : Answer) → Has a answers → IsSearched l d place t a)
      → ((row : Row) → Has row (d place) → matches t terms row ≡ true → IsCovered l d place t answers row) → matched_rows t terms answers ≡ map (keyed t) (matching terms)
  unfolding matched_rows
  matched terms answers s c =
      let es : List KeyedRow = flat_map (rows_in t) answers in
      let test : KeyedRow → Bool = λ e. matches t terms e.1 in
      by_members bytes_cmp nat_list_cmp_total exact_bytes (filter test (put_all es [])) (map (keyed t) (matching terms))
      (sorted_filter bytes_cmp nat_list_cmp_total exact_bytes test (put_all es []) (sorted_all es [] tt)) (matching_rising terms) there back
    where
      there : (e : KeyedRow) → Has e (filter (λ (x : KeyedRow). matches t terms x.1) (put_all (flat_map (rows_in t) answers) [])) → Has e (map (keyed t) (matching terms))
      there e h =
          let k = filter_has (λ (x : KeyedRow). matches t terms x.1) (put_all (flat_map (rows_in t) answers) []) e h in
          let r = entry_of answers e s (put_has (flat_map (rows_in t) answers) e k.0) in
          let passes : matches t terms r.0 ≡ true = subst (λ (x : KeyedRow). matches t terms x.1 ≡ true) (sym r.2) k.1 in
          subst (λ (x : KeyedRow). Has x (map (keyed t) (matching terms))) r.2 (has_map (keyed t) (matching terms) r.0 (has_filter (matches t terms) (d place) r.0 r.1 passes))

      back : (e : KeyedRow) → Has e (map (keyed t) (matching terms)) → Has e (filter (λ (x : KeyedRow). matches t terms x.1) (put_all (flat_map (rows_in t) answers) []))
      back e h =
          let r = map_has (keyed t) (matching terms) e h in
          let k = filter_has (matches t terms) (d place) r.0 r.1 in
          let in_put : Has (keyed t r.0) (put_all (flat_map (rows_in t) answers) []) = has_put answers r.0 s k.0 (entry_there answers r.0 k.0 (c r.0 k.0 k.1)) in
          subst (λ (x : KeyedRow). Has x (filter (λ (y : KeyedRow). matches t terms y.1) (put_all (flat_map (rows_in t) answers) []))) r.2
          (has_filter (λ (x : KeyedRow). matches t terms x.1) (put_all (flat_map (rows_in t) answers) []) (keyed t r.0) in_put k.1)
