-- Over all that a valid database holds, a search finds the rows that match.
use Rattle.std.proofs.Common.{◌≡◌, ℕ, Bool, true, false, List, [], ◌∷◌, length, refl, sym, ap, ◌∙◌, subst, inl, inr, arith}
use Rattle.std.specs.Prelude.{◌⊎◌, ◌==◌, ◌&&◌, not, if◌then◌else◌, filter, map, slice_get, Option, Some, None, is_some}
use Rattle.std.specs.Option.{option_map_or}
use Rattle.std.proofs.lemmas.Bool.{eqb-true, ne_eqb}
use Rattle.mr_base.specs.declared.rows.Datum.{Datum}
use Rattle.region_sql.specs.declared.row_statements.Term.{Term}
use Rattle.descriptors.specs.Sound.{IsSoundTable}
use Rattle.descriptors.specs.declared.table.Table.{Table}
use Rattle.row_locality.specs.Keys.{index_key}
use Rattle.row_locality.specs.Pairs.{KeyValue}
use Rattle.row_locality.specs.Plain.{Layout, PlainDatabase, IsSoundLayout, IsValid, IsRowOf, Partition, partitions}
use Rattle.row_locality.specs.Reading.{is_key_of, key_values}
use Rattle.row_locality.specs.Rows.{Fits}
use Rattle.row_locality.specs.Spans.{point_of, all_rows}
use Rattle.row_locality.proofs.PointLemmas.{point_holds, in_all_rows}
use Rattle.sql_eval.specs.Evaluation.{KeyedRow, has_pair, ends_at, followed_answers, matched_rows}
use Rattle.sql_eval.specs.Lookups.{fixed_region, is_in_region, near_first, searched_partitions, whole_partition, row_lookups}
use Rattle.sql_eval.specs.Reads.{Reads, stored_reads}
use Rattle.sql_eval.specs.RowWords.{matches}
use Rattle.sql_eval.specs.Search.{Evaluation, gives, ◌>>=◌, followed_by, Lookup, Answer, search as searched}
use Rattle.answer_laws.proofs.FixedByTerms.{region_is}
use Rattle.answer_laws.proofs.HeldPairs.{row_is}
use Rattle.answer_laws.proofs.HeldRows.{row_home}
use Rattle.answer_laws.proofs.MatchedRows.{keyed, IsPrimarySpan, IsSearched, IsCovered, matched}
use Rattle.answer_laws.proofs.Members.{Has, has_filter, filter_has}
use Rattle.answer_laws.proofs.MoreMembers.{same_some, append_has, has_first, has_second, has_map, map_has}
use Rattle.answer_laws.proofs.RangesOfTables.{home, table_sound}
use Rattle.answer_laws.proofs.RowOrder.{Row}
use Rattle.answer_laws.proofs.StoredSearches.{answered, search_stored, answer_is, all_answered}
use Rattle.answer_laws.proofs.NearFirst.{region_passes}
use Rattle.answer_laws.proofs.TablePairs.{same_heads}

-- ---- partitions of a search

near_by : (region : List ℕ) (ps : List Partition) (p : Partition) (b : Bool) → is_in_region region p ≡ b → Has p ps → Has p (near_first region ps)
near_by region ps p true e h = has_first (filter (is_in_region region) ps) (filter (λ q. not (is_in_region region q)) ps) p (has_filter (is_in_region region) ps p h e)
near_by region ps p false e h =
    has_second (filter (is_in_region region) ps) (filter (λ q. not (is_in_region region q)) ps) p (has_filter (λ q. not (is_in_region region q)) ps p h (ap not e))

pub has_near : (region : List ℕ) (ps : List Partition) (p : Partition) → Has p ps → Has p (near_first region ps)
has_near region ps p h = near_by region ps p (is_in_region region p) refl h

near_cases : (region : List ℕ) (ps : List Partition) (p : Partition) → Has p (filter (is_in_region region) ps) ⊎ Has p (filter (λ q. not (is_in_region region q)) ps) → Has p ps
near_cases region ps p (inl h) = (filter_has (is_in_region region) ps p h).0
near_cases region ps p (inr h) = (filter_has (λ q. not (is_in_region region q)) ps p h).0

pub near_has : (region : List ℕ) (ps : List Partition) (p : Partition) → Has p (near_first region ps) → Has p ps
near_has region ps p h = near_cases region ps p (append_has (filter (is_in_region region) ps) (filter (λ q. not (is_in_region region q)) ps) p h)

searched_by : (o : Option (List ℕ)) (ps : List Partition) (p : Partition) → Has p (option_map_or (λ region. filter (is_in_region region) ps) o ps) → Has p ps
searched_by None ps p h = h
searched_by (Some region) ps p h = (filter_has (is_in_region region) ps p h).0

pub searched_has : (terms : List Term) (ps : List Partition) (p : Partition) → Has p (searched_partitions terms ps) → Has p ps
searched_has terms ps p h = searched_by (fixed_region terms) ps p h

there_by : (o : Option (List ℕ)) (ps : List Partition) (p : Partition) → ((region : List ℕ) → o ≡ Some region → p.region ≡ Some region) → Has p ps
    → Has p (option_map_or (λ region. filter (is_in_region region) ps) o ps)
there_by None ps p f h = h
there_by (Some region) ps p f h = has_filter (is_in_region region) ps p h (region_passes region p.region (f region refl))

-- ---- spans of primary keys

all_rows_primary : IsPrimarySpan all_rows
all_rows_primary number values e = eqb-true number 0 (sym (in_all_rows number _) ∙ e)

pub point_primary : (values : Row) → IsPrimarySpan (point_of (index_key 0 values))
point_primary values number others e = same_heads number 0 _ _ ((point_holds (index_key 0 values) (index_key number others)).0 e)

zero_by : (b : Bool) (number : ℕ) (o : Option (List Datum)) → (number == 0) ≡ b → is_some (if b then o else None) ≡ true → number ≡ 0
zero_by true number o e f = eqb-true number 0 e
zero_by false number o e f = absurd (cc)

zero_key : (t : Table) (number : ℕ) (values : Row) → is_key_of t 0 (index_key number values) ≡ true → number ≡ 0
unfolding key_values
zero_key t number values e = zero_by (number == 0) number _ refl e

-- a point that is tested to be a primary key
pub tested_primary : (t : Table) (key : List ℕ) → is_key_of t 0 key ≡ true → IsPrimarySpan (point_of key)
tested_primary t key e number values f =
    let same : index_key number values ≡ key = (point_holds key (index_key number values)).0 f in
    zero_key t number values (subst (λ (k : List ℕ). is_key_of t 0 k ≡ true) (sym same) e)

pub led_by : (b c : Bool) (value key : List ℕ) → (if b && c then Some value else None) ≡ Some key → (c ≡ true) × (value ≡ key)
led_by true true value key e = (refl, same_some e)
led_by true false value key e = absurd (cc)
led_by false c value key e = absurd (cc)

pub led_when : (b c : Bool) (value : List ℕ) → b ≡ true → c ≡ true → (if b && c then Some value else None) ≡ Some value
led_when true true value e f = refl
led_when true false value e f = absurd (cc)
led_when false c value e f = absurd (cc)

pub has_some : (x : Lookup) (ps : List KeyValue) (p : KeyValue) → Has p ps → has_pair (x, ps) ≡ true
has_some x [] p h = absurd h
has_some x (q ∷ ps) p h = ap not (ne_eqb (length (q ∷ ps)) 0 (λ e. omega (arith, e)))

pub some_has : (x : Lookup) (ps : List KeyValue) → has_pair (x, ps) ≡ true → (p : KeyValue) × Has p ps × (slice_get ps 0 ≡ Some p)
some_has x [] e = absurd (cc)
some_has x (p ∷ ps) e = (p, inl refl, refl)

-- the rows that match, by an index in these partitions
abbrev pub found_by : Reads → Table → List ℕ → Option (ℕ × List Datum) → List Partition → List Term → Evaluation (List KeyedRow)
found_by reads t gateway by ps terms =
    followed_by 1 (searched reads (ends_at by) (row_lookups gateway by ps)) >>= λ first.
    followed_answers reads t by first >>= λ answers.
    gives (matched_rows t terms answers)

module _ (l : Layout) (d : PlainDatabase) (place : ℕ) (t : Table) (sound : IsSoundLayout l) (valid : IsValid l.catalog d) (at : slice_get l.catalog.tables place ≡ Some t)
    (gateway : List ℕ) (terms : List Term) where
  abbrev pub ps : List Partition
  ps = searched_partitions terms (partitions l place t)

  abbrev pub all : List KeyedRow
  all = map (keyed t) (filter (matches t terms) (d place))

  pub is_table : IsSoundTable t
  is_table = table_sound l.catalog place t sound.catalog at

  pub fits : (row : Row) → Has row (d place) → Fits t row
  fits row h = let is : IsRowOf l.catalog t row = row_is l d place t row valid at h in is.fits

  -- a row that matches lives in one of the partitions that are searched
  pub home_searched : (row : Row) → Has row (d place) → matches t terms row ≡ true → Has (home l place t row) ps
  home_searched row h m =
      there_by (fixed_region terms) (partitions l place t) (home l place t row) (λ region e. region_is t terms row region is_table m e) (row_home l d place t sound valid at row h)

  -- ---- all rows

  whole_searched : (xs : List Partition) (a : Answer) → ((p : Partition) → Has p xs → Has p (partitions l place t)) → Has a (answered l d (λ a. false) (map whole_partition xs))
      → IsSearched l d place t a
  whole_searched xs a f h =
      let r = answer_is l d (λ a. false) (map whole_partition xs) a h in
      let k = map_has whole_partition xs r.0 r.1 in
      let at_span : whole_partition k.0 ≡ r.0 = k.2 in
      record {
        lookup = r.0;
        answer = r.2;
        partition = subst (λ (x : Lookup). Has x.partition (partitions l place t)) at_span (f k.0 k.1);
        primary = subst (λ (x : Lookup). IsPrimarySpan x.span) at_span all_rows_primary;
      }

  whole_covered : (row : Row) → Has row (d place) → matches t terms row ≡ true → IsCovered l d place t (answered l d (λ a. false) (map whole_partition ps)) row
  whole_covered row h m =
      let x : Lookup = whole_partition (home l place t row) in
      record {
        lookup = x;
        there = all_answered l d (map whole_partition ps) x (has_map whole_partition ps (home l place t row) (home_searched row h m));
        home_is = refl;
        inside = in_all_rows 0 _;
      }

  pub found_whole : found_by (stored_reads l d) t gateway None ps terms ≡ gives all
  found_whole =
      ap (λ (e : Evaluation (List Answer)). followed_by 1 e >>= λ first. followed_answers (stored_reads l d) t None first >>= λ answers. gives (matched_rows t terms answers))
      (search_stored l d (λ a. false) (map whole_partition ps))
      ∙ ap (λ (rows : List KeyedRow). gives rows)
      (matched l d place t sound valid at terms (answered l d (λ a. false) (map whole_partition ps))
      (λ a h. whole_searched ps a (λ p k. searched_has terms (partitions l place t) p k) h) whole_covered)
