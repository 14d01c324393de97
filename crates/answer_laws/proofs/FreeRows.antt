-- Over all that a valid database holds, the look-ups of new rows meet another row where they share a value with
-- one that stays.
use Rattle.std.proofs.Common.{◌≡◌, ℕ, Bool, true, false, List, ◌++◌, refl, sym, ap, ◌∙◌, subst, inl, inr}
use Rattle.std.specs.Prelude.{◌⊎◌, ◌==◌, ◌||◌, if◌then◌else◌, slice_get, Option, Some, None, is_none}
use Rattle.std.specs.FinMap.Entries.{find}
use Rattle.std.specs.List.{list_any}
use Rattle.std.proofs.lemmas.Bool.{eqb-true}
use Rattle.mr_base.specs.declared.states.SqlState.TheVariants.{S23505}
use Rattle.descriptors.specs.Sound.{IsSoundTable}
use Rattle.descriptors.specs.declared.table.Table.{Table}
use Rattle.row_locality.specs.Keys.{index_key, primary_key}
use Rattle.row_locality.specs.Pairs.{KeyValue, bytes_cmp}
use Rattle.row_locality.specs.Plain.{Layout, PlainDatabase, IsSoundLayout, IsValid, IsRowOf, AreApart, Partition, partitions}
use Rattle.row_locality.specs.Rows.{Fits, indexes, values_at}
use Rattle.row_locality.specs.Spans.{is_in}
use Rattle.row_locality.specs.Values.{value_of}
use Rattle.row_locality.proofs.PointLemmas.{point_holds}
use Rattle.sql_eval.specs.Evaluation.{KeyedRow, named_by, meets_other, if_free}
use Rattle.sql_eval.specs.Lookups.{key_lookup}
use Rattle.sql_eval.specs.Reads.{stored_reads}
use Rattle.sql_eval.specs.RowWords.{has_twins}
use Rattle.sql_eval.specs.Search.{Evaluation, gives, faults, ◌>>=◌, Lookup, Answer}
use Rattle.answer_laws.proofs.HeldPairs.{row_is}
use Rattle.answer_laws.proofs.HeldRows.{HeldRow, held_row, row_held}
use Rattle.answer_laws.proofs.Members.{Has}
use Rattle.answer_laws.proofs.MoreMembers.{same_truth, has_any, any_has, either_true, or_first, or_second}
use Rattle.answer_laws.proofs.Pairwise.{EachTwo}
use Rattle.answer_laws.proofs.RangesOfTables.{home, table_sound}
use Rattle.answer_laws.proofs.RowOrder.{Row}
use Rattle.answer_laws.proofs.SharedValues.{Shares, Cross, append_twins, later_twins, cross_twins, no_twins}
use Rattle.answer_laws.proofs.StoredSearches.{held_at, answer_at, search_stored, any_answered}
use Rattle.answer_laws.proofs.TablePairs.{IsPairIn, Meet, pair_in, rows_meet, same_heads, primary_index}

-- ---- the primary key that a pair names

named_if : (t : Table) (row : Row) (n : ℕ) (places : List ℕ) (b : Bool) → (n == 0) ≡ b → slice_get (indexes t) n ≡ Some places
    → (if b then index_key n (values_at places row) else (if b then value_of t row else primary_key t row)) ≡ primary_key t row
named_if t row n places true z e = primary_index t row n places (eqb-true n 0 z) e
named_if t row n places false z e = refl

-- a pair of a row in the index of a look-up names the row's primary key
pub named_key : (t : Table) (x : Lookup) (row : Row) (p : KeyValue) (i : IsPairIn t row p) → i.number ≡ x.index → named_by x p ≡ primary_key t row
named_key t x row p i e =
    ap (λ (n : ℕ). if n == 0 then p.0 else p.1) (sym e) ∙ ap (λ (q : KeyValue). if i.number == 0 then q.0 else q.1) i.pair
    ∙ named_if t row i.number i.places (i.number == 0) refl i.index

none_of : {A : Type 0} (o : Option A) → is_none o ≡ true → o ≡ None
none_of None e = refl
none_of (Some v) e = absurd (cc)

-- ---- look-ups of new rows

-- a look-up of a new row in an index and a partition
pub record IsNewLookup (l : Layout) (place : ℕ) (t : Table) (new : List Row) (x : Lookup) : Type 0 where
  pub row : Row
  pub there : Has row new
  pub number : ℕ
  pub places : List ℕ
  pub index : slice_get (indexes t) number ≡ Some places
  pub partition : Partition
  pub in_table : Has partition (partitions l place t)
  pub lookup_is : x ≡ key_lookup number (values_at places row) partition

-- These look-ups of new rows meet each row that stays and shares a value with one.
pub record AreLookups (l : Layout) (d : PlainDatabase) (place : ℕ) (t : Table) (replaced : List KeyedRow) (lookups : List Lookup) (stay new : List Row) : Type 0 where
  pub each : (x : Lookup) → Has x lookups → IsNewLookup l place t new x
  pub covers : (r m : Row) (number : ℕ) (places : List ℕ) → Has r stay → Has m new → slice_get (indexes t) number ≡ Some places → values_at places r ≡ values_at places m
      → Has (key_lookup number (values_at places m) (home l place t r)) lookups
  pub stays : (r : Row) → Has r stay → Has r (d place)
  pub not_replaced : (r : Row) → Has r stay → find bytes_cmp (primary_key t r) replaced ≡ None
  pub all_stay : (r : Row) → Has r (d place) → find bytes_cmp (primary_key t r) replaced ≡ None → Has r stay
  pub fits : (m : Row) → Has m new → Fits t m
  pub apart : EachTwo (AreApart t) stay

module _ (l : Layout) (d : PlainDatabase) (place : ℕ) (t : Table) (sound : IsSoundLayout l) (valid : IsValid l.catalog d) (at : slice_get l.catalog.tables place ≡ Some t)
    (replaced : List KeyedRow) (lookups : List Lookup) (stay new : List Row) (h : AreLookups l d place t replaced lookups stay new) where
  abbrev meets_at : Lookup → Bool
  meets_at x = meets_other replaced (answer_at l d x)

  fits_row : (row : Row) → Has row (d place) → Fits t row
  fits_row row m = let is : IsRowOf l.catalog t row = row_is l d place t row valid at m in is.fits

  is_table : IsSoundTable t
  is_table = table_sound l.catalog place t sound.catalog at

  met : (x : Lookup) (p : KeyValue) → Has p (held_at l d x) → is_none (find bytes_cmp (named_by x p) replaced) ≡ true → IsNewLookup l place t new x → Cross t stay new
  met x p k e n =
      let r : HeldRow l d place t x p = held_row l d place t sound valid at x p (subst (λ (y : Lookup). Has y.partition (partitions l place t)) (sym n.lookup_is) n.in_table) k in
      let key : p.0 ≡ index_key n.number (values_at n.places n.row) =
      (point_holds (index_key n.number (values_at n.places n.row)) p.0).0 (subst (λ (y : Lookup). is_in y.span p.0 ≡ true) n.lookup_is r.inside) in
      let own : IsPairIn t n.row (pair_in t n.row n.number n.places) = record { number = n.number; places = n.places; index = n.index; pair = refl } in
      let meet : Meet t r.row n.row p (pair_in t n.row n.number n.places) =
      rows_meet t r.row n.row p (pair_in t n.row n.number n.places) is_table (fits_row r.row r.there) (h.fits n.row n.there) r.pair own key in
      let number : r.pair.number ≡ x.index = same_heads r.pair.number n.number _ _ (sym (ap (λ (z : KeyValue). z.0) r.pair.pair) ∙ key) ∙ sym (ap (λ (y : Lookup). y.index) n.lookup_is) in
      let free : find bytes_cmp (primary_key t r.row) replaced ≡ None =
      ap (λ (q : List ℕ). find bytes_cmp q replaced) (sym (named_key t x r.row p r.pair number)) ∙ none_of (find bytes_cmp (named_by x p) replaced) e in
      record {
        first = r.row;
        second = n.row;
        in_first = h.all_stay r.row r.there free;
        in_second = n.there;
        shares = record { number = meet.number; places = meet.places; index = meet.index; values = meet.values };
      }

  -- a look-up meets a row that stays and shares a value with a new one
  meets_cross : list_any meets_at lookups ≡ true → Cross t stay new
  meets_cross e =
      let r = any_has meets_at lookups e in
      let k = any_has (λ (p : KeyValue). is_none (find bytes_cmp (named_by r.0 p) replaced)) (held_at l d r.0) r.2 in
      met r.0 k.0 k.1 k.2 (h.each r.0 r.1)

  -- and such a row is met
  cross_meets : Cross t stay new → list_any meets_at lookups ≡ true
  cross_meets c =
      let s : Shares t c.first c.second = c.shares in
      let x : Lookup = key_lookup s.number (values_at s.places c.second) (home l place t c.first) in
      let p : KeyValue = pair_in t c.first s.number s.places in
      let own : IsPairIn t c.first p = record { number = s.number; places = s.places; index = s.index; pair = refl } in
      let there : Has c.first (d place) = h.stays c.first c.in_first in
      let held : Has p (held_at l d x) =
      row_held l d place t sound valid at x c.first p there refl own ((point_holds (index_key s.number (values_at s.places c.second)) p.0).1 (ap (index_key s.number) s.values)) in
      let free : find bytes_cmp (named_by x p) replaced ≡ None =
      ap (λ (q : List ℕ). find bytes_cmp q replaced) (named_key t x c.first p own refl) ∙ h.not_replaced c.first c.in_first in
      has_any meets_at lookups x (h.covers c.first c.second s.number s.places c.in_first c.in_second s.index s.values)
      (has_any (λ (q : KeyValue). is_none (find bytes_cmp (named_by x q) replaced)) (held_at l d x) p held (ap (λ (o : Option Row). is_none o) free))

  twins_by : (has_twins t stay ≡ true) ⊎ (Cross t stay new ⊎ (has_twins t new ≡ true)) → (list_any meets_at lookups || has_twins t new) ≡ true
  twins_by (inl e) = absurd (no_twins t stay h.apart e)
  twins_by (inr (inl c)) = or_first (list_any meets_at lookups) (has_twins t new) (cross_meets c)
  twins_by (inr (inr e)) = or_second (list_any meets_at lookups) (has_twins t new) e

  met_by : (list_any meets_at lookups ≡ true) ⊎ (has_twins t new ≡ true) → has_twins t (stay ++ new) ≡ true
  met_by (inl e) = cross_twins t stay new (meets_cross e)
  met_by (inr e) = later_twins t stay new e

  faulty : (list_any meets_at lookups || has_twins t new) ≡ has_twins t (stay ++ new)
  faulty =
      same_truth (list_any meets_at lookups || has_twins t new) (has_twins t (stay ++ new))
      (λ e. met_by (either_true (list_any meets_at lookups) (has_twins t new) e)) (λ e. twins_by (append_twins t stay new e))

  -- the new rows are free where those that stay and they have no twins
  pub free_stored : if_free (stored_reads l d) t replaced lookups new ≡ (if has_twins t (stay ++ new) then faults S23505 else gives tt)
  unfolding if_free
  free_stored =
      ap (λ (e : Evaluation (List Answer)). e >>= λ answers. (if list_any (meets_other replaced) answers || has_twins t new then faults S23505 else gives tt))
      (search_stored l d (meets_other replaced) lookups)
      ∙ ap (λ (b : Bool). if b || has_twins t new then faults S23505 else gives tt) (any_answered l d (meets_other replaced) lookups)
      ∙ ap (λ (b : Bool). if b then faults S23505 else gives tt) faulty
