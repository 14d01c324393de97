-- What a statement writes leads from what a database holds to what the next one holds.
use Rattle.std.proofs.Common.{◌≡◌, ℕ, Bool, List, ◌++◌, refl, sym, ap, ◌∙◌, subst, inl, inr}
use Rattle.std.specs.Prelude.{◌≢◌, ◌⊎◌, if◌then◌else◌, slice_get, Some, None}
use Rattle.std.proofs.lemmas.Bool.{cases_eq, eq-eqb, ne_eqb}
use Rattle.mr_base.specs.declared.ids.RangeId.{RangeId}
use Rattle.descriptors.specs.Sound.{IsSoundTable}
use Rattle.descriptors.specs.declared.table.Table.{Table}
use Rattle.row_locality.specs.Pairs.{KeyValue, pairs_of}
use Rattle.row_locality.specs.Plain.{Layout, PlainDatabase, IsSoundLayout, IsValid, IsRowOf, AreApart, range_of}
use Rattle.row_locality.specs.Rows.{Fits}
use Rattle.sql_eval.specs.Agreement.{range_value}
use Rattle.sql_eval.specs.Execution.{with_rows}
use Rattle.sql_eval.specs.OwnWrites.{OwnWrite, OwnWrites, Place, removal, addition, with_writes}
use Rattle.answer_laws.proofs.HeldPairs.{InTable, Lives, row_is, moved, one_in_table, value_lives, live_value, table_value, held_in_table}
use Rattle.answer_laws.proofs.Members.{Has}
use Rattle.answer_laws.proofs.MoreMembers.{same_some, same_option, none_if}
use Rattle.answer_laws.proofs.Pairwise.{EachTwo}
use Rattle.answer_laws.proofs.RangesOfTables.{IsRangeIn, row_range, table_sound}
use Rattle.answer_laws.proofs.RowOrder.{Row}
use Rattle.answer_laws.proofs.RowWrites.{row_writes, write_of, write_there, writes_apart}
use Rattle.answer_laws.proofs.TablePairs.{IsPairIn, pair_there, rows_meet, apart_not}
use Rattle.answer_laws.proofs.TrackedWrites.{Held, Tracks, all_written, AtOthers, place_of, tracked_as, all_tracked, elsewhere, there, each_knows, written_twice, both_know, at_or_not}

-- ---- the rows of one table in place of others

-- Of a table's rows these go, those stay, and others come.
pub record AreReplaced (l : Layout) (d : PlainDatabase) (place : ℕ) (t : Table) (olds stay new after : List Row) : Type 0 where
  pub at : slice_get l.catalog.tables place ≡ Some t
  pub parts : (r : Row) → Has r (d place) → Has r olds ⊎ Has r stay
  pub from_old : (r : Row) → Has r olds → Has r (d place)
  pub from_stay : (r : Row) → Has r stay → Has r (d place)
  pub never_both : (r : Row) → Has r olds → Has r stay → ⊥
  pub olds_apart : EachTwo (AreApart t) olds
  pub new_apart : EachTwo (AreApart t) new
  pub cross : (r m : Row) → Has r stay → Has m new → AreApart t r m
  pub new_rows : (m : Row) → Has m new → IsRowOf l.catalog t m
  pub after_has : (r : Row) → Has r after → Has r stay ⊎ Has r new
  pub has_stay : (r : Row) → Has r stay → Has r after
  pub has_new : (r : Row) → Has r new → Has r after
  pub valid : IsValid l.catalog (with_rows d place after)

pub here_rows : (d : PlainDatabase) (place : ℕ) (rows : List Row) → with_rows d place rows place ≡ rows
here_rows d place rows = ap (λ (b : Bool). if b then rows else d place) (eq-eqb place place refl)

pub other_rows : (d : PlainDatabase) (place other : ℕ) (rows : List Row) → other ≢ place → with_rows d place rows other ≡ d other
other_rows d place other rows h = ap (λ (b : Bool). if b then rows else d other) (ne_eqb other place h)

-- a pair that lives in a range is of this table, or of another
here_or_other : (l : Layout) (d : PlainDatabase) (place : ℕ) (t : Table) (range : RangeId) (p : KeyValue) → slice_get l.catalog.tables place ≡ Some t → (v : Lives l d range p)
    → InTable l d place t range p ⊎ (v.place ≢ place)
here_or_other l d place t range p e v =
    elim (cases_eq v.place place) [
      | inl same ↦
          let table : v.table ≡ t = same_some (sym v.at ∙ ap (λ (k : ℕ). slice_get l.catalog.tables k) same ∙ e) in
          inl (moved l d v.place place v.table t range p same table v.in_table)
      | inr differs ↦ inr differs
    ]

-- a pair of another table lives in each database that differs in this one alone
lives_as_well : (l : Layout) (d other : PlainDatabase) (range : RangeId) (p : KeyValue) (v : Lives l d range p) → d v.place ≡ other v.place → Lives l other range p
lives_as_well l d other range p v e =
    record {
      place = v.place;
      table = v.table;
      at = v.at;
      in_table = record { row = v.in_table.row; there = subst (Has v.in_table.row) e v.in_table.there; range_is = v.in_table.range_is; pair = v.in_table.pair };
    }

module _ (l : Layout) (d : PlainDatabase) (place : ℕ) (t : Table) (olds stay new after : List Row) (sound : IsSoundLayout l) (valid : IsValid l.catalog d)
    (h : AreReplaced l d place t olds stay new after) where
  abbrev next : PlainDatabase
  next = with_rows d place after

  abbrev gone : List OwnWrite
  gone = row_writes l place t removal olds

  abbrev come : List OwnWrite
  come = row_writes l place t addition new

  abbrev held : Held
  held = range_value l d

  is_table : IsSoundTable t
  is_table = table_sound l.catalog place t sound.catalog h.at

  old_fits : (r : Row) → Has r (d place) → Fits t r
  old_fits r m = let is : IsRowOf l.catalog t r = row_is l d place t r valid h.at m in is.fits

  new_fits : (r : Row) → Has r new → Fits t r
  new_fits r m = let is : IsRowOf l.catalog t r = h.new_rows r m in is.fits

  removal_at : (range : RangeId) (p : KeyValue) → place_of (removal range p) ≡ (range, p.0)
  removal_at range p = refl

  addition_at : (range : RangeId) (p : KeyValue) → place_of (addition range p) ≡ (range, p.0)
  addition_at range p = refl

  gone_two : EachTwo AtOthers gone
  gone_two = writes_apart l place t removal removal_at olds is_table (λ r m. old_fits r (h.from_old r m)) h.olds_apart

  come_two : EachTwo AtOthers come
  come_two = writes_apart l place t addition addition_at new is_table new_fits h.new_apart

  in_range : (row : Row) → IsRangeIn l place t (range_of l place t row)
  in_range row = row_range l place t row sound.catalog h.at

  -- ---- where writes are

  -- a pair of a row that goes is removed
  gone_at : (range : RangeId) (p : KeyValue) (x : InTable l d place t range p) → Has x.row olds → ((w : OwnWrite) → Has w gone → place_of w ≢ (range, p.0)) → ⊥
  gone_at range p x m f =
      let is : Has p (pairs_of t x.row) = subst (λ (q : KeyValue). Has q (pairs_of t x.row)) (sym x.pair.pair) (pair_there t x.row x.pair.number x.pair.places x.pair.index) in
      f (removal (range_of l place t x.row) p) (write_there l place t removal removal_at olds x.row p m is) (λ i. (x.range_is i, p.0))

  -- a pair of a row that comes is added
  come_at : (range : RangeId) (p : KeyValue) (x : InTable l next place t range p) → Has x.row new → ((w : OwnWrite) → Has w come → place_of w ≢ (range, p.0)) → ⊥
  come_at range p x m f =
      let is : Has p (pairs_of t x.row) = subst (λ (q : KeyValue). Has q (pairs_of t x.row)) (sym x.pair.pair) (pair_there t x.row x.pair.number x.pair.places x.pair.index) in
      f (addition (range_of l place t x.row) p) (write_there l place t addition addition_at new x.row p m is) (λ i. (x.range_is i, p.0))

  -- ---- each write knows what was held

  gone_knows : (w : OwnWrite) → Has w gone → w.before ≡ held w.range w.key
  gone_knows w m =
      let r = write_of l place t removal removal_at olds w m in
      let x : InTable l d place t (range_of l place t r.row) r.pair = record { row = r.row; there = h.from_old r.row r.there; range_is = refl; pair = r.in_row } in
      subst (λ (v : OwnWrite). v.before ≡ held v.range v.key) (sym r.write_is) (sym (held_in_table l d place t (range_of l place t r.row) r.pair sound valid h.at x))

  stay_at : (range : RangeId) (p q : KeyValue) (x : InTable l d place t range p) (m : Row) → Has x.row stay → Has m new → IsPairIn t m q → p.0 ≡ q.0 → ⊥
  stay_at range p q x m s k i e =
      apart_not t x.row m p q (h.cross x.row m s k) (rows_meet t x.row m p q is_table (old_fits x.row x.there) (new_fits m k) x.pair i e)

  stays_not : (range : RangeId) (q : KeyValue) (m : Row) (v : List ℕ) → Has m new → IsPairIn t m q → ((w : OwnWrite) → Has w gone → place_of w ≢ (range, q.0))
      → (x : InTable l d place t range (q.0, v)) → Has x.row olds ⊎ Has x.row stay → ⊥
  stays_not range q m v k i f x (inl o) = gone_at range (q.0, v) x o f
  stays_not range q m v k i f x (inr s) = stay_at range (q.0, v) q x m s k i refl

  free_by : (m : Row) (q : KeyValue) → Has m new → IsPairIn t m q
      → ((w : OwnWrite) × Has w gone × (place_of w ≡ (range_of l place t m, q.0))) ⊎ ((w : OwnWrite) → Has w gone → place_of w ≢ (range_of l place t m, q.0))
      → None ≡ all_written held gone (range_of l place t m) q.0
  free_by m q k i (inl (w, g, e)) =
      let r = write_of l place t removal removal_at olds w g in
      sym (ap (λ (z : Place). all_written held gone z.0 z.1) (sym e) ∙ there held gone w gone_two g ∙ ap (λ (v : OwnWrite). v.after) r.write_is)
  free_by m q k i (inr f) =
      let range : RangeId = range_of l place t m in
      sym (elsewhere held gone range q.0 f
      ∙ none_if (held range q.0) (λ v e. let x = table_value l d place t range q.0 v sound (in_range m) e in stays_not range q m v k i f x (h.parts x.row x.there)))

  come_knows : (w : OwnWrite) → Has w come → w.before ≡ all_written held gone w.range w.key
  come_knows w m =
      let r = write_of l place t addition addition_at new w m in
      subst (λ (v : OwnWrite). v.before ≡ all_written held gone v.range v.key) (sym r.write_is)
      (free_by r.row r.pair r.there r.in_row (at_or_not gone (range_of l place t r.row, r.pair.0)))

  -- ---- what is held afterwards

  abbrev NoneAt : List OwnWrite → RangeId → List ℕ → Type 0
  NoneAt ws range key = (w : OwnWrite) → Has w ws → place_of w ≢ (range, key)

  in_next : (range : RangeId) (p : KeyValue) (x : InTable l d place t range p) → Has x.row stay → InTable l next place t range p
  in_next range p x m = record { row = x.row; there = subst (Has x.row) (sym (here_rows d place after)) (h.has_stay x.row m); range_is = x.range_is; pair = x.pair }

  from_next : (range : RangeId) (p : KeyValue) (x : InTable l next place t range p) → Has x.row stay ⊎ Has x.row new
  from_next range p x = h.after_has x.row (subst (Has x.row) (here_rows d place after) x.there)

  abbrev back_in : (range : RangeId) (p : KeyValue) (x : InTable l next place t range p) → Has x.row stay → InTable l d place t range p
  back_in range p x m = record { row = x.row; there = h.from_stay x.row m; range_is = x.range_is; pair = x.pair }

  -- a key that is removed and not added is held no more
  lost_by : (range : RangeId) (key v : List ℕ) (o : Row) (q : KeyValue) → Has o olds → range_of l place t o ≡ range → IsPairIn t o q → q.0 ≡ key → NoneAt come range key
      → (x : InTable l next place t range (key, v)) → Has x.row stay ⊎ Has x.row new → ⊥
  lost_by range key v o q k r i e f x (inl s) =
      let was : InTable l d place t range q = record { row = o; there = h.from_old o k; range_is = r; pair = i } in
      let now : InTable l d place t range (key, v) = back_in range (key, v) x s in
      let same = one_in_table l d place t range q (key, v) sound valid h.at was now e in
      h.never_both o k (subst (λ (z : Row). Has z stay) (sym same.0) s)
  lost_by range key v o q k r i e f x (inr m) = come_at range (key, v) x m f

  kept_by : (range : RangeId) (key v : List ℕ) → NoneAt gone range key → (y : Lives l d range (key, v)) → InTable l d place t range (key, v) ⊎ (y.place ≢ place) → Lives l next range (key, v)
  kept_by range key v f y (inr differs) = lives_as_well l d next range (key, v) y (sym (other_rows d place y.place after differs))
  kept_by range key v f y (inl x) = kept_in x (h.parts x.row x.there)
    where
      kept_in : (z : InTable l d place t range (key, v)) → Has z.row olds ⊎ Has z.row stay → Lives l next range (key, v)
      kept_in z (inl o) = absurd (gone_at range (key, v) z o f)
      kept_in z (inr s) = record { place = place; table = t; at = h.at; in_table = in_next range (key, v) z s }

  was_by : (range : RangeId) (key v : List ℕ) → NoneAt come range key → (y : Lives l next range (key, v)) → InTable l next place t range (key, v) ⊎ (y.place ≢ place) → Lives l d range (key, v)
  was_by range key v f y (inr differs) = lives_as_well l next d range (key, v) y (other_rows d place y.place after differs)
  was_by range key v f y (inl x) = was_in x (from_next range (key, v) x)
    where
      was_in : (z : InTable l next place t range (key, v)) → Has z.row stay ⊎ Has z.row new → Lives l d range (key, v)
      was_in z (inl s) = record { place = place; table = t; at = h.at; in_table = back_in range (key, v) z s }
      was_in z (inr m) = absurd (come_at range (key, v) z m f)

  -- neither removed nor added: it is held as before
  same_held : (range : RangeId) (key : List ℕ) → NoneAt gone range key → NoneAt come range key → held range key ≡ range_value l next range key
  same_held range key f g =
      same_option (held range key) (range_value l next range key)
      (λ v e. let y = value_lives l d range key v e in live_value l next range (key, v) sound h.valid (kept_by range key v f y (here_or_other l d place t range (key, v) h.at y)))
      (λ v e. let y = value_lives l next range key v e in live_value l d range (key, v) sound valid (was_by range key v g y (here_or_other l next place t range (key, v) h.at y)))

  lost : (range : RangeId) (key : List ℕ) (w : OwnWrite) → Has w gone → place_of w ≡ (range, key) → NoneAt come range key → None ≡ range_value l next range key
  lost range key w k e f =
      let r = write_of l place t removal removal_at olds w k in
      let at : (range_of l place t r.row, r.pair.0) ≡ (range, key) = sym (ap place_of r.write_is) ∙ e in
      let range_is : range_of l place t r.row ≡ range = ap (λ (z : Place). z.0) at in
      let key_is : r.pair.0 ≡ key = ap (λ (z : Place). z.1) at in
      let own : IsRangeIn l place t range = subst (IsRangeIn l place t) range_is (in_range r.row) in
      sym (none_if (range_value l next range key)
      (λ v g. let x = table_value l next place t range key v sound own g in lost_by range key v r.row r.pair r.there range_is r.in_row key_is f x (from_next range (key, v) x)))

  after_gone : (range : RangeId) (key : List ℕ) → NoneAt come range key → ((w : OwnWrite) × Has w gone × (place_of w ≡ (range, key))) ⊎ NoneAt gone range key
      → all_written held gone range key ≡ range_value l next range key
  after_gone range key f (inl (w, k, e)) =
      let r = write_of l place t removal removal_at olds w k in
      ap (λ (z : Place). all_written held gone z.0 z.1) (sym e) ∙ there held gone w gone_two k ∙ ap (λ (v : OwnWrite). v.after) r.write_is ∙ lost range key w k e f
  after_gone range key f (inr g) = elsewhere held gone range key g ∙ same_held range key g f

  after_come : (range : RangeId) (key : List ℕ) → ((w : OwnWrite) × Has w come × (place_of w ≡ (range, key))) ⊎ NoneAt come range key
      → all_written (all_written held gone) come range key ≡ range_value l next range key
  after_come range key (inl (w, k, e)) =
      let r = write_of l place t addition addition_at new w k in
      let there_now : Has r.row (next place) = subst (Has r.row) (sym (here_rows d place after)) (h.has_new r.row r.there) in
      let x : InTable l next place t (range_of l place t r.row) r.pair = record { row = r.row; there = there_now; range_is = refl; pair = r.in_row } in
      let at : place_of w ≡ (range_of l place t r.row, r.pair.0) = ap place_of r.write_is in
      ap (λ (z : Place). all_written (all_written held gone) come z.0 z.1) (sym e) ∙ there (all_written held gone) come w come_two k
      ∙ ap (λ (v : OwnWrite). v.after) r.write_is
      ∙ sym (held_in_table l next place t (range_of l place t r.row) r.pair sound h.valid h.at x)
      ∙ ap (λ (z : Place). range_value l next z.0 z.1) (sym at ∙ e)
  after_come range key (inr f) = elsewhere (all_written held gone) come range key f ∙ after_gone range key f (at_or_not gone (range, key))

  -- the writes of the rows that go and of those that come lead to what the next database holds
  pub effects : (first : Held) (own : OwnWrites) → Tracks first own (range_value l d)
      → Tracks first (with_writes own (row_writes l place t removal olds ++ row_writes l place t addition new)) (range_value l (with_rows d place after))
  effects first own tracks =
      tracked_as first (all_written held (gone ++ come)) (range_value l next) (with_writes own (gone ++ come))
      (λ range key. ap (λ (x : Held). x range key) (written_twice held gone come) ∙ after_come range key (at_or_not come (range, key)))
      (all_tracked first own held (gone ++ come) tracks
      (both_know held gone come (each_knows held gone gone_two gone_knows) (each_knows (all_written held gone) come come_two come_knows)))
