use Rattle.std.proofs.Common.{◌≡◌, ◌≢◌, ℕ, suc, ℤ, Bool, true, false, cond, ◌||◌, ◌&&◌, List, [], ◌∷◌, ◌++◌, ◌≤◌, ◌<◌, ◌+◌, ◌*◌, inl, inr, ⊎_elim, refl, sym, ap, ap₂, ◌∙◌, subst, arith, int_cmp}
use Rattle.std.specs.Prelude.{reverse, nat_lt, ◌==◌, ◌⊎◌, ◌↔◌, Some, length}
use Rattle.std.proofs.lemmas.Bool.Decides.{nat_tests}
use Rattle.std.specs.BTreeSet.{contains, insert_key}
use Rattle.mr_base.specs.Timestamps.{of_reading}
use Rattle.mr_base.specs.declared.messages.Fate.TheVariants as fates
use Rattle.mr_base.specs.declared.timestamps.Reading.{Reading}
use Rattle.mr_base.specs.declared.timestamps.Ts.{Ts}
use Rattle.range_log.specs.declared.entries.Entry.{Entry}
use Rattle.range_log.specs.declared.entries.Entry.TheVariants as log
use Rattle.range_log.specs.declared.entries.TxnState.TheVariants as records
use Rattle.region_sql.specs.declared.one_column_forms.OneColumnStatement.{OneColumnStatement}
use Rattle.region_sql.specs.declared.one_column_forms.OneColumnStatement.TheVariants.{Insert, SelectAll}
use Rattle.row_locality.specs.OneColumnDatabases.{AreRising, AreInts, HasId, IsInt}
use Rattle.row_locality.specs.OneColumnRows.{int_key, int_value}
use Rattle.one_node_laws.specs.Words.{attempts_of, greatest_start, later_reading, log_of, the_range}
use Rattle.journal.specs.declared.entries.JournalEntry.{JournalEntry}
use Rattle.one_node.proofs.JournalLemmas.{behind_next, within_next}
use Rattle.one_node.proofs.RowLemmas.{rising_insert, ints_insert, has_insert, contains_no_id}
use Rattle.one_node.specs.Bounds.{IsBehind}
use Rattle.one_node.specs.Courses.{Goes, IsAdded, IsTakenIn}
use Rattle.one_node.specs.Kept.{HeldRow, HasRowOf, AreRows, AreWithin, IsKept, IsKnown, IsUnmade, tidy_log}
use Rattle.one_node.specs.Steps.{line_steps}
use Rattle.one_node.specs.declared.courses.Course.{Course}
use Rattle.one_node.specs.declared.courses.Course.TheVariants as courses
use Rattle.one_node.specs.declared.range.Range.{Range}
use Rattle.one_node.specs.declared.transaction.Begun.{Begun}

-- the journal after a transaction's line
abbrev pub line_journal : ℕ → Begun → Course → Range → List JournalEntry → List JournalEntry
line_journal line b course range journal = reverse (line_steps line b course range.length range.ids.keys) ++ journal

abbrev pub IsNext : Reading → Reading → Type 0
IsNext k n = (k.wall < n.wall) ⊎ ((k.wall ≡ n.wall) × (k.logical < n.logical))

is_later : (k n : Reading) → IsNext k n → (nat_lt k.wall n.wall || ((k.wall == n.wall) && nat_lt k.logical n.logical)) ≡ true
is_later k n h = grind (arith, nat_tests, h)

pub later_next : (k n : Reading) → IsNext k n → later_reading k n ≡ n
later_next k n h = ap (λ (t : Bool). cond t n k) (is_later k n h)

-- what a clock gave next isn't ahead of it
pub start_behind : (n : Reading) (count attempt : ℕ) → n.logical ≤ count → IsBehind n count (of_reading n attempt)
start_behind n count attempt h = record { wall = omega arith; logical = λ e. omega arith; small = h }

rows_next : (k : Reading) (count : ℕ) (n : Reading) → IsNext k n → (hs : List HeldRow) → AreRows k count hs → AreRows n (count + 1) hs
rows_next k count n ahead [] rows = tt
rows_next k count n ahead (h ∷ hs) rows = (behind_next k count n ahead h.ts rows.0, omega (arith, rows.1), rows.2, rows.3, rows_next k count n ahead hs rows.4)

-- what is known where no row is added
same_known : (k n : Reading) (count : ℕ) (old new : Range) (journal after : List JournalEntry) → IsNext k n → new ≡ old → log_of the_range after ≡ log_of the_range journal
    → IsKept k count old journal → IsKept n (count + 1) new after
same_known k n count old new journal after ahead e l kept =
    record {
      expiration = kept.expiration;
      rows = kept.rows;
      lease = ap (λ (r : Range). r.lease) e ∙ kept.lease;
      log_is = l ∙ kept.log_is;
      length_is = ap (λ (r : Range). r.length) e ∙ kept.length_is;
      are_rows = rows_next k count n ahead kept.rows kept.are_rows;
      same = λ m. subst (λ (r : Range). HasId m r.ids.keys ↔ HasRowOf m kept.rows) (sym e) (kept.same m);
      rising = subst (λ (r : Range). AreRising r.ids.keys) (sym e) kept.rising;
      ints = subst (λ (r : Range). AreInts r.ids.keys) (sym e) kept.ints;
    }

-- the row that is added
abbrev pub added_row : ℤ → Begun → HeldRow
added_row m b = record { id = m; attempt = b.attempt; ts = b.start }

has_added : (m k : ℤ) (ids : List ℤ) (hs : List HeldRow) (b : Begun) → (HasId k ids ↔ HasRowOf k hs) → (HasId k (insert_key int_cmp ids m) ↔ HasRowOf k (added_row m b ∷ hs))
has_added m k ids hs b f = (
  λ q. ⊎_elim (λ p. inl p) (λ r. inr (f.0 r)) ((has_insert m k ids).0 q),
  λ q. (has_insert m k ids).1 (⊎_elim (λ p. inl p) (λ r. inr (f.1 r)) q),
)

three_more : (l : List Entry) → length l + 3 ≡ suc (suc (suc (length l)))
three_more l = omega arith

-- what is known where a row is added
added_known : (k n : Reading) (count : ℕ) (old new : Range) (journal after : List JournalEntry) (m : ℤ) (b : Begun) → IsNext k n → IsAdded old m new → IsInt m → (contains int_cmp old.ids m ≡ false)
    → b.attempt.0 ≡ count + 1 → IsBehind n (count + 1) b.start
    → log_of the_range after ≡ log.Resolve b.attempt (int_key m) (fates.Committed b.start) ∷ log.State b.attempt (records.Committed b.start) ∷ log.Put b.attempt b.start the_range b.start (int_key m) (Some (int_value m)) ∷ log_of the_range journal
    → IsKept k count old journal → IsKept n (count + 1) new after
added_known k n count old new journal after m b ahead add int missing attempt behind l kept =
    record {
      expiration = kept.expiration;
      rows = added_row m b ∷ kept.rows;
      lease = add.lease ∙ kept.lease;
      log_is = l ∙ ap (λ (x : List Entry). log.Resolve b.attempt (int_key m) (fates.Committed b.start) ∷ log.State b.attempt (records.Committed b.start) ∷ log.Put b.attempt b.start the_range b.start (int_key m) (Some (int_value m)) ∷ x) kept.log_is;
      length_is = add.length ∙ ap (λ x. x + 3) kept.length_is ∙ three_more (tidy_log kept.expiration kept.rows);
      are_rows = (behind, omega (arith, attempt), int, λ h. contains_no_id old.ids m missing ((kept.same m).1 h), rows_next k count n ahead kept.rows kept.are_rows);
      same = λ q. subst (λ ks. HasId q ks ↔ HasRowOf q (added_row m b ∷ kept.rows)) (sym add.ids) (has_added m q old.ids.keys kept.rows b (kept.same q));
      rising = subst (λ ks. AreRising ks) (sym add.ids) (rising_insert m old.ids.keys kept.rising);
      ints = subst (λ ks. AreInts ks) (sym add.ids) (ints_insert m old.ids.keys int kept.ints);
    }

-- A statement is of INTs.
abbrev pub IsOfInts : OneColumnStatement → Type 0
IsOfInts (Insert m) = IsInt m
IsOfInts SelectAll = Unit {0}

pub int_of_statement : (st : OneColumnStatement) (m : ℤ) → IsOfInts st → st ≡ Insert m → IsInt m
int_of_statement st m h e = subst (λ x. IsOfInts x) e h

kept_next : (k n : Reading) (count line : ℕ) (b : Begun) (st : OneColumnStatement) (course : Course) (old new : Range) (journal : List JournalEntry) → IsNext k n → b.attempt.0 ≡ count + 1 → IsBehind n (count + 1) b.start
    → IsOfInts st → Goes old b st course → IsTakenIn old course new → IsKept k count old journal → IsKept n (count + 1) new (line_journal line b course old journal)
kept_next k n count line b st courses.Unserved old new journal ahead a behind ints goes taken kept = same_known k n count old new journal _ ahead taken refl kept
kept_next k n count line b st (courses.Duplicate m) old new journal ahead a behind ints goes taken kept = same_known k n count old new journal _ ahead taken refl kept
kept_next k n count line b st (courses.Inserts m) old new journal ahead a behind ints goes taken kept =
    added_known k n count old new journal _ m b ahead taken (int_of_statement st m ints goes.1) goes.2 a behind refl kept
kept_next k n count line b st courses.Selects old new journal ahead a behind ints goes taken kept = same_known k n count old new journal _ ahead taken refl kept

within_line : (n : Reading) (count line : ℕ) (b : Begun) (course : Course) (old : Range) (journal : List JournalEntry) → b.attempt.0 ≡ count + 1 → IsBehind n (count + 1) b.start
    → AreWithin n (count + 1) journal → AreWithin n (count + 1) (line_journal line b course old journal)
within_line n count line b courses.Unserved old journal a behind h = (tt, (omega (arith, a), (tt, h)))
within_line n count line b (courses.Duplicate m) old journal a behind h = (tt, ((omega (arith, a), behind), (omega (arith, a), (tt, h))))
within_line n count line b (courses.Inserts m) old journal a behind h =
    (tt, (omega (arith, a), (omega (arith, a), (omega (arith, a), ((omega (arith, a), behind), (omega (arith, a), (tt, h)))))))
within_line n count line b courses.Selects old journal a behind h = (tt, ((omega (arith, a), behind), (omega (arith, a), (tt, h))))

attempts_line : (line : ℕ) (b : Begun) (course : Course) (old : Range) (journal : List JournalEntry) → attempts_of (line_journal line b course old journal) ≡ attempts_of journal + 1
attempts_line line b courses.Unserved old journal = refl
attempts_line line b (courses.Duplicate m) old journal = refl
attempts_line line b (courses.Inserts m) old journal = refl
attempts_line line b courses.Selects old journal = refl

starts_line : (line : ℕ) (b : Begun) (course : Course) (old : Range) (journal : List JournalEntry)
    → greatest_start (line_journal line b course old journal) ≡ later_reading (greatest_start journal) (record { wall = b.start.wall; logical = b.start.logical })
starts_line line b courses.Unserved old journal = refl
starts_line line b (courses.Duplicate m) old journal = refl
starts_line line b (courses.Inserts m) old journal = refl
starts_line line b courses.Selects old journal = refl

small_next : (count : ℕ) (course : Course) (old new : Range) → old.length ≤ 1 + 3 * count → IsTakenIn old course new → new.length ≤ 1 + 3 * (count + 1)
small_next count courses.Unserved old new h taken = omega (arith, h, ap (λ (r : Range). r.length) taken)
small_next count (courses.Duplicate m) old new h taken = omega (arith, h, ap (λ (r : Range). r.length) taken)
small_next count (courses.Inserts m) old new h taken = omega (arith, h, taken.length)
small_next count courses.Selects old new h taken = omega (arith, h, ap (λ (r : Range). r.length) taken)

-- only a range that is made takes transactions
pub made_range : (k : Reading) (count : ℕ) (range : Range) (journal : List JournalEntry) → journal ≢ [] → (IsUnmade range journal ⊎ IsKept k count range journal) → IsKept k count range journal
made_range k count range journal some (inl u) = absurd (some u.journal_is)
made_range k count range journal some (inr kept) = kept

abbrev pub with_floor : Range → Ts → Range
with_floor r ts = record r { floor = ts }

floor_apart : (k : Reading) (count : ℕ) (range : Range) (ts : Ts) (journal : List JournalEntry) → IsKept k count range journal → IsKept k count (with_floor range ts) journal
floor_apart k count range ts journal kept =
    record {
      expiration = kept.expiration;
      rows = kept.rows;
      lease = kept.lease;
      log_is = kept.log_is;
      length_is = kept.length_is;
      are_rows = kept.are_rows;
      same = kept.same;
      rising = kept.rising;
      ints = kept.ints;
    }

-- the journal is known after a transaction's line
pub line_known : (k n : Reading) (count line : ℕ) (b : Begun) (st : OneColumnStatement) (course : Course) (old new : Range) (journal : List JournalEntry) → IsNext k n → n.logical ≤ count + 1
    → b.attempt.0 ≡ count + 1 → b.start ≡ of_reading n (count + 1) → journal ≢ [] → IsOfInts st → Goes old b st course → IsTakenIn old course new → IsKnown k count old journal
    → IsKnown n (count + 1) (with_floor new b.start) (line_journal line b course old journal)
line_known k n count line b st course old new journal ahead small a start some ints goes taken known =
    let behind : IsBehind n (count + 1) b.start = subst (λ ts. IsBehind n (count + 1) ts) (sym start) (start_behind n (count + 1) (count + 1) small) in
    record {
      attempts = attempts_line line b course old journal ∙ ap (λ x. x + 1) known.attempts;
      starts = starts_line line b course old journal
          ∙ ap₂ (λ (x : Reading) (ts : Ts). later_reading x (record { wall = ts.wall; logical = ts.logical })) known.starts start ∙ later_next k n ahead;
      within = within_line n count line b course old journal a behind (within_next k count n ahead journal known.within);
      floor = behind;
      floor_is = start;
      small = small_next count course old new known.small taken;
      state = inr (floor_apart n (count + 1) new b.start _ (kept_next k n count line b st course old new journal ahead a behind ints goes taken (made_range k count old journal some known.state)));
    }
