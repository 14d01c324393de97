use Rattle.std.proofs.Common.{◌≡◌, ℕ, ℤ, Bool, true, false, cond, List, [], ◌∷◌, ◌<◌, inl, ⊎_elim, refl, sym, ap, subst, arith, length}
use Rattle.std.specs.Prelude.{map, ◌==◌, ◌↔◌, Option, Some, Result, Ok, Err}
use Rattle.std.proofs.lemmas.Bool.Decides.{nat_tests}
use Rattle.mr_base.specs.declared.ids.AttemptId.{AttemptId}
use Rattle.mr_base.specs.declared.spans.Pair.{Pair}
use Rattle.mr_base.specs.declared.states.SqlState.TheVariants as states
use Rattle.mr_base.specs.declared.timestamps.Reading.{Reading}
use Rattle.mr_base.specs.declared.timestamps.Ts.{Ts}
use Rattle.mvcc_range.specs.Answer.{Read, IsRow}
use Rattle.range_log.specs.Facts.{Laid, HasIntent, Version, HasVersion, HasRecord, lease_of, closed_of}
use Rattle.range_log.specs.declared.entries.Entry.{Entry}
use Rattle.range_log.specs.declared.entries.Entry.TheVariants as log
use Rattle.range_log.specs.declared.entries.TxnState.{TxnState}
use Rattle.region_sql.specs.declared.one_column_forms.OneColumnStatement.TheVariants.{Insert}
use Rattle.row_locality.proofs.OneColumnKeyLemmas.{same_key, in_point, in_primary_keys}
use Rattle.row_locality.specs.OneColumnDatabases.{AreRising, AreInts, HasId, IsInt, row_with}
use Rattle.row_locality.specs.OneColumnRows.{int_key, int_value, point_of, the_primary_keys}
use Rattle.one_node_laws.specs.Words.{HasPut, greatest_put, spans_served, the_range}
use Rattle.journal.specs.declared.entries.JournalEntry.{JournalEntry}
use Rattle.journal.specs.declared.entries.JournalEntry.TheVariants as entry
use Rattle.one_node.proofs.LogLemmas.{IsHeld, held_behind, no_intent, tidy_closed, tidy_lease, tidy_puts, tidy_records, version_of, version_row}
use Rattle.one_node.proofs.ReadLemmas.{Reads, agreeing_has, agreeing_held, int_of}
use Rattle.one_node.specs.Bounds.{IsBehind}
use Rattle.one_node.specs.Kept.{HeldRow, HasRowOf, AreRows, AreWithin, nothing_kept, tidy_log}
use Rattle.one_node.specs.Steps.{first_lease}
use Rattle.sql_eval.proofs.OneColumnExecutionLemmas.{is_change, changes, same_ids, tests_id, tests_no_id}
use Rattle.sql_eval.specs.OneColumnAgreement.{AgreesOn, IsChange}
use Rattle.sql_eval.specs.OneColumnExecution.{Executed, exec, with_id}

-- numbers that differ are told apart, and one is told to be itself
pub told_apart : (m n : ℕ) → m < n → (m == n) ≡ false
told_apart m n h = grind (arith, nat_tests, h)

pub told_same : (n : ℕ) → (n == n) ≡ true
told_same n = grind (arith, nat_tests)

-- what is known of a log for an attempt that wasn't begun
pub record LogFacts (k : Reading) (count x : ℕ) (hs : List HeldRow) (a : AttemptId) (start : Ts) (l : List Entry) : Type 0 where
  pub intents : (key : List ℕ) (i : Laid) → ¬ HasIntent key i l
  pub lease : lease_of l ≡ Some (first_lease x)
  pub closed : closed_of l ≡ nothing_kept
  pub versions : (v : Version) → HasVersion v l → IsBehind k count v.ts
  pub puts : (key : List ℕ) (value : Option (List ℕ)) (ts : Ts) → ¬ HasPut a key value ts l
  pub records : (state : TxnState) → ¬ HasRecord a state l
  pub asked : greatest_put a start l ≡ start
  pub tidy : l ≡ tidy_log x hs

greatest_tidy : (k : Reading) (count x : ℕ) (hs : List HeldRow) → AreRows k count hs → (a : AttemptId) → count < a.0 → (start : Ts) → greatest_put a start (tidy_log x hs) ≡ start
greatest_tidy k count x [] rows a h start = refl
greatest_tidy k count x (g ∷ hs) rows a h start =
    rw (told_apart g.attempt.0 a.0 (omega (arith, h, rows.1))) (greatest_tidy k count x hs rows.4 a h start)

tidy_facts : (k : Reading) (count x : ℕ) (hs : List HeldRow) → AreRows k count hs → (a : AttemptId) → count < a.0 → (start : Ts) → LogFacts k count x hs a start (tidy_log x hs)
tidy_facts k count x hs rows a h start =
    record {
      intents = no_intent x hs;
      lease = tidy_lease x hs;
      closed = tidy_closed x hs;
      versions = λ v q.
          let f : (g : HeldRow) × IsHeld g hs × (v ≡ version_of g) = version_row x hs v q in
          subst (λ (y : Version). IsBehind k count y.ts) (sym f.2) (held_behind k count hs rows f.0 f.1);
      puts = tidy_puts k count x hs rows a h;
      records = tidy_records k count x hs rows a h;
      asked = greatest_tidy k count x hs rows a h start;
      tidy = refl;
    }

pub log_facts : (k : Reading) (count x : ℕ) (hs : List HeldRow) → AreRows k count hs → (a : AttemptId) → count < a.0 → (start : Ts) → (l : List Entry) → l ≡ tidy_log x hs → LogFacts k count x hs a start l
log_facts k count x hs rows a h start l e = subst (λ (y : List Entry). LogFacts k count x hs a start y) (sym e) (tidy_facts k count x hs rows a h start)

-- nothing was served to an attempt that wasn't begun
pub no_spans : (k : Reading) (count : ℕ) (es : List JournalEntry) → AreWithin k count es → (a : AttemptId) → count < a.0 → spans_served a es ≡ []
no_spans k count [] h a n = refl
no_spans k count (entry.Serve attempt node range span at limit length by known ∷ es) h a n =
    rw (told_apart attempt.0 a.0 (omega (arith, n, h.0.0))) (no_spans k count es h.1 a n)
no_spans k count (e ∷ es) h a n = no_spans k count es h.1 a n

-- what an INSERT changes are its puts
pub insert_puts : (m : ℤ) (ms : List ℤ) (a : AttemptId) (start : Ts) (l : List Entry) → IsInt m → AreInts ms → ¬ HasId m ms → ((key : List ℕ) (value : Option (List ℕ)) (ts : Ts) → ¬ HasPut a key value ts l)
    → (key : List ℕ) (value : Option (List ℕ))
    → (IsChange (map row_with ms) (with_id m (map row_with ms)) key value ↔ ((ts : Ts) × HasPut a key value ts (log.Put a start the_range start (int_key m) (Some (int_value m)) ∷ l)))
insert_puts m ms a start l int ints missing puts key value = (
  λ c. let f : (key ≡ int_key m) × (value ≡ Some (int_value m)) = is_change ms m missing key value c in (start, inl (refl, sym f.0, sym f.1, refl)),
  λ q. ⊎_elim
      (λ (p : (a ≡ a) × (int_key m ≡ key) × (Some (int_value m) ≡ value) × (start ≡ q.0)).
      subst (λ (y : List ℕ). IsChange (map row_with ms) (with_id m (map row_with ms)) y value) p.1
      (subst (λ (y : Option (List ℕ)). IsChange (map row_with ms) (with_id m (map row_with ms)) (int_key m) y) p.2
      (changes ms m (λ r h e. missing (subst (λ y. HasId y ms) (same_key r m (int_of ms ints r h) int (ap (λ (y : Pair). y.key) e)) h)))))
      (λ p. absurd (puts key value q.0 p)) q.1,
)

-- what a read of a tidy log determines
pub inserts : (k : Reading) (count x : ℕ) (hs : List HeldRow) (read : Read) → Reads k count x hs read → (m : ℤ) → IsInt m → ¬ HasRowOf m hs
    → (P : Result Executed _ → Type 0) → (ms : List ℤ) → AreInts ms → AgreesOn (map row_with ms) (point_of m) (IsRow (tidy_log x hs) read)
    → (¬ HasId m ms → P (Ok (record { answer = record { count = 1; rows = [] }; after = with_id m (map row_with ms) }))) → P (exec (Insert m) (map row_with ms))
inserts k count x hs read r m int missing P ms ints agrees f =
    let none : ¬ HasId m ms = λ h. missing (agreeing_held k count x hs read r (point_of m) m (in_point m) ms int agrees h) in
    subst (λ (t : Bool). P (cond t (Err states.S23505) (Ok (record { answer = record { count = 1; rows = [] }; after = with_id m (map row_with ms) })))) (sym (tests_no_id ms m none)) (f none)

pub faults : (k : Reading) (count x : ℕ) (hs : List HeldRow) (read : Read) → Reads k count x hs read → (m : ℤ) → IsInt m → HasRowOf m hs → (ms : List ℤ) → AreInts ms
    → AgreesOn (map row_with ms) (point_of m) (IsRow (tidy_log x hs) read) → exec (Insert m) (map row_with ms) ≡ Err states.S23505
faults k count x hs read r m int held ms ints agrees =
    ap (λ (t : Bool). cond t (Err states.S23505) (Ok (record { answer = record { count = 1; rows = [] }; after = with_id m (map row_with ms) })))
    (tests_id ms m (agreeing_has k count x hs read r (point_of m) m (in_point m) ms ints int agrees held))

pub selects : (k : Reading) (count x : ℕ) (hs : List HeldRow) (read : Read) → Reads k count x hs read → (ids : List ℤ) → AreRising ids → AreInts ids → ((n : ℤ) → (HasId n ids ↔ HasRowOf n hs))
    → (ms : List ℤ) → AreRising ms → AreInts ms → AgreesOn (map row_with ms) the_primary_keys (IsRow (tidy_log x hs) read) → ms ≡ ids
selects k count x hs read r ids rising ints same ms rises fits agrees =
    same_ids ms ids rises rising
    (λ n h. (same n).1 (agreeing_held k count x hs read r the_primary_keys n (in_primary_keys n) ms (int_of ms fits n h) agrees h))
    (λ n h. agreeing_has k count x hs read r the_primary_keys n (in_primary_keys n) ms fits (int_of ids ints n h) agrees ((same n).0 h))
