use Rattle.std.proofs.Common.{◌≡◌, ℕ, ℤ, List, [], ◌∷◌, inl, inr, sym, ap, ◌∙◌, subst, arith}
use Rattle.std.specs.Prelude.{map, Some}
use Rattle.mr_base.specs.Spans.{InSpan}
use Rattle.mr_base.specs.Timestamps.{IsBelow}
use Rattle.mr_base.specs.declared.spans.Pair.{Pair}
use Rattle.mr_base.specs.declared.spans.Span.{Span}
use Rattle.mr_base.specs.declared.timestamps.Reading.{Reading}
use Rattle.mr_base.specs.declared.timestamps.Ts.{Ts}
use Rattle.mvcc_range.specs.Answer.{Read, Sees, IsRow, GivesRows}
use Rattle.range_log.specs.Facts.{Version}
use Rattle.row_locality.proofs.OneColumnKeyLemmas.{same_key}
use Rattle.row_locality.specs.OneColumnDatabases.{AreInts, HasId, IsInt, row_with}
use Rattle.row_locality.specs.OneColumnRows.{int_key, int_value, int_pair}
use Rattle.one_node.proofs.LogLemmas.{IsHeld, version_of, no_intent, version_row, row_version, held_int, held_behind, one_row, held_row, row_held}
use Rattle.one_node.specs.Bounds.{IsBehind, IsAhead}
use Rattle.one_node.specs.Kept.{HeldRow, HasRowOf, AreRows, tidy_log}
use Rattle.sql_eval.proofs.OneColumnExecutionLemmas.{held_id, id_held}
use Rattle.sql_eval.specs.OneColumnAgreement.{AgreesOn, Holds, pair}

-- what isn't ahead of a clock is below each start ahead of it
pub below_start : (k : Reading) (count : ℕ) (ts start : Ts) → IsBehind k count ts → IsAhead k start → IsBelow ts start
below_start k count ts start behind ahead = grind (arith, behind.wall, behind.logical, ahead)

pub not_before_it : (a b : Ts) → IsBelow a b → ¬ IsBelow b a
not_before_it a b h g = grind (arith, h, g)

pub not_itself_ts : (a : Ts) → ¬ IsBelow a a
not_itself_ts a h = grind (arith, h)

-- a read of a tidy log ahead of its rows
pub record Reads (k : Reading) (count x : ℕ) (hs : List HeldRow) (read : Read) : Type 0 where
  pub rows : AreRows k count hs
  pub ahead : IsAhead k read.at
  pub known : read.known ≡ []

-- what it sees are the rows
pub sees_row : (k : Reading) (count x : ℕ) (hs : List HeldRow) (read : Read) (v : Version) → Sees (tidy_log x hs) read v → (h : HeldRow) × IsHeld h hs × (v ≡ version_of h)
sees_row k count x hs read v (inl h) = version_row x hs v h
sees_row k count x hs read v (inr (i, h, other, at, told, value)) = absurd (no_intent x hs v.key i h)

sees_below : (k : Reading) (count x : ℕ) (hs : List HeldRow) (read : Read) → Reads k count x hs read → (v : Version) → Sees (tidy_log x hs) read v → IsBelow v.ts read.at
sees_below k count x hs read r v s =
    let f : (h : HeldRow) × IsHeld h hs × (v ≡ version_of h) = sees_row k count x hs read v s in
    subst (λ (y : Version). IsBelow y.ts read.at) (sym f.2) (below_start k count f.0.ts read.at (held_behind k count hs r.rows f.0 f.1) r.ahead)

-- nothing stands in the way of its rows
pub gives_rows : (k : Reading) (count x : ℕ) (hs : List HeldRow) (read : Read) → Reads k count x hs read → GivesRows (tidy_log x hs) read
gives_rows k count x hs read r key inside = (
  λ i u. no_intent x hs key i u.0,
  λ ts u. not_before_it read.at ts u.4 (subst (λ (t : Ts). IsBelow t read.at) u.3 (sees_below k count x hs read r u.0 u.1)),
)

-- its rows are those that are held
pub row_of_held : (k : Reading) (count x : ℕ) (hs : List HeldRow) (read : Read) → Reads k count x hs read → (h : HeldRow) → IsHeld h hs → IsRow (tidy_log x hs) read (int_key h.id) (int_value h.id)
row_of_held k count x hs read r h e = (
  h.ts,
  record {
    seen = inl (row_version k count x hs r.rows h e);
    below = below_start k count h.ts read.at (held_behind k count hs r.rows h e) r.ahead;
    newest = λ w s q b.
        let f : (g : HeldRow) × IsHeld g hs × (w ≡ version_of g) = sees_row k count x hs read w s in
        let one : f.0 ≡ h = one_row k count hs r.rows f.0 h f.1 e
        (same_key f.0.id h.id (held_int k count hs r.rows f.0 f.1) (held_int k count hs r.rows h e) (sym (ap (λ (y : Version). y.key) f.2) ∙ q)) in
        λ late. not_itself_ts h.ts (subst (λ (t : Ts). IsBelow h.ts t) (ap (λ (y : Version). y.ts) f.2 ∙ ap (λ (y : HeldRow). y.ts) one) late);
  },
)

pub held_of_row : (k : Reading) (count x : ℕ) (hs : List HeldRow) (read : Read) (key value : List ℕ) → IsRow (tidy_log x hs) read key value → (h : HeldRow) × IsHeld h hs × (key ≡ int_key h.id)
held_of_row k count x hs read key value (ts, n) =
    let f : (h : HeldRow) × IsHeld h hs × (record { key = key; ts = ts; value = Some value } ≡ version_of h) = sees_row k count x hs read (record { key = key; ts = ts; value = Some value }) n.seen in
    (f.0, f.1, ap (λ (y : Version). y.key) f.2)

pub int_of : (ms : List ℤ) → AreInts ms → (m : ℤ) → HasId m ms → IsInt m
int_of [] ints m h = absurd h
int_of (l ∷ ls) ints m (inl e) = subst (λ y. IsInt y) e ints.0
int_of (l ∷ ls) ints m (inr h) = int_of ls ints.1 m h

-- the id of a pair that a database holds
held_pair_id : (ms : List ℤ) → AreInts ms → (n : ℤ) → IsInt n → (value : List ℕ) → Holds (map row_with ms) (int_key n) value → HasId n ms
held_pair_id ms ints n int value h =
    let f : (m : ℤ) × HasId m ms × (int_pair m ≡ pair (int_key n) value) = held_id ms (pair (int_key n) value) h in
    subst (λ y. HasId y ms) (same_key f.0 n (int_of ms ints f.0 f.1) int (ap (λ (p : Pair). p.key) f.2)) f.1

-- a valid database that agrees with what was served of a span has a row in it exactly where it is held
pub agreeing_has : (k : Reading) (count x : ℕ) (hs : List HeldRow) (read : Read) → Reads k count x hs read → (span : Span) → (n : ℤ) → InSpan span (int_key n) → (ms : List ℤ) → AreInts ms → IsInt n
    → AgreesOn (map row_with ms) span (IsRow (tidy_log x hs) read) → HasRowOf n hs → HasId n ms
agreeing_has k count x hs read r span n inside ms ints int agrees h =
    let f : (g : HeldRow) × IsHeld g hs × (g.id ≡ n) = row_held hs n h in
    held_pair_id ms ints n int (int_value n)
    ((agrees (int_key n) (int_value n) inside).1 (subst (λ y. IsRow (tidy_log x hs) read (int_key y) (int_value y)) f.2 (row_of_held k count x hs read r f.0 f.1)))

pub agreeing_held : (k : Reading) (count x : ℕ) (hs : List HeldRow) (read : Read) → Reads k count x hs read → (span : Span) → (n : ℤ) → InSpan span (int_key n) → (ms : List ℤ) → IsInt n
    → AgreesOn (map row_with ms) span (IsRow (tidy_log x hs) read) → HasId n ms → HasRowOf n hs
agreeing_held k count x hs read r span n inside ms int agrees h =
    let f : (g : HeldRow) × IsHeld g hs × (int_key n ≡ int_key g.id) = held_of_row k count x hs read (int_key n) (int_value n) ((agrees (int_key n) (int_value n) inside).0 (id_held ms n h)) in
    subst (λ y. HasRowOf y hs) (sym (same_key n f.0.id int (held_int k count hs r.rows f.0 f.1) f.2)) (held_row hs f.0 f.1)
