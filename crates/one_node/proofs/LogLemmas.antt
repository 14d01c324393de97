use Rattle.std.proofs.Common.{◌≡◌, ℕ, ℤ, List, [], ◌∷◌, ◌<◌, inl, inr, refl, sym, ap, ◌∙◌, subst, arith}
use Rattle.std.specs.Prelude.{Option, Some, length, ◌⊎◌}
use Rattle.std.proofs.Math.Nat.{sub_self}
use Rattle.mr_base.specs.declared.ids.AttemptId.{AttemptId}
use Rattle.mr_base.specs.declared.timestamps.Reading.{Reading}
use Rattle.mr_base.specs.declared.timestamps.Ts.{Ts}
use Rattle.range_log.specs.Facts.{Laid, HasIntent, Version, HasVersion, HasRecord, lease_of, closed_of, first_entries}
use Rattle.range_log.specs.declared.entries.Entry.{Entry}
use Rattle.range_log.specs.declared.entries.TxnState.{TxnState}
use Rattle.row_locality.proofs.OneColumnKeyLemmas.{same_key}
use Rattle.row_locality.specs.OneColumnDatabases.{IsInt}
use Rattle.row_locality.specs.OneColumnRows.{int_key, int_value}
use Rattle.one_node_laws.specs.Words.{HasPut, the_range}
use Rattle.one_node.specs.Bounds.{IsBehind}
use Rattle.one_node.specs.Kept.{HeldRow, HasRowOf, AreRows, nothing_kept, tidy_log}
use Rattle.one_node.specs.Steps.{first_lease}

-- no intent stands in a tidy log
pub no_intent : (x : ℕ) (hs : List HeldRow) (key : List ℕ) (i : Laid) → ¬ HasIntent key i (tidy_log x hs)
no_intent x [] key i h = h
no_intent x (g ∷ hs) key i (inl (p, q), n) = n p (sym (ap (λ l. l.attempt) q))
no_intent x (g ∷ hs) key i (inr (p, q), n) = no_intent x hs key i q

-- its lease is the first, and nothing is closed
pub tidy_lease : (x : ℕ) (hs : List HeldRow) → lease_of (tidy_log x hs) ≡ Some (first_lease x)
tidy_lease x [] = refl
tidy_lease x (g ∷ hs) = tidy_lease x hs

pub tidy_closed : (x : ℕ) (hs : List HeldRow) → closed_of (tidy_log x hs) ≡ nothing_kept
tidy_closed x [] = refl
tidy_closed x (g ∷ hs) = tidy_closed x hs

-- its versions are its rows
abbrev pub version_of : HeldRow → Version
version_of h = record { key = int_key h.id; ts = h.ts; value = Some (int_value h.id) }

abbrev pub IsHeld : HeldRow → List HeldRow → Type 0
IsHeld h [] = ⊥
IsHeld h (g ∷ gs) = (g ≡ h) ⊎ IsHeld h gs

same_version : (v : Version) (key : List ℕ) (ts : Ts) (value : Option (List ℕ)) → v.key ≡ key → v.ts ≡ ts → v.value ≡ value → v ≡ record { key = key; ts = ts; value = value }
same_version v key ts value p q r = rw (← p, ← q, ← r) refl

pub version_row : (x : ℕ) (hs : List HeldRow) (v : Version) → HasVersion v (tidy_log x hs) → (h : HeldRow) × IsHeld h hs × (v ≡ version_of h)
version_row x [] v (inl e) = absurd e
version_row x [] v (inr (e, o)) = absurd e
version_row x (g ∷ hs) v (inl (k, t, i, inl (p, q), a, w)) = (g, inl refl, same_version v (int_key g.id) g.ts (Some (int_value g.id)) k t (sym w ∙ ap (λ l. l.value) q))
version_row x (g ∷ hs) v (inl (k, t, i, inr (n, q), a, w)) = absurd (n refl)
version_row x (g ∷ hs) v (inr (inl e, o)) = absurd e
version_row x (g ∷ hs) v (inr (inr (inl e, o'), o)) = absurd e
version_row x (g ∷ hs) v (inr (inr (inr (h, o''), o'), o)) =
    let r : (y : HeldRow) × IsHeld y hs × (v ≡ version_of y) = version_row x hs v h in
    (r.0, inr r.1, r.2)

pub held_row : (hs : List HeldRow) (h : HeldRow) → IsHeld h hs → HasRowOf h.id hs
held_row [] h e = e
held_row (g ∷ hs) h (inl e) = inl (ap (λ y. y.id) e)
held_row (g ∷ hs) h (inr e) = inr (held_row hs h e)

pub row_held : (hs : List HeldRow) (n : ℤ) → HasRowOf n hs → (h : HeldRow) × IsHeld h hs × (h.id ≡ n)
row_held [] n e = absurd e
row_held (g ∷ hs) n (inl e) = (g, inl refl, e)
row_held (g ∷ hs) n (inr e) =
    let r : (h : HeldRow) × IsHeld h hs × (h.id ≡ n) = row_held hs n e in
    (r.0, inr r.1, r.2)

pub held_int : (kept : Reading) (count : ℕ) (hs : List HeldRow) → AreRows kept count hs → (h : HeldRow) → IsHeld h hs → IsInt h.id
held_int kept count [] rows h e = absurd e
held_int kept count (g ∷ hs) rows h (inl e) = subst (λ y. IsInt y.id) e rows.2
held_int kept count (g ∷ hs) rows h (inr e) = held_int kept count hs rows.4 h e

pub held_behind : (kept : Reading) (count : ℕ) (hs : List HeldRow) → AreRows kept count hs → (h : HeldRow) → IsHeld h hs → IsBehind kept count h.ts
held_behind kept count [] rows h e = absurd e
held_behind kept count (g ∷ hs) rows h (inl e) = subst (λ y. IsBehind kept count y.ts) e rows.0
held_behind kept count (g ∷ hs) rows h (inr e) = held_behind kept count hs rows.4 h e

-- two rows of one id are the same
pub one_row : (kept : Reading) (count : ℕ) (hs : List HeldRow) → AreRows kept count hs → (g h : HeldRow) → IsHeld g hs → IsHeld h hs → g.id ≡ h.id → g ≡ h
one_row kept count [] rows g h p q e = absurd p
one_row kept count (f ∷ fs) rows g h (inl p) (inl q) e = sym p ∙ q
one_row kept count (f ∷ fs) rows g h (inl p) (inr q) e = absurd (rows.3 (subst (λ n. HasRowOf n fs) (sym e ∙ ap (λ y. y.id) (sym p)) (held_row fs h q)))
one_row kept count (f ∷ fs) rows g h (inr p) (inl q) e = absurd (rows.3 (subst (λ n. HasRowOf n fs) (e ∙ ap (λ y. y.id) (sym q)) (held_row fs g p)))
one_row kept count (f ∷ fs) rows g h (inr p) (inr q) e = one_row kept count fs rows.4 g h p q e

pub row_version : (kept : Reading) (count : ℕ) (x : ℕ) (hs : List HeldRow) → AreRows kept count hs → (h : HeldRow) → IsHeld h hs → HasVersion (version_of h) (tidy_log x hs)
row_version kept count x [] rows h e = absurd e
row_version kept count x (g ∷ hs) rows h (inl e) =
    subst (λ y. HasVersion (version_of y) (tidy_log x (g ∷ hs))) e
    (inl (refl, refl, record { attempt = g.attempt; start = g.ts; anchor = the_range; ts = g.ts; value = Some (int_value g.id) }, inl (refl, refl), refl, refl))
row_version kept count x (g ∷ hs) rows h (inr e) =
    inr (
      inr (inr (row_version kept count x hs rows.4 h e, λ w m. absurd m), λ w m. absurd m),
      λ w m p. rows.3 (subst (λ n. HasRowOf n hs) (sym (same_key g.id h.id rows.2 (held_int kept count hs rows.4 h e) (sym m.0 ∙ p.0))) (held_row hs h e)),
    )

-- its attempts were begun
pub tidy_puts : (kept : Reading) (count : ℕ) (x : ℕ) (hs : List HeldRow) → AreRows kept count hs → (a : AttemptId) → count < a.0 → (key : List ℕ) (value : Option (List ℕ)) (ts : Ts) → ¬ HasPut a key value ts (tidy_log x hs)
tidy_puts kept count x [] rows a h key value ts p = p
tidy_puts kept count x (g ∷ hs) rows a h key value ts (inl (e, k, v, t)) = omega (arith, h, rows.1, ap (λ y. y.0) e)
tidy_puts kept count x (g ∷ hs) rows a h key value ts (inr p) = tidy_puts kept count x hs rows.4 a h key value ts p

pub tidy_records : (kept : Reading) (count : ℕ) (x : ℕ) (hs : List HeldRow) → AreRows kept count hs → (a : AttemptId) → count < a.0 → (state : TxnState) → ¬ HasRecord a state (tidy_log x hs)
tidy_records kept count x [] rows a h state p = p
tidy_records kept count x (g ∷ hs) rows a h state (inl (e, s)) = omega (arith, h, rows.1, ap (λ y. y.0) e)
tidy_records kept count x (g ∷ hs) rows a h state (inr (n, p)) = tidy_records kept count x hs rows.4 a h state p

-- all entries are the first so many
pub all_entries : (n : ℕ) (entries : List Entry) → n ≡ length entries → first_entries n entries ≡ entries
all_entries n entries e = rw (e, sub_self (length entries)) refl
