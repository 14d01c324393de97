use Rattle.std.proofs.Common.{◌≡◌, ℤ, Bool, true, false, ◌||◌, List, [], ◌∷◌, ◌<ℤ◌, inl, inr, ⊎_elim, refl, sym, ◌∙◌, arith, int_cmp, int_eq, Ordering, Less, Equal, Greater, BTreeSet, true≢false}
use Rattle.std.specs.Prelude.{◌⊎◌, ◌↔◌, IsTrue}
use Rattle.std.specs.List.{list_any}
use Rattle.std.specs.BTreeMap.{is_at}
use Rattle.std.specs.BTreeSet.{contains, insert_key}
use Rattle.std.specs.Ordering.{MatchOrdering, match_ordering}
use Rattle.std.specs.Cmp.{int_ranks}
use Rattle.std.proofs.lemmas.Bool.Decides.{Decides-int_eq}
use borrow.Author.Differences.{lt_T, lt_in}
use Rattle.row_locality.specs.OneColumnDatabases.{AreRising, AreAbove, AreInts, HasId, IsInt}

lt_trans_z : (a b c : ℤ) → a <ℤ b → b <ℤ c → a <ℤ c
lt_trans_z a b c p q = record { lt = lt_in a c (omega (arith, lt_T a b p.lt, lt_T b c q.lt)) }

above_trans : (n m : ℤ) (ms : List ℤ) → n <ℤ m → AreAbove m ms → AreAbove n ms
above_trans n m [] h above = tt
above_trans n m (k ∷ ks) h above = (lt_trans_z n m k h above.0, above_trans n m ks h above.1)

above_by : (l n m : ℤ) (ms more : List ℤ) (o : Ordering) → l <ℤ n → AreAbove l (m ∷ ms) → AreAbove l more → AreAbove l (match_ordering o (n ∷ m ∷ ms) (m ∷ ms) (m ∷ more))
above_by l n m ms more Less h above rest = (h, above)
above_by l n m ms more Equal h above rest = above
above_by l n m ms more Greater h above rest = (above.0, rest)

above_insert : (l n : ℤ) (ms : List ℤ) → l <ℤ n → AreAbove l ms → AreAbove l (insert_key int_cmp ms n)
above_insert l n [] h above = (h, tt)
above_insert l n (m ∷ ms) h above = above_by l n m ms (insert_key int_cmp ms n) (int_cmp n m) h above (above_insert l n ms h above.1)

rising_by : (n m : ℤ) (ms : List ℤ) (o : Ordering) → MatchOrdering o (n <ℤ m) (n ≡ m) (m <ℤ n) → AreRising (m ∷ ms) → AreRising (insert_key int_cmp ms n)
    → AreRising (match_ordering o (n ∷ m ∷ ms) (m ∷ ms) (m ∷ insert_key int_cmp ms n))
rising_by n m ms Less h rising rest = ((h, above_trans n m ms h rising.0), rising)
rising_by n m ms Equal h rising rest = rising
rising_by n m ms Greater h rising rest = (above_insert m n ms h rising.0, rest)

-- an id that is added keeps the ids rising
pub rising_insert : (n : ℤ) (ms : List ℤ) → AreRising ms → AreRising (insert_key int_cmp ms n)
rising_insert n [] rising = (tt, tt)
rising_insert n (m ∷ ms) rising = rising_by n m ms (int_cmp n m) (int_ranks n m) rising (rising_insert n ms rising.1)

ints_by : (n m : ℤ) (ms more : List ℤ) (o : Ordering) → IsInt n → AreInts (m ∷ ms) → AreInts more → AreInts (match_ordering o (n ∷ m ∷ ms) (m ∷ ms) (m ∷ more))
ints_by n m ms more Less h ints rest = (h, ints)
ints_by n m ms more Equal h ints rest = ints
ints_by n m ms more Greater h ints rest = (ints.0, rest)

pub ints_insert : (n : ℤ) (ms : List ℤ) → IsInt n → AreInts ms → AreInts (insert_key int_cmp ms n)
ints_insert n [] h ints = (h, tt)
ints_insert n (m ∷ ms) h ints = ints_by n m ms (insert_key int_cmp ms n) (int_cmp n m) h ints (ints_insert n ms h ints.1)

has_by : (n m k : ℤ) (ms more : List ℤ) (o : Ordering) → MatchOrdering o (n <ℤ m) (n ≡ m) (m <ℤ n) → (HasId k more ↔ ((n ≡ k) ⊎ HasId k ms))
    → (HasId k (match_ordering o (n ∷ m ∷ ms) (m ∷ ms) (m ∷ more)) ↔ ((n ≡ k) ⊎ HasId k (m ∷ ms)))
has_by n m k ms more Less h f = (λ q. q, λ q. q)
has_by n m k ms more Equal h f = (λ q. inr q, λ q. ⊎_elim (λ p. inl (sym h ∙ p)) (λ r. r) q)
has_by n m k ms more Greater h f = (
  λ q. ⊎_elim (λ p. inr (inl p)) (λ r. ⊎_elim (λ p. inl p) (λ t. inr (inr t)) (f.0 r)) q,
  λ q. ⊎_elim (λ p. inr (f.1 (inl p))) (λ r. ⊎_elim (λ p. inl p) (λ t. inr (f.1 (inr t))) r) q,
)

-- it is then one of them, beside those that were
pub has_insert : (n k : ℤ) (ms : List ℤ) → (HasId k (insert_key int_cmp ms n) ↔ ((n ≡ k) ⊎ HasId k ms))
has_insert n k [] = (λ q. q, λ q. q)
has_insert n k (m ∷ ms) = has_by n m k ms (insert_key int_cmp ms n) (int_cmp n m) (int_ranks n m) (has_insert n k ms)

or_cases : (a b : Bool) → (a || b) ≡ true → (a ≡ true) ⊎ (b ≡ true)
or_cases true b e = inl refl
or_cases false b e = inr e

or_none : (a b : Bool) → (a || b) ≡ false → (a ≡ false) × (b ≡ false)
or_none true b e = absurd (cc)
or_none false b e = (refl, e)

any_id : (ms : List ℤ) (n : ℤ) → list_any (is_at (int_cmp n)) ms ≡ true → HasId n ms
any_id [] n e = absurd (cc)
any_id (m ∷ ms) n e = ⊎_elim (λ p. inl (sym ((Decides-int_eq n m).0 p))) (λ q. inr (any_id ms n q)) (or_cases (int_eq n m) (list_any (is_at (int_cmp n)) ms) e)

no_id : (ms : List ℤ) (n : ℤ) → list_any (is_at (int_cmp n)) ms ≡ false → ¬ HasId n ms
no_id [] n e h = h
no_id (m ∷ ms) n e (inl p) = absurd (true≢false (sym ((Decides-int_eq n m).1 (sym p)) ∙ (or_none (int_eq n m) (list_any (is_at (int_cmp n)) ms) e).0))
no_id (m ∷ ms) n e (inr h) = no_id ms n (or_none (int_eq n m) (list_any (is_at (int_cmp n)) ms) e).1 h

-- the test of the set says whether it has the id
pub contains_id : (ids : BTreeSet ℤ) (n : ℤ) → IsTrue (contains int_cmp ids n) → HasId n ids.keys
contains_id ids n h = any_id ids.keys n h

pub contains_no_id : (ids : BTreeSet ℤ) (n : ℤ) → contains int_cmp ids n ≡ false → ¬ HasId n ids.keys
contains_no_id ids n h = no_id ids.keys n h
