use Rattle.std.proofs.Common.{◌≡◌, ℕ, ℤ, Bool, true, false, cond, ◌||◌, List, [], ◌∷◌, ◌<ℤ◌, inl, inr, ⊎_elim, refl, sym, ap, ◌∙◌, subst, ap₂, arith}
use Rattle.std.specs.Prelude.{map, int_lt, Option, Some, None, ◌⊎◌}
use Rattle.std.specs.Ordering.{int_eq}
use borrow.Author.Differences.{lt_T}
use Rattle.std.proofs.lemmas.Bool.Decides.{Decides-int_eq}
use Rattle.mr_base.specs.declared.spans.Pair.{Pair}
use Rattle.row_locality.specs.OneColumnDatabases.{Database, AreRising, AreAbove, HasId, row_with, pairs_of}
use Rattle.row_locality.specs.OneColumnRows.{int_key, int_value, int_pair}
use Rattle.sql_eval.specs.OneColumnAgreement.{HasPair, IsChange, pair}
use Rattle.sql_eval.specs.OneColumnExecution.{has_id, with_id}

-- what is held is the pair of an id
pub held_id : (ms : List ℤ) (p : Pair) → HasPair p (pairs_of (map row_with ms)) → (m : ℤ) × HasId m ms × (int_pair m ≡ p)
held_id [] p h = absurd h
held_id (m ∷ ms) p (inl e) = (m, inl refl, e)
held_id (m ∷ ms) p (inr h) =
    let r : (n : ℤ) × HasId n ms × (int_pair n ≡ p) = held_id ms p h in
    (r.0, inr r.1, r.2)

-- the pair of an id that is there is held
pub id_held : (ms : List ℤ) (m : ℤ) → HasId m ms → HasPair (int_pair m) (pairs_of (map row_with ms))
id_held [] m h = h
id_held (n ∷ ms) m (inl e) = inl (ap int_pair e)
id_held (n ∷ ms) m (inr h) = inr (id_held ms m h)

or_true : (a b : Bool) → a ≡ true → (a || b) ≡ true
or_true true b e = refl
or_true false b e = absurd (cc)

or_right : (a b : Bool) → b ≡ true → (a || b) ≡ true
or_right true b e = refl
or_right false b e = e

or_cases : (a b : Bool) → (a || b) ≡ true → (a ≡ true) ⊎ (b ≡ true)
or_cases true b e = inl refl
or_cases false b e = inr e

-- the test of an id says what is there
pub tests_id : (ms : List ℤ) (n : ℤ) → HasId n ms → has_id n (map row_with ms) ≡ true
tests_id [] n h = absurd h
tests_id (m ∷ ms) n (inl e) = or_true (int_eq m n) (has_id n (map row_with ms)) ((Decides-int_eq m n).1 e)
tests_id (m ∷ ms) n (inr h) = or_right (int_eq m n) (has_id n (map row_with ms)) (tests_id ms n h)

tested_id : (ms : List ℤ) (n : ℤ) → has_id n (map row_with ms) ≡ true → HasId n ms
tested_id [] n e = absurd (cc)
tested_id (m ∷ ms) n e =
    elim (or_cases (int_eq m n) (has_id n (map row_with ms)) e) as (λ _. HasId n (m ∷ ms)) [
      | inl p ↦ inl ((Decides-int_eq m n).0 p)
      | inr q ↦ inr (tested_id ms n q)
    ]

bool_cases : (b : Bool) → (b ≡ true) ⊎ (b ≡ false)
bool_cases true = inl refl
bool_cases false = inr refl

pub tests_no_id : (ms : List ℤ) (n : ℤ) → ¬ HasId n ms → has_id n (map row_with ms) ≡ false
tests_no_id ms n h =
    elim (bool_cases (has_id n (map row_with ms))) as (λ _. has_id n (map row_with ms) ≡ false) [
      | inl p ↦ absurd (h (tested_id ms n p))
      | inr q ↦ q
    ]

-- a row besides: it is held
new_held_by : (m : ℤ) (rows more : Database) (n : ℤ) (t : Bool) → HasPair (int_pair n) (pairs_of more)
    → HasPair (int_pair n) (pairs_of (cond t (row_with n ∷ row_with m ∷ rows) (row_with m ∷ more)))
new_held_by m rows more n true h = inl refl
new_held_by m rows more n false h = inr h

pub new_held : (ms : List ℤ) (n : ℤ) → HasPair (int_pair n) (pairs_of (with_id n (map row_with ms)))
new_held [] n = inl refl
new_held (m ∷ ms) n = new_held_by m (map row_with ms) (with_id n (map row_with ms)) n (int_lt n m) (new_held ms n)

-- the others are held still
still_held_by : (m : ℤ) (rows more : Database) (n : ℤ) (p : Pair) (t : Bool) → (HasPair p (pairs_of rows) → HasPair p (pairs_of more))
    → HasPair p (pairs_of (row_with m ∷ rows)) → HasPair p (pairs_of (cond t (row_with n ∷ row_with m ∷ rows) (row_with m ∷ more)))
still_held_by m rows more n p true f h = inr h
still_held_by m rows more n p false f (inl e) = inl e
still_held_by m rows more n p false f (inr h) = inr (f h)

pub still_held : (ms : List ℤ) (n : ℤ) (p : Pair) → HasPair p (pairs_of (map row_with ms)) → HasPair p (pairs_of (with_id n (map row_with ms)))
still_held [] n p h = absurd h
still_held (m ∷ ms) n p h = still_held_by m (map row_with ms) (with_id n (map row_with ms)) n p (int_lt n m) (still_held ms n p) h

-- and nothing else is
nothing_else_by : (m : ℤ) (rows more : Database) (n : ℤ) (p : Pair) (t : Bool) → (HasPair p (pairs_of more) → (int_pair n ≡ p) ⊎ HasPair p (pairs_of rows))
    → HasPair p (pairs_of (cond t (row_with n ∷ row_with m ∷ rows) (row_with m ∷ more))) → (int_pair n ≡ p) ⊎ HasPair p (pairs_of (row_with m ∷ rows))
nothing_else_by m rows more n p true f (inl e) = inl e
nothing_else_by m rows more n p true f (inr h) = inr h
nothing_else_by m rows more n p false f (inl e) = inr (inl e)
nothing_else_by m rows more n p false f (inr h) = ⊎_elim (λ e. inl e) (λ q. inr (inr q)) (f h)

pub nothing_else : (ms : List ℤ) (n : ℤ) (p : Pair) → HasPair p (pairs_of (with_id n (map row_with ms))) → (int_pair n ≡ p) ⊎ HasPair p (pairs_of (map row_with ms))
nothing_else [] n p h = h
nothing_else (m ∷ ms) n p h = nothing_else_by m (map row_with ms) (with_id n (map row_with ms)) n p (int_lt n m) (nothing_else ms n p) h

-- an id that isn't there gets its value, and nothing else changes
pub is_change : (ms : List ℤ) (n : ℤ) → ¬ HasId n ms → (key : List ℕ) (value : Option (List ℕ)) → IsChange (map row_with ms) (with_id n (map row_with ms)) key value
    → (key ≡ int_key n) × (value ≡ Some (int_value n))
is_change ms n missing key None (v, held, lost) = absurd (lost v (still_held ms n (pair key v) held))
is_change ms n missing key (Some v) (held, fresh) =
    ⊎_elim (λ e. (sym (ap (λ q. q.key) e), ap (λ q. Some q.value) (sym e))) (λ h. absurd (fresh h)) (nothing_else ms n (pair key v) held)

pub changes : (ms : List ℤ) (n : ℤ) → ((m : ℤ) → HasId m ms → int_pair m ≡ int_pair n → ⊥) → IsChange (map row_with ms) (with_id n (map row_with ms)) (int_key n) (Some (int_value n))
changes ms n missing =
    (new_held ms n, λ h. let r : (m : ℤ) × HasId m ms × (int_pair m ≡ int_pair n) = held_id ms (int_pair n) h in missing r.0 r.1 r.2)

-- nothing changes from a database to itself
pub no_change : (d : Database) (key : List ℕ) (value : Option (List ℕ)) → ¬ IsChange d d key value
no_change d key None (v, held, lost) = lost v held
no_change d key (Some v) (held, fresh) = fresh held

-- ids that rise and are the same are equal lists
below_first : (n m : ℤ) (ms : List ℤ) → AreAbove m ms → HasId n (m ∷ ms) → (m ≡ n) ⊎ (m <ℤ n)
below_first n m ms above (inl e) = inl e
below_first n m [] above (inr h) = absurd h
below_first n m (k ∷ ks) above (inr (inl e)) = inr (subst (λ x. m <ℤ x) e above.0)
below_first n m (k ∷ ks) above (inr (inr h)) = below_first n m ks above.1 (inr h)

not_both : (m n : ℤ) → m <ℤ n → n <ℤ m → ⊥
not_both m n p q = omega (arith, lt_T m n p.lt, lt_T n m q.lt)

first_alike : (m n : ℤ) → (m ≡ n) ⊎ (m <ℤ n) → (n ≡ m) ⊎ (n <ℤ m) → m ≡ n
first_alike m n (inl e) q = e
first_alike m n (inr p) (inl e) = sym e
first_alike m n (inr p) (inr q) = absurd (not_both m n p q)

not_itself : (m : ℤ) (ms : List ℤ) → AreAbove m ms → ¬ HasId m ms
not_itself m [] above h = h
not_itself m (k ∷ ks) above (inl e) = not_both m m (subst (λ x. m <ℤ x) e above.0) (subst (λ x. m <ℤ x) e above.0)
not_itself m (k ∷ ks) above (inr h) = not_itself m ks above.1 h

rest_of : (m n : ℤ) (ms ns : List ℤ) → m ≡ n → AreAbove m ms → ((k : ℤ) → HasId k (m ∷ ms) → HasId k (n ∷ ns)) → (k : ℤ) → HasId k ms → HasId k ns
rest_of m n ms ns e above f k h =
    ⊎_elim (λ p. absurd (not_itself m ms above (subst (λ x. HasId x ms) (sym p ∙ sym e) h))) (λ q. q) (f k (inr h))

pub same_ids : (ms ns : List ℤ) → AreRising ms → AreRising ns → ((k : ℤ) → HasId k ms → HasId k ns) → ((k : ℤ) → HasId k ns → HasId k ms) → ms ≡ ns
same_ids [] [] p q f g = refl
same_ids [] (n ∷ ns) p q f g = absurd (g n (inl refl))
same_ids (m ∷ ms) [] p q f g = absurd (f m (inl refl))
same_ids (m ∷ ms) (n ∷ ns) p q f g =
    let e : m ≡ n = first_alike m n (below_first n m ms p.0 (g n (inl refl))) (below_first m n ns q.0 (f m (inl refl))) in
    ap₂ (λ a b. a ∷ b) e (same_ids ms ns p.1 q.1 (rest_of m n ms ns e p.0 f) (rest_of n m ns ms (sym e) q.0 g))
