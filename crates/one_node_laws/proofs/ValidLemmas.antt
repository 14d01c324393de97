use Rattle.std.proofs.Common.{◌≡◌, ◌≢◌, ℤ, Bool, true, false, cond, List, [], ◌∷◌, ◌<ℤ◌, inl, inr, refl, sym, ap, subst, arith, Less, Equal, Greater}
use Rattle.std.specs.Prelude.{◌⊎◌, map, int_lt}
use Rattle.std.specs.Ordering.{MatchOrdering}
use Rattle.std.specs.Cmp.{int_ranks}
use borrow.Author.Differences.{lt_T, lt_in}
use Rattle.row_locality.specs.OneColumnDatabases.{Database, IsValid, AreRising, AreAbove, AreInts, HasId, IsInt, row_with}
use Rattle.sql_eval.specs.OneColumnExecution.{with_id}

-- an id in its place
ins : ℤ → List ℤ → List ℤ
ins n [] = n ∷ []
ins n (m ∷ ms) = cond (int_lt n m) (n ∷ m ∷ ms) (m ∷ ins n ms)

ins_rows_by : (n m : ℤ) (ms : List ℤ) (t : Bool) → with_id n (map row_with ms) ≡ map row_with (ins n ms)
    → cond t (row_with n ∷ row_with m ∷ map row_with ms) (row_with m ∷ with_id n (map row_with ms)) ≡ map row_with (cond t (n ∷ m ∷ ms) (m ∷ ins n ms))
ins_rows_by n m ms true h = refl
ins_rows_by n m ms false h = ap (λ (d : Database). row_with m ∷ d) h

ins_rows : (n : ℤ) (ms : List ℤ) → with_id n (map row_with ms) ≡ map row_with (ins n ms)
unfolding ins
ins_rows n [] = refl
ins_rows n (m ∷ ms) = ins_rows_by n m ms (int_lt n m) (ins_rows n ms)

lt_trans_z : (a b c : ℤ) → a <ℤ b → b <ℤ c → a <ℤ c
lt_trans_z a b c p q = record { lt = lt_in a c (omega (arith, lt_T a b p.lt, lt_T b c q.lt)) }

above_trans : (n m : ℤ) (ms : List ℤ) → n <ℤ m → AreAbove m ms → AreAbove n ms
above_trans n m [] h above = tt
above_trans n m (k ∷ ks) h above = (lt_trans_z n m k h above.0, above_trans n m ks h above.1)

-- what the two tests tell
told_by : (n m : ℤ) (t u : Bool) → MatchOrdering (cond t Less (cond u Greater Equal)) (n <ℤ m) (n ≡ m) (m <ℤ n) → n ≢ m → ((t ≡ true) × (n <ℤ m)) ⊎ ((t ≡ false) × (m <ℤ n))
told_by n m true u h apart = inl (refl, h)
told_by n m false true h apart = inr (refl, h)
told_by n m false false h apart = absurd (apart h)

told : (n m : ℤ) → n ≢ m → ((int_lt n m ≡ true) × (n <ℤ m)) ⊎ ((int_lt n m ≡ false) × (m <ℤ n))
told n m apart = told_by n m (int_lt n m) (int_lt m n) (int_ranks n m) apart

above_by : (l n m : ℤ) (ms more : List ℤ) (t : Bool) → l <ℤ n → AreAbove l (m ∷ ms) → AreAbove l more → AreAbove l (cond t (n ∷ m ∷ ms) (m ∷ more))
above_by l n m ms more true h above rest = (h, above)
above_by l n m ms more false h above rest = (above.0, rest)

above_ins : (l n : ℤ) (ms : List ℤ) → l <ℤ n → AreAbove l ms → AreAbove l (ins n ms)
unfolding ins
above_ins l n [] h above = (h, tt)
above_ins l n (m ∷ ms) h above = above_by l n m ms (ins n ms) (int_lt n m) h above (above_ins l n ms h above.1)

rising_by : (n m : ℤ) (ms more : List ℤ) → AreRising (m ∷ ms) → AreRising more → (m <ℤ n → AreAbove m more) → ((int_lt n m ≡ true) × (n <ℤ m)) ⊎ ((int_lt n m ≡ false) × (m <ℤ n))
    → AreRising (cond (int_lt n m) (n ∷ m ∷ ms) (m ∷ more))
rising_by n m ms more rising rest f (inl (e, h)) =
    subst (λ (t : Bool). AreRising (cond t (n ∷ m ∷ ms) (m ∷ more))) (sym e) ((h, above_trans n m ms h rising.0), rising)
rising_by n m ms more rising rest f (inr (e, h)) = subst (λ (t : Bool). AreRising (cond t (n ∷ m ∷ ms) (m ∷ more))) (sym e) (f h, rest)

rising_ins : (n : ℤ) (ms : List ℤ) → ¬ HasId n ms → AreRising ms → AreRising (ins n ms)
unfolding ins
rising_ins n [] missing rising = (tt, tt)
rising_ins n (m ∷ ms) missing rising =
    rising_by n m ms (ins n ms) rising (rising_ins n ms (λ h. missing (inr h)) rising.1) (λ h. above_ins m n ms h rising.0) (told n m (λ e. missing (inl (sym e))))

ints_by : (n m : ℤ) (ms more : List ℤ) (t : Bool) → IsInt n → AreInts (m ∷ ms) → AreInts more → AreInts (cond t (n ∷ m ∷ ms) (m ∷ more))
ints_by n m ms more true h ints rest = (h, ints)
ints_by n m ms more false h ints rest = (ints.0, rest)

ints_ins : (n : ℤ) (ms : List ℤ) → IsInt n → AreInts ms → AreInts (ins n ms)
unfolding ins
ints_ins n [] h ints = (h, tt)
ints_ins n (m ∷ ms) h ints = ints_by n m ms (ins n ms) (int_lt n m) h ints (ints_ins n ms h ints.1)

-- a valid database with a new row is valid
pub valid_with : (n : ℤ) (ms : List ℤ) → IsInt n → ¬ HasId n ms → AreRising ms → AreInts ms → IsValid (with_id n (map row_with ms))
valid_with n ms int missing rising ints = (ins n ms, ins_rows n ms, rising_ins n ms missing rising, ints_ins n ms int ints)
