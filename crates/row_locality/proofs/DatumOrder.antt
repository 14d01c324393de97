-- The orders of values and of lists of values are total, and tell all apart.
use Rattle.std.proofs.Common.{◌≡◌, ℕ, ℤ, pos, Bool, true, false, List, [], ◌∷◌, refl, ap, ap₂, subst}
use Rattle.std.specs.Cmp.Lexicographic.{slice_cmp, lists_total}
use Rattle.std.specs.Cmp.{IsTotalOrder, on_total, then_total, nat_cmp_total, int_cmp_total, bool_cmp_total}
use Rattle.std.specs.Ordering.{nat_cmp, int_cmp, bool_cmp, ordering_then, then_cmp, on}
use Rattle.std.specs.declared.cmp.Ordering.{Ordering}
use Rattle.std.specs.declared.cmp.Ordering.TheVariants.{Less, Equal, Greater}
use Rattle.std.proofs.lemmas.Cmp.{nat_list_cmp_total}
use Rattle.std.proofs.lemmas.Map.Lookups.{CmpEqualImpliesEq, exact_signed, exact_bytes}
use Rattle.mr_base.specs.declared.rows.Datum.{Datum}
use Rattle.mr_base.specs.declared.rows.Datum.TheVariants as datums
use Rattle.descriptors.specs.declared.table.Table.{Table}
use Rattle.row_locality.specs.Rows.{datum_cmp, key_cmp, row_cmp, key_of}

-- ---- total: by kind, then as numbers, as texts and as booleans, where other kinds are all alike

abbrev kind_of : Datum → ℕ
kind_of (datums.Int n) = 0
kind_of (datums.Text s) = 1
kind_of (datums.Bool b) = 2

abbrev number_of : Datum → ℤ
number_of (datums.Int n) = n
number_of (datums.Text s) = pos 0
number_of (datums.Bool b) = pos 0

abbrev bytes_of : Datum → List ℕ
bytes_of (datums.Int n) = []
bytes_of (datums.Text s) = s
bytes_of (datums.Bool b) = []

abbrev truth_of : Datum → Bool
truth_of (datums.Int n) = false
truth_of (datums.Text s) = false
truth_of (datums.Bool b) = b

abbrev by_parts : Datum → Datum → Ordering
by_parts = then_cmp (on kind_of nat_cmp) (then_cmp (on number_of int_cmp) (then_cmp (on bytes_of (slice_cmp nat_cmp)) (on truth_of bool_cmp)))

pub or_equal : (o : Ordering) → ordering_then o Equal ≡ o
or_equal Less = refl
or_equal Equal = refl
or_equal Greater = refl

parts_agree : (v w : Datum) → by_parts v w ≡ datum_cmp v w
parts_agree (datums.Int m) (datums.Int n) = or_equal (int_cmp m n)
parts_agree (datums.Int m) (datums.Text s) = refl
parts_agree (datums.Int m) (datums.Bool b) = refl
parts_agree (datums.Text s) (datums.Int n) = refl
parts_agree (datums.Text r) (datums.Text s) = or_equal (slice_cmp nat_cmp r s)
parts_agree (datums.Text s) (datums.Bool b) = refl
parts_agree (datums.Bool b) (datums.Int n) = refl
parts_agree (datums.Bool b) (datums.Text s) = refl
parts_agree (datums.Bool a) (datums.Bool b) = refl

by_parts_total : IsTotalOrder by_parts
by_parts_total = then_total (on_total kind_of nat_cmp_total) (then_total (on_total number_of int_cmp_total) (then_total (on_total bytes_of nat_list_cmp_total) (on_total truth_of bool_cmp_total)))

pub datum_cmp_total : IsTotalOrder datum_cmp
datum_cmp_total = subst IsTotalOrder (λ i v w. parts_agree v w i) by_parts_total

pub key_cmp_total : IsTotalOrder key_cmp
key_cmp_total = lists_total datum_cmp_total

pub row_cmp_total : (t : Table) → IsTotalOrder (row_cmp t)
row_cmp_total t = on_total (key_of t) key_cmp_total

-- ---- and exact

same_bool : (a b : Bool) → bool_cmp a b ≡ Equal → a ≡ b
same_bool false false e = refl
same_bool false true e = absurd cc
same_bool true false e = absurd cc
same_bool true true e = refl

pub datum_cmp_exact : CmpEqualImpliesEq datum_cmp
datum_cmp_exact (datums.Int m) (datums.Int n) e = ap datums.Int (exact_signed m n e)
datum_cmp_exact (datums.Int m) (datums.Text s) e = absurd cc
datum_cmp_exact (datums.Int m) (datums.Bool b) e = absurd cc
datum_cmp_exact (datums.Text s) (datums.Int n) e = absurd cc
datum_cmp_exact (datums.Text r) (datums.Text s) e = ap datums.Text (exact_bytes r s e)
datum_cmp_exact (datums.Text s) (datums.Bool b) e = absurd cc
datum_cmp_exact (datums.Bool b) (datums.Int n) e = absurd cc
datum_cmp_exact (datums.Bool b) (datums.Text s) e = absurd cc
datum_cmp_exact (datums.Bool a) (datums.Bool b) e = ap datums.Bool (same_bool a b e)

pub both_equal : (p q : Ordering) → ordering_then p q ≡ Equal → (p ≡ Equal) × (q ≡ Equal)
both_equal Less q e = absurd cc
both_equal Equal q e = (refl, e)
both_equal Greater q e = absurd cc

pub key_cmp_exact : CmpEqualImpliesEq key_cmp
key_cmp_exact [] [] e = refl
key_cmp_exact [] (w ∷ ws) e = absurd cc
key_cmp_exact (v ∷ vs) [] e = absurd cc
key_cmp_exact (v ∷ vs) (w ∷ ws) e =
    let both = both_equal (datum_cmp v w) (key_cmp vs ws) e in
    ap₂ (λ x xs. x ∷ xs) (datum_cmp_exact v w both.0) (key_cmp_exact vs ws both.1)
