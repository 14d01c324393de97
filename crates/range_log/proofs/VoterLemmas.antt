-- The voters that don't run, bit by bit.
use Rattle.std.proofs.Common.{◌≡◌, ◌⊎◌, inl, inr, zero, suc, ℕ, ◌+◌, ◌*◌, ◌%◌, ◌^◌, ◌<◌, IsBitSet, bit_and, bit_xor, min, arith, refl, sym, subst, ◌∙◌}
use Rattle.std.proofs.lemmas.Nat.{pow_pos}
use Rattle.std.proofs.lemmas.Nat.Bits.{and_pow, bit_at-lt, bit_at_and, bit_at_xor}
use Rattle.std.specs.Int.{bit_at}

two_cases : (n : ℕ) → n < 2 → (n ≡ 0) ⊎ (n ≡ 1)
two_cases zero l = inl refl
two_cases (suc zero) l = inr refl
two_cases (suc (suc n)) l = absurd (omega (arith, l))

pub bit_of : (n k : ℕ) → IsBitSet n k → bit_at n k ≡ 1
bit_of n k h = elim (two_cases (bit_at n k) (bit_at-lt n k)) as (λ _. bit_at n k ≡ 1) [
  | inl z ↦ absurd (h (and_pow n k ∙ rw z (omega arith)))
  | inr o ↦ o
]

pub set_of : (n k : ℕ) → bit_at n k ≡ 1 → IsBitSet n k
set_of n k o h =
    let one : 1 * 2 ^ k ≡ 0 = rw o at (sym (and_pow n k) ∙ h) in
    absurd (omega (arith, one, pow_pos k))

pub unset_of : (n k : ℕ) → ¬ IsBitSet n k → bit_at n k ≡ 0
unset_of n k h = elim (two_cases (bit_at n k) (bit_at-lt n k)) as (λ _. bit_at n k ≡ 0) [ inl z ↦ z | inr o ↦ absurd (h (set_of n k o)) ]

parts : (a b : ℕ) → a < 2 → b < 2 → (a + min a b) % 2 ≡ 1 → (a ≡ 1) × (b ≡ 0)
parts a b k l h = elim (two_cases a k) as (λ _. (a ≡ 1) × (b ≡ 0)) [
  | inl z ↦ absurd (omega (arith, h, z))
  | inr o ↦ elim (two_cases b l) as (λ _. (a ≡ 1) × (b ≡ 0)) [
    | inl y ↦ (o, y)
    | inr y ↦ absurd (omega (arith, h, o, y))
  ]
]

pub stopped_bit : (voters running k : ℕ) → IsBitSet (bit_xor voters (bit_and voters running)) k → IsBitSet voters k × ¬ IsBitSet running k
stopped_bit voters running k h =
    let bit = rw (bit_at_xor voters (bit_and voters running) k, bit_at_and voters running k) at (bit_of (bit_xor voters (bit_and voters running)) k h) in
    let p = parts (bit_at voters k) (bit_at running k) (bit_at-lt voters k) (bit_at-lt running k) bit in
    (set_of voters k p.0, λ r. let one = bit_of running k r in omega (arith, one, p.1))

pub bit_stopped : (voters running k : ℕ) → IsBitSet voters k → ¬ IsBitSet running k → IsBitSet (bit_xor voters (bit_and voters running)) k
bit_stopped voters running k v r =
    set_of (bit_xor voters (bit_and voters running)) k
    (rw (bit_at_xor voters (bit_and voters running) k, bit_at_and voters running k, bit_of voters k v, unset_of running k r) refl)
