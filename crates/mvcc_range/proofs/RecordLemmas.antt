-- The records of attempts, as a look-up finds them.
use Rattle.std.proofs.Common.{◌≡◌, ◌≢◌, ◌⊎◌, true, false, List, [], ◌∷◌, Option, None, Some, inl, inr, refl, subst, ap}
use Rattle.std.proofs.lemmas.Cmp.{nat_cmp_total, tied_itself}
use Rattle.std.proofs.lemmas.Map.Lookups.{exact_unsigned}
use Rattle.std.specs.Ordering.{is_eq, nat_cmp}
use Rattle.std.specs.declared.cmp.Ordering.{Ordering}
use Rattle.std.specs.declared.cmp.Ordering.TheVariants.{Less, Equal, Greater}
use Rattle.mr_base.specs.declared.ids.AttemptId.{AttemptId}
use Rattle.mvcc_range.specs.Follows.{attempt_cmp, record_at}
use Rattle.mvcc_range.specs.Lookups.{IsStateOf}
use Rattle.range_log.specs.declared.entries.Entry.{Entry}
use Rattle.range_log.specs.declared.entries.Entry.TheVariants as log
use Rattle.range_log.specs.declared.entries.TxnState.{TxnState}

-- two attempts are the same or not
attempt_or_not : (b a : AttemptId) → ((is_eq (attempt_cmp b a) ≡ true) × (b ≡ a)) ⊎ ((is_eq (attempt_cmp b a) ≡ false) × (b ≢ a))
attempt_or_not b a = when (nat_cmp b.0 a.0) refl
  where
    itself : b ≡ a → nat_cmp b.0 a.0 ≡ Equal
    itself e = subst (λ (c : AttemptId). nat_cmp b.0 c.0 ≡ Equal) e (tied_itself nat_cmp_total b.0)

    same : b.0 ≡ a.0 → b ≡ a
    same h = λ i. record { 0 = h i }

    when : (r : Ordering) → nat_cmp b.0 a.0 ≡ r → ((is_eq (attempt_cmp b a) ≡ true) × (b ≡ a)) ⊎ ((is_eq (attempt_cmp b a) ≡ false) × (b ≢ a))
    when Less h = inr (ap is_eq h, λ e. let i = itself e in cc)
    when Equal h = inl (ap is_eq h, same (exact_unsigned b.0 a.0 h))
    when Greater h = inr (ap is_eq h, λ e. let i = itself e in cc)

-- another attempt's record is no matter
other_state : (a b : AttemptId) (s : TxnState) (older : List Entry) → b ≢ a → (o : Option TxnState) → IsStateOf older a o → IsStateOf (log.State b s ∷ older) a o
other_state a b s older n None h = λ state x. elim x [ inl e ↦ n e.0 | inr e ↦ h state e.1 ]
other_state a b s older n (Some state) h = inr (n, h)

-- the record that is looked up is the last
pub record_told : (a : AttemptId) (entries : List Entry) → IsStateOf entries a (record_at a entries)
record_told a [] = λ state h. h
record_told a (log.State b s ∷ older) =
    let rest = record_told a older in
    elim (attempt_or_not b a) as (λ _. IsStateOf (log.State b s ∷ older) a (record_at a (log.State b s ∷ older))) [
      | inl k ↦ rw k.0 (inl (k.1, refl))
      | inr k ↦ rw k.0 (other_state a b s older k.1 (record_at a older) rest)
    ]
record_told a (e ∷ older) = record_told a older
