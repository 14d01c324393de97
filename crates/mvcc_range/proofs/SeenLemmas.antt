-- What a read sees as versions of a key.
use Rattle.std.proofs.Common.{◌≡◌, ◌⊎◌, ℕ, true, false, List, Option, None, Some, IsSome, is_some, inl, inr, refl, sym, subst, ap, ◌∙◌}
use Rattle.mr_base.specs.Timestamps.{IsBelow}
use Rattle.mr_base.specs.declared.timestamps.Ts.{Ts}
use Rattle.mvcc_range.proofs.OtherLemmas.{one_intent}
use Rattle.mvcc_range.proofs.TsLemmas.{least_of_two, least_same}
use Rattle.mvcc_range.proofs.VersionLemmas.{IsTheVersion, version_of, version_told}
use Rattle.mvcc_range.specs.Answer.{Read, Sees}
use Rattle.mvcc_range.specs.Follows.{value_at}
use Rattle.mvcc_range.specs.KeyFacts.{IsFirstAbove, version_at}
use Rattle.mvcc_range.specs.KeyValue.{KeyValue}
use Rattle.mvcc_range.specs.KeyView.{IsLeast, IsSeenAbove, IsTold, IsToldAbove, Stands, lesser_of}
use Rattle.range_log.specs.Facts.{HasIntent, HasVersion, Laid, Version}
use Rattle.range_log.specs.declared.entries.Entry.{Entry}

-- one version stands at a key and timestamp
pub one_version : (entries : List Entry) (key : List ℕ) (r : Ts) (v w : Version) → HasVersion v entries → HasVersion w entries →
    v.key ≡ key → v.ts ≡ r → w.key ≡ key → w.ts ≡ r → v.value ≡ w.value
one_version entries key r v w h k vk vt wk wt = when (value_at key r entries) (version_told key r entries)
  where
    when : (o : Option (Option (List ℕ))) → IsTheVersion entries key r o → v.value ≡ w.value
    when None t = absurd (t v h vk vt)
    when (Some x) t = t.1 v h vk vt ∙ sym (t.1 w k wk wt)

-- one value is seen at a key and timestamp
pub one_seen : (entries : List Entry) (read : Read) (key : List ℕ) (v w : Version) → Sees entries read v → Sees entries read w →
    v.key ≡ key → w.key ≡ key → v.ts ≡ w.ts → v.value ≡ w.value
one_seen entries read key v w (inl h) (inl k) vk wk t = one_version entries key v.ts v w h k vk refl wk (sym t)
one_seen entries read key v w (inl h) (inr (i, a, b, c, d, (e, n))) vk wk t = absurd (n v h (vk ∙ sym wk, t))
one_seen entries read key v w (inr (i, a, b, c, d, (e, n))) (inl k) vk wk t = absurd (n w k (wk ∙ sym vk, sym t))
one_seen entries read key v w (inr (i, a, b, c, d, (e, n))) (inr (j, x, y, z, p, (q, m))) vk wk t =
    sym e ∙ ap (λ (l : Laid). l.value) (one_intent entries v.key i j a (subst (λ (k : List ℕ). HasIntent k j entries) (wk ∙ sym vk) x)) ∙ q

module _ (entries : List Entry) (read : Read) (key : List ℕ) (s : KeyValue) (st : Stands entries key s) where
  pub version_there : (ts : Ts) (value : Option (List ℕ)) → version_at ts s ≡ Some value → HasVersion (version_of key ts value) entries
  version_there ts value h = (subst (λ (o : Option (Option (List ℕ))). IsTheVersion entries key ts o) (sym (st.versions ts) ∙ h) (version_told key ts entries)).0

  pub version_known : (w : Version) → HasVersion w entries → w.key ≡ key → version_at w.ts s ≡ Some w.value
  version_known w h k = st.versions w.ts ∙ when (value_at key w.ts entries) (version_told key w.ts entries)
    where
      when : (o : Option (Option (List ℕ))) → IsTheVersion entries key w.ts o → o ≡ Some w.value
      when None t = absurd (t w h k refl)
      when (Some x) t = ap (λ (y : Option (List ℕ)). Some y) (sym (t.1 w h k refl))

  -- what the read sees at the key is a version, or an intent that it knows as committed
  abbrev pub IsSeen : Ts → Option (List ℕ) → Type 0
  IsSeen ts value = (version_at ts s ≡ Some value) ⊎ ((version_at ts s ≡ None) × (i : Laid) × IsTold entries read key i ts × (i.value ≡ value))

  pub from_seen : (ts : Ts) (value : Option (List ℕ)) → IsSeen ts value → Sees entries read (version_of key ts value)
  from_seen ts value (inl h) = inl (version_there ts value h)
  from_seen ts value (inr (n, i, t, v)) =
      inr (i, t.0.0, t.0.1, t.0.2, t.1, (v, λ w h p. let is : version_at ts s ≡ Some w.value = subst (λ (x : Ts). version_at x s ≡ Some w.value) p.1 (version_known w h p.0) in cc))

  pub to_seen : (v : Version) → Sees entries read v → v.key ≡ key → IsSeen v.ts v.value
  to_seen v (inl h) k = inl (version_known v h k)
  to_seen v (inr (i, h, n, l, t, (e, apart))) k = inr (when (version_at v.ts s) refl, i, ((subst (λ (x : List ℕ). HasIntent x i entries) k h, n, l), t), e)
    where
      when : (o : Option (Option (List ℕ))) → version_at v.ts s ≡ o → o ≡ None
      when None is = refl
      when (Some x) is = absurd (apart (version_of key v.ts x) (version_there v.ts x is) (sym k, refl))

  some_value : (ts : Ts) → IsSome (version_at ts s) → (value : Option (List ℕ)) × (version_at ts s ≡ Some value)
  some_value ts h = when (version_at ts s) refl h
    where
      when : (o : Option (Option (List ℕ))) → version_at ts s ≡ o → is_some o ≡ true → (value : Option (List ℕ)) × (version_at ts s ≡ Some value)
      when None is t = cc
      when (Some x) is t = (x, is)

  -- a timestamp of an intent that is known as committed is seen, if not as its value
  told_seen : (ts : Ts) (i : Laid) → IsTold entries read key i ts → (value : Option (List ℕ)) × IsSeen ts value
  told_seen ts i t = when (version_at ts s) refl
    where
      when : (o : Option (Option (List ℕ))) → version_at ts s ≡ o → (value : Option (List ℕ)) × IsSeen ts value
      when None is = (i.value, inr (is, i, t, refl))
      when (Some x) is = (x, inl is)

  -- the least that is seen above a timestamp
  pub least_seen : (above : Ts) (first told : Option Ts) → IsFirstAbove s above first → IsLeast (IsToldAbove entries read above key) told →
      IsLeast (IsSeenAbove entries read above key) (lesser_of first told)
  least_seen above first told f t =
      least_same (λ x. (IsBelow above x × IsSome (version_at x s)) ⊎ IsToldAbove entries read above key x) (IsSeenAbove entries read above key) (lesser_of first told) to back
      (least_of_two (λ x. IsBelow above x × IsSome (version_at x s)) (IsToldAbove entries read above key) first told (of_first first f) t)
    where
      of_first : (o : Option Ts) → IsFirstAbove s above o → IsLeast (λ x. IsBelow above x × IsSome (version_at x s)) o
      of_first None h = λ x p. let is : false ≡ true = subst (λ (o : Option (Option (List ℕ))). is_some o ≡ true) (h x p.0) p.1 in cc
      of_first (Some ts) h = ((h.0, h.1), λ x p. h.2 x p.0 p.1)

      to : (x : Ts) → (IsBelow above x × IsSome (version_at x s)) ⊎ IsToldAbove entries read above key x → IsSeenAbove entries read above key x
      to x (inl (b, h)) = let v = some_value x h in (version_of key x v.0, from_seen x v.0 (inl v.1), refl, refl, b)
      to x (inr (b, i, h)) = let v = told_seen x i h in (version_of key x v.0, from_seen x v.0 v.1, refl, refl, b)

      back : (x : Ts) → IsSeenAbove entries read above key x → (IsBelow above x × IsSome (version_at x s)) ⊎ IsToldAbove entries read above key x
      back x (v, sees, k, t, b) = elim (to_seen v sees k) as (λ _. (IsBelow above x × IsSome (version_at x s)) ⊎ IsToldAbove entries read above key x) [
        | inl h ↦ inl (b, subst (λ (y : Ts). is_some (version_at y s) ≡ true) t (ap is_some h))
        | inr h ↦ inr (b, h.1, subst (λ (y : Ts). IsTold entries read key h.1 y) t h.2)
      ]
