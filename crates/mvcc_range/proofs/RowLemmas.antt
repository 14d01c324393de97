-- The newest that a read sees at a key, and the row that it gives.
use Rattle.std.proofs.Common.{◌≡◌, ◌⊎◌, ℕ, true, false, Bool, cond, List, Option, None, Some, IsSome, is_some, option_copied, inl, inr, refl, sym, subst, ap, ◌∙◌}
use Rattle.std.specs.Borrow.{Bor}
use Rattle.mr_base.specs.Timestamps.{IsBelow, ts_lt}
use Rattle.mr_base.specs.declared.timestamps.Ts.{Ts}
use Rattle.mvcc_range.proofs.SeenLemmas.{from_seen, one_seen, to_seen}
use Rattle.mvcc_range.proofs.TsLemmas.{below_trans, compared, lt_below, not_itself, not_lt_below}
use Rattle.mvcc_range.proofs.VersionLemmas.{version_of}
use Rattle.mvcc_range.specs.Answer.{IsNewest, IsRow, Read, Sees}
use Rattle.mvcc_range.specs.KeyFacts.{IsLastBelow, version_at}
use Rattle.mvcc_range.specs.KeyValue.{KeyValue}
use Rattle.mvcc_range.specs.KeyView.{IsNewestAt, IsTheRow, IsTold, IsToldBelow, Stands, later_of}
use Rattle.range_log.specs.Facts.{Laid, Version}
use Rattle.range_log.specs.declared.entries.Entry.{Entry}

-- neither of two is below the other
pub neither : (a b : Ts) → ¬ IsBelow a b → ¬ IsBelow b a → a ≡ b
neither a b n m = elim (compared a b) as (λ _. a ≡ b) [ inl k ↦ absurd (n k.1) | inr (inl k) ↦ k.1 | inr (inr k) ↦ absurd (m k.1) ]

-- a row is one
pub one_row : (entries : List Entry) (read : Read) (key v w : List ℕ) → IsRow entries read key v → IsRow entries read key w → v ≡ w
one_row entries read key v w (t, n) (u, m) =
    some_same (one_seen entries read key (version_of key t (Some v)) (version_of key u (Some w)) n.seen m.seen refl refl
    (neither t u (n.newest (version_of key u (Some w)) m.seen refl m.below) (m.newest (version_of key t (Some v)) n.seen refl n.below)))
  where
    some_same : {A : Type 0} {x y : A} → Some x ≡ Some y → x ≡ y
    some_same h = cc

-- a key whose newest is a deletion has no row
pub no_row : (entries : List Entry) (read : Read) (key : List ℕ) (t : Ts) → IsNewest entries read (version_of key t None) → (value : List ℕ) → ¬ IsRow entries read key value
no_row entries read key t n value (u, m) =
    let same : None ≡ Some value = one_seen entries read key (version_of key t None) (version_of key u (Some value)) n.seen m.seen refl refl
    (neither t u (n.newest (version_of key u (Some value)) m.seen refl m.below) (m.newest (version_of key t None) n.seen refl n.below)) in cc

module _ (entries : List Entry) (read : Read) (key : List ℕ) (s : KeyValue) (st : Stands entries key s) where
  known : {X : Type 0} {o : Option X} {x : X} → o ≡ Some x → IsSome o
  known h = ap is_some h

  -- what is seen below the read, against the newest version there
  older : (p : Ts × Bor (Option (List ℕ))) → IsLastBelow s read.at (Some p) → (w : Version) → Sees entries read w → w.key ≡ key → IsBelow w.ts read.at →
      (¬ IsBelow p.0 w.ts) ⊎ ((i : Laid) × IsTold entries read key i w.ts)
  older p h w sees k b = elim (to_seen entries read key s st w sees k) as (λ _. (¬ IsBelow p.0 w.ts) ⊎ ((i : Laid) × IsTold entries read key i w.ts)) [
    | inl v ↦ inl (h.2 w.ts b (known v))
    | inr t ↦ inr (t.1, t.2)
  ]

  -- with no version there
  only_told : IsLastBelow s read.at None → (w : Version) → Sees entries read w → w.key ≡ key → IsBelow w.ts read.at → (i : Laid) × IsTold entries read key i w.ts
  only_told h w sees k b = elim (to_seen entries read key s st w sees k) as (λ _. (i : Laid) × IsTold entries read key i w.ts) [
    | inl v ↦ let none = h w.ts b in let no : None ≡ Some w.value = sym none ∙ v in cc
    | inr t ↦ (t.1, t.2)
  ]

  is_version : (p : Ts × Bor (Option (List ℕ))) → IsLastBelow s read.at (Some p) → Sees entries read (version_of key p.0 p.1.now)
  is_version p h = from_seen entries read key s st p.0 p.1.now (inl h.1)

  is_told : (t : Ts × Bor (Option (List ℕ))) → IsToldBelow entries read key (Some t) → version_at t.0 s ≡ None → Sees entries read (version_of key t.0 t.1.now)
  is_told t h n = from_seen entries read key s st t.0 t.1.now (inr (n, h.1, h.2, h.3))

  pub newest_of : (v t : Option (Ts × Bor (Option (List ℕ)))) → IsLastBelow s read.at v → IsToldBelow entries read key t → IsNewestAt entries read key (later_of v t)
  newest_of None None h k = λ w sees e b. let told = only_told h w sees e b in k told.0 w.ts told.1 b
  newest_of None (Some t) h k = record {
    seen = is_told t k (h t.0 k.0);
    below = k.0;
    newest = λ w sees e b l. let told = only_told h w sees e b in not_itself t.0 (subst (λ (x : Ts). IsBelow t.0 x) (k.4 told.0 w.ts told.1) l);
  }
  newest_of (Some p) None h k = record {
    seen = is_version p h;
    below = h.0;
    newest = λ w sees e b. elim (older p h w sees e b) as (λ _. ¬ IsBelow p.0 w.ts) [ inl n ↦ n | inr told ↦ absurd (k told.0 w.ts told.1 b) ];
  }
  newest_of (Some p) (Some t) h k = when (ts_lt p.0 t.0) refl
    where
      none_there : IsBelow p.0 t.0 → (o : Option (Option (List ℕ))) → version_at t.0 s ≡ o → version_at t.0 s ≡ None
      none_there l None is = is
      none_there l (Some x) is = absurd (h.2 t.0 k.0 (known is) l)

      when : (c : Bool) → ts_lt p.0 t.0 ≡ c → IsNewestAt entries read key (cond c (Some t) (Some p))
      when true lt = record {
        seen = is_told t k (none_there (lt_below p.0 t.0 lt) (version_at t.0 s) refl);
        below = k.0;
        newest = λ w sees e b l. elim (older p h w sees e b) [
          | inl n ↦ n (below_trans p.0 t.0 w.ts (lt_below p.0 t.0 lt) l)
          | inr told ↦ not_itself t.0 (subst (λ (x : Ts). IsBelow t.0 x) (k.4 told.0 w.ts told.1) l)
        ];
      }
      when false lt = record {
        seen = is_version p h;
        below = h.0;
        newest = λ w sees e b l. elim (older p h w sees e b) [
          | inl n ↦ n l
          | inr told ↦ not_lt_below p.0 t.0 lt (subst (λ (x : Ts). IsBelow p.0 x) (k.4 told.0 w.ts told.1) l)
        ];
      }

-- the newest as a row
pub row_of : (entries : List Entry) (read : Read) (key : List ℕ) (t : Ts) (x : Option (List ℕ)) (o : Option (Bor (List ℕ))) → option_copied o ≡ x →
    IsNewest entries read (version_of key t x) → IsTheRow entries read key o
row_of entries read key t x None is n = no_row entries read key t (subst (λ (y : Option (List ℕ)). IsNewest entries read (version_of key t y)) (sym is) n)
row_of entries read key t x (Some b) is n = (t, subst (λ (y : Option (List ℕ)). IsNewest entries read (version_of key t y)) (sym is) n)

-- nothing is seen below the read
pub row_none : (entries : List Entry) (read : Read) (key : List ℕ) → IsNewestAt entries read key None → IsTheRow entries read key None
row_none entries read key h = λ value row. h (version_of key row.0 (Some value)) row.1.seen refl row.1.below
