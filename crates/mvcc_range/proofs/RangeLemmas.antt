-- The versions of a key above and below a timestamp.
use Rattle.std.proofs.Common.{◌≡◌, ℕ, true, false, List, [], ◌∷◌, ◌++◌, Option, None, Some, is_some, inl, inr, subst, ap, sym}
use Rattle.std.specs.Borrow.{Bor}
use Rattle.std.specs.BTreeMap.{BTreeMap, IsUpperBound}
use Rattle.std.specs.BTreeMap.Range.{IsEntryInRange, IsRangeOf}
use Rattle.std.specs.Option.{IfSome}
use Rattle.std.specs.List.{slice_get}
use Rattle.std.specs.Ordering.{is_gt, is_lt}
use Rattle.std.specs.declared.cmp.Ordering.{Ordering}
use Rattle.std.specs.declared.cmp.Ordering.TheVariants.{Less, Equal, Greater}
use Rattle.std.specs.declared.ops.Bound.TheVariants.{Excluded, Unbounded}
use Rattle.mr_base.specs.Timestamps.{IsBelow}
use Rattle.mr_base.specs.declared.timestamps.Ts.{Ts}
use Rattle.mvcc_range.proofs.TsLemmas.{below_less, compared, less_below, not_both, not_itself}
use Rattle.mvcc_range.specs.KeyFacts.{IsFirstAbove, IsGreatestOf, IsLastBelow, ts_cmp, version_at}
use Rattle.mvcc_range.specs.KeyValue.{KeyValue}
use Rattle.mvcc_range.specs.declared.key_state.KeptIntent.{KeptIntent}

not_less : (a b : Ts) → is_lt (ts_cmp a b) ≡ false → ¬ IsBelow a b
not_less a b h l = let yes : is_lt (ts_cmp a b) ≡ true = ap is_lt (below_less a b l) in cc

greater_not : (r : Ordering) → is_gt r ≡ false → ¬ (r ≡ Greater)
greater_not Less h e = cc
greater_not Equal h e = cc
greater_not Greater h e = cc

module _ (m : BTreeMap Ts (Option (List ℕ))) (i : Option KeptIntent) (at : Ts) where
  abbrev state : KeyValue
  state = record { versions = m.entries; intent = i }

  pub first_of : (ts : Ts) (value : Option (List ℕ)) (r rest : List (Ts × Option (List ℕ))) → r ≡ (ts, value) ∷ rest → IsRangeOf ts_cmp (Excluded at) Unbounded m r → IsFirstAbove state at (Some ts)
  first_of ts value r rest is h =
      let first : IsEntryInRange ts_cmp (Excluded at) Unbounded m (ts, value) = subst (λ (xs : List (Ts × Option (List ℕ))). IfSome (slice_get xs 0) (IsEntryInRange ts_cmp (Excluded at) Unbounded m)) is h.1 in (
        less_below at ts first.0.0,
        ap is_some first.1,
        λ q b some l.
            let least : is_gt (ts_cmp ts q) ≡ false =
            subst (λ (xs : List (Ts × Option (List ℕ))). IfSome (slice_get xs 0) (λ e. is_gt (ts_cmp e.0 q) ≡ false)) is (h.2 q (below_less at q b, tt) some) in
            above_not ts q least l,
      )
    where
      above_not : (a b : Ts) → is_gt (ts_cmp a b) ≡ false → ¬ IsBelow b a
      above_not a b g l = elim (compared a b) [ inl k ↦ not_both a b k.1 l | inr (inl k) ↦ not_itself a (subst (λ (c : Ts). IsBelow c a) (sym k.1) l) | inr (inr k) ↦ greater_not (ts_cmp a b) g k.0 ]

  pub none_above : (r : List (Ts × Option (List ℕ))) → r ≡ [] → IsRangeOf ts_cmp (Excluded at) Unbounded m r → IsFirstAbove state at None
  none_above r is h = λ q b. h.5 is q (below_less at q b, tt)

  pub last_of : (ts : Ts) (value : Bor (Option (List ℕ))) (r rest : List (Ts × Option (List ℕ))) → r ≡ rest ++ (ts, value.now) ∷ [] → IsRangeOf ts_cmp Unbounded (Excluded at) m r → IsLastBelow state at (Some (ts, value))
  last_of ts value r rest is h =
      let last = h.3 (ts, value.now) rest is in (
        less_below ts at last.0.1,
        last.1,
        λ q b some. not_less ts q (h.4 (ts, value.now) rest is q (tt, below_less q at b) some),
      )

  pub none_below : (r : List (Ts × Option (List ℕ))) → r ≡ [] → IsRangeOf ts_cmp Unbounded (Excluded at) m r → IsLastBelow state at None
  none_below r is h = λ q b. h.5 is q (tt, below_less q at b)

  pub greatest_of : (ts : Ts) (value : Option (List ℕ)) → version_at ts state ≡ Some value → IsUpperBound ts_cmp m ts → IsGreatestOf state (Some ts)
  greatest_of ts value is h = (ap is_some is, λ q some. not_less ts q (h q some))
