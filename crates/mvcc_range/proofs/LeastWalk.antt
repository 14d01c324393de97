-- The least timestamp over the keys of a span, one after the other.
use Rattle.std.proofs.Common.{◌≡◌, ◌⊎◌, Bool, true, false, cond, ℕ, List, [], ◌∷◌, Option, None, Some, inl, inr, refl, subst, sym}
use Rattle.std.specs.Option.{IfSome}
use Rattle.mr_base.specs.Spans.{InSpan}
use Rattle.mr_base.specs.Timestamps.{IsBelow, ts_lt}
use Rattle.mr_base.specs.declared.spans.Span.{Span}
use Rattle.mr_base.specs.declared.timestamps.Ts.{Ts}
use Rattle.mvcc_range.proofs.KeyOrder.{AreKeysOf, Has}
use Rattle.mvcc_range.proofs.TsLemmas.{below_trans, compared, lt_below, not_lt_below}
use Rattle.mvcc_range.specs.KeyFacts.{kept_at}
use Rattle.mvcc_range.specs.KeyValue.{KeyValue}
use Rattle.mvcc_range.specs.KeyView.{IsLeast, lesser_of}

-- a timestamp isn't below the least, which is there
abbrev pub IsFrom : Option Ts → Ts → Type 0
IsFrom None t = ⊥
IsFrom (Some m) t = ¬ IsBelow t m

from_lesser : (x y t : Ts) → (¬ IsBelow t x) ⊎ (¬ IsBelow t y) → IsFrom (lesser_of (Some x) (Some y)) t
from_lesser x y t h = when (ts_lt y x) refl h
  where
    when : (b : Bool) → ts_lt y x ≡ b → (¬ IsBelow t x) ⊎ (¬ IsBelow t y) → IsFrom (Some (cond b y x)) t
    when true lt (inl n) = λ l. n (below_trans t y x l (lt_below y x lt))
    when true lt (inr n) = n
    when false lt (inl n) = n
    when false lt (inr n) = λ l. elim (compared x y) [
      | inl c ↦ n (below_trans t x y l c.1)
      | inr (inl c) ↦ n (subst (λ (z : Ts). IsBelow t z) c.1 l)
      | inr (inr c) ↦ not_lt_below y x lt c.1
    ]

from_left : (a b : Option Ts) (t : Ts) → IsFrom a t → IsFrom (lesser_of a b) t
from_left None b t h = absurd h
from_left (Some x) None t h = h
from_left (Some x) (Some y) t h = from_lesser x y t (inl h)

from_right : (a b : Option Ts) (t : Ts) → IsFrom b t → IsFrom (lesser_of a b) t
from_right None b t h = h
from_right (Some x) None t h = absurd h
from_right (Some x) (Some y) t h = from_lesser x y t (inr h)

either_there : (P : Ts → Type 0) (a b : Option Ts) → IfSome a P → IfSome b P → IfSome (lesser_of a b) P
either_there P None b h k = k
either_there P (Some x) None h k = h
either_there P (Some x) (Some y) h k = elim (ts_lt y x) as (λ c. P (cond c y x)) [ true ↦ k | false ↦ h ]

module _ (At : List ℕ → Ts → Type 0) (span : Span) where
  abbrev pub InAll : Ts → Type 0
  InAll t = (q : List ℕ) × InSpan span q × At q t

  -- what is so on the way: the least of the keys that were passed
  pub record IsLeastSoFar (least : Option Ts) (ks : List (List ℕ)) : Type 0 where
    pub there : IfSome least InAll
    pub from : (q : List ℕ) (t : Ts) → InSpan span q → At q t → Has q ks ⊎ IsFrom least t

  pub at_first : (keys : List (List ℕ × KeyValue)) (ks : List (List ℕ)) → AreKeysOf keys span ks → ((q : List ℕ) → kept_at q keys ≡ None → (t : Ts) → ¬ At q t) → IsLeastSoFar None ks
  at_first keys ks are empty = record {
    there = tt;
    from = λ q t i h. elim (are.whole q i) as (λ _. Has q ks ⊎ IsFrom None t) [ inl k ↦ inl k | inr none ↦ absurd (empty q none t h) ];
  }

  pub further : (least o : Option Ts) (k : List ℕ) (ks : List (List ℕ)) → InSpan span k → IsLeastSoFar least (k ∷ ks) → IsLeast (At k) o → IsLeastSoFar (lesser_of least o) ks
  further least o k ks inside so is = record {
    there = either_there InAll least o so.there (here o is);
    from = λ q t i h. elim (so.from q t i h) as (λ _. Has q ks ⊎ IsFrom (lesser_of least o) t) [
      | inl (inl e) ↦ inr (from_right least o t (of_least o is t (subst (λ (p : List ℕ). At p t) e h)))
      | inl (inr left) ↦ inl left
      | inr f ↦ inr (from_left least o t f)
    ];
  }
    where
      here : (a : Option Ts) → IsLeast (At k) a → IfSome a InAll
      here None n = tt
      here (Some m) n = (k, inside, n.0)

      of_least : (a : Option Ts) → IsLeast (At k) a → (t : Ts) → At k t → IsFrom a t
      of_least None n t h = absurd (n t h)
      of_least (Some m) n t h = n.1 t h

  pub at_last : (least : Option Ts) → IsLeastSoFar least [] → IsLeast InAll least
  at_last None so = λ t h. all_passed (so.from h.0 t h.1 h.2)
    where
      all_passed : ⊥ ⊎ ⊥ → ⊥
      all_passed (inl n) = n
      all_passed (inr n) = n
  at_last (Some m) so = (so.there, λ t h. all_from t (so.from h.0 t h.1 h.2))
    where
      all_from : (t : Ts) → ⊥ ⊎ IsFrom (Some m) t → IsFrom (Some m) t
      all_from t (inl n) = absurd n
      all_from t (inr f) = f

  -- from the least so far and the keys that are left to the least of all
  abbrev pub LeastFrom : Option Ts → List (List ℕ) → Option Ts → Type 0
  LeastFrom least [] answer = answer ≡ least
  LeastFrom least (k ∷ ks) answer = (o : Option Ts) × IsLeast (At k) o × LeastFrom (lesser_of least o) ks answer

  pub least_walked : (least : Option Ts) (ks : List (List ℕ)) (answer : Option Ts) → ((q : List ℕ) → Has q ks → InSpan span q) → IsLeastSoFar least ks → LeastFrom least ks answer → IsLeast InAll answer
  least_walked least [] answer inside so is = subst (λ (a : Option Ts). IsLeast InAll a) (sym is) (at_last least so)
  least_walked least (k ∷ ks) answer inside so (o, is, rest) =
      least_walked (lesser_of least o) ks answer (λ q h. inside q (inr h)) (further least o k ks (inside k (inl refl)) so is) rest
