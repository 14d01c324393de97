-- The order of timestamps, as keys and as times.
use Rattle.std.proofs.Common.{◌≡◌, ◌≢◌, ◌⊎◌, ◌<◌, Bool, true, false, cond, Option, None, Some, inl, inr, arith, refl, subst, sym, ap}
use Rattle.std.proofs.lemmas.Bool.Decides.{nat_tests}
use Rattle.std.proofs.lemmas.Cmp.{by_ranked, ranked}
use Rattle.std.specs.Ordering.{is_eq, nat_cmp}
use Rattle.std.specs.declared.cmp.Ordering.TheVariants.{Less, Equal, Greater}
use Rattle.mr_base.specs.Timestamps.{IsBelow, ts_lt}
use Rattle.mr_base.specs.declared.timestamps.Ts.{Ts}
use Rattle.mvcc_range.specs.KeyFacts.{same_ts, ts_cmp}
use Rattle.mvcc_range.specs.KeyView.{IsLeast, lesser_of}

same_parts : (a b : Ts) → a.wall ≡ b.wall → a.logical ≡ b.logical → a.owner ≡ b.owner → a ≡ b
same_parts a b w l o = λ i. record { wall = w i; logical = l i; owner = o i }

pub not_itself : (a : Ts) → ¬ IsBelow a a
not_itself a h = grind arith

pub below_trans : (a b c : Ts) → IsBelow a b → IsBelow b c → IsBelow a c
below_trans a b c h k = grind arith

pub not_both : (a b : Ts) → IsBelow a b → ¬ IsBelow b a
not_both a b h k = grind arith

-- below, the same or above
abbrev pub Compared : Ts → Ts → Type 0
Compared a b = ((ts_cmp a b ≡ Less) × IsBelow a b) ⊎ (((ts_cmp a b ≡ Equal) × (a ≡ b)) ⊎ ((ts_cmp a b ≡ Greater) × IsBelow b a))

pub compared : (a b : Ts) → Compared a b
compared a b =
    by_ranked (a.wall < b.wall) (a.wall ≡ b.wall) (b.wall < a.wall) (nat_cmp a.wall b.wall) (ranked a.wall b.wall (nat_cmp a.wall b.wall) refl)
    (λ e l. inl (rw e refl, inl l))
    (λ e w. by_ranked (a.logical < b.logical) (a.logical ≡ b.logical) (b.logical < a.logical) (nat_cmp a.logical b.logical) (ranked a.logical b.logical (nat_cmp a.logical b.logical) refl)
    (λ f l. inl (rw (e, f) refl, inr (w, inl l)))
    (λ f m. by_ranked (a.owner < b.owner) (a.owner ≡ b.owner) (b.owner < a.owner) (nat_cmp a.owner b.owner) (ranked a.owner b.owner (nat_cmp a.owner b.owner) refl)
    (λ g l. inl (rw (e, f, g) refl, inr (w, inr (m, l))))
    (λ g o. inr (inl (rw (e, f, g) refl, same_parts a b w m o)))
    (λ g l. inr (inr (rw (e, f, g) refl, inr (sym w, inr (sym m, l))))))
    (λ f l. inr (inr (rw (e, f) refl, inr (sym w, inl l)))))
    (λ e l. inr (inr (rw e refl, inl l)))

pub less_below : (a b : Ts) → ts_cmp a b ≡ Less → IsBelow a b
less_below a b h = elim (compared a b) as (λ _. IsBelow a b) [ inl k ↦ k.1 | inr (inl k) ↦ let e = k.0 in cc | inr (inr k) ↦ let e = k.0 in cc ]

pub below_less : (a b : Ts) → IsBelow a b → ts_cmp a b ≡ Less
below_less a b h = elim (compared a b) as (λ _. ts_cmp a b ≡ Less) [
  | inl k ↦ k.0
  | inr (inl k) ↦ absurd (not_itself a (subst (λ (c : Ts). IsBelow a c) (sym k.1) h))
  | inr (inr k) ↦ absurd (not_both a b h k.1)
]

pub ts_or_not : (a b : Ts) → ((same_ts a b ≡ true) × (a ≡ b)) ⊎ ((same_ts a b ≡ false) × (a ≢ b))
ts_or_not a b = elim (compared a b) as (λ _. ((same_ts a b ≡ true) × (a ≡ b)) ⊎ ((same_ts a b ≡ false) × (a ≢ b))) [
  | inl k ↦ inr (ap is_eq k.0, λ e. not_itself a (subst (λ (c : Ts). IsBelow a c) (sym e) k.1))
  | inr (inl k) ↦ inl (ap is_eq k.0, k.1)
  | inr (inr k) ↦ inr (ap is_eq k.0, λ e. not_itself b (subst (λ (c : Ts). IsBelow b c) e k.1))
]

pub lt_below : (a b : Ts) → ts_lt a b ≡ true → IsBelow a b
lt_below a b h = grind (arith, nat_tests)

pub not_lt_below : (a b : Ts) → ts_lt a b ≡ false → ¬ IsBelow a b
not_lt_below a b h k = grind (arith, nat_tests)

-- the least of two kinds of timestamps is the lesser of the least of each
pub least_of_two : (P Q : Ts → Type 0) (a b : Option Ts) → IsLeast P a → IsLeast Q b → IsLeast (λ t. P t ⊎ Q t) (lesser_of a b)
least_of_two P Q None None p q = λ t x. elim x [ inl h ↦ p t h | inr h ↦ q t h ]
least_of_two P Q None (Some y) p q = (inr q.0, λ t x. elim x [ inl h ↦ absurd (p t h) | inr h ↦ q.1 t h ])
least_of_two P Q (Some x) None p q = (inl p.0, λ t x. elim x [ inl h ↦ p.1 t h | inr h ↦ absurd (q t h) ])
least_of_two P Q (Some x) (Some y) p q = when (ts_lt y x) refl
  where
    when : (b : Bool) → ts_lt y x ≡ b → IsLeast (λ t. P t ⊎ Q t) (Some (cond b y x))
    when true h = (inr q.0, λ t u. elim u [ inl k ↦ λ (l : IsBelow t y). p.1 t k (below_trans t y x l (lt_below y x h)) | inr k ↦ q.1 t k ])
    when false h = (inl p.0, λ t u. elim u [ inl k ↦ p.1 t k | inr k ↦ λ (l : IsBelow t x). other t k l (compared x y) ])
      where
        other : (t : Ts) → Q t → IsBelow t x → Compared x y → ⊥
        other t k l (inl c) = q.1 t k (below_trans t x y l c.1)
        other t k l (inr (inl c)) = q.1 t k (subst (λ (z : Ts). IsBelow t z) c.1 l)
        other t k l (inr (inr c)) = not_lt_below y x h c.1

-- the least of one kind is that of a kind that says the same
pub least_same : (P Q : Ts → Type 0) (o : Option Ts) → ((t : Ts) → P t → Q t) → ((t : Ts) → Q t → P t) → IsLeast P o → IsLeast Q o
least_same P Q None to back h = λ t q. h t (back t q)
least_same P Q (Some x) to back h = (to x h.0, λ t q. h.1 t (back t q))
