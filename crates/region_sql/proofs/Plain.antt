-- Steps, tests and lists of kinds.
use Rattle.std.proofs.Common.{◌≡◌, ◌⊎◌, ℕ, Bool, true, false, cond, ◌||◌, List, [], ◌∷◌, ◌++◌, Option, Some, None, Result, Ok, Err, refl, ap, inl, inr, nat_eq}
use Rattle.region_sql.specs.declared.tokens.Token.{Token}
use Rattle.region_sql.specs.Tokens.{kind_of}
use Rattle.region_sql.specs.Reading.{◌>>=◌, has, begins, taken}

pub bind_ok : {A B : Type 0} (r : Result A ℕ) (f : A → Result B ℕ) (y : B) → (r >>= f) ≡ Ok y → (x : A) × (r ≡ Ok x) × (f x ≡ Ok y)
bind_ok (Ok x) f y e = (x, refl, e)
bind_ok (Err d) f y e = absurd cc

abbrev done : {A : Type 0} → A → Result A ℕ
done x = Ok x

pub ok_is : {A : Type 0} (x y : A) → done x ≡ done y → x ≡ y
ok_is x y e = cc

pub taken_ok : {A : Type 0} (o : Option A) (ts : List Token) (x : A × List Token) → taken o ts ≡ Ok x → (o ≡ Some x.0) × (ts ≡ x.1)
taken_ok None ts x e = absurd cc
taken_ok {A = A} (Some v) ts x e = let p : (v, ts) ≡ x = cc in (ap (λ (y : A × List Token). Some y.0) p, ap (λ (y : A × List Token). y.1) p)

pub chosen : {A : Type 0} (b : Bool) (x y z : A) → cond b x y ≡ z → ((b ≡ true) × (x ≡ z)) ⊎ ((b ≡ false) × (y ≡ z))
chosen true x y z e = inl (refl, e)
chosen false x y z e = inr (refl, e)

pub or-right : (a b : Bool) → b ≡ true → (a || b) ≡ true
or-right true b e = refl
or-right false b e = e

pub or-false : (a b : Bool) → (a || b) ≡ false → (a ≡ false) × (b ≡ false)
or-false true b e = absurd cc
or-false false b e = (refl, e)

pub or-no : (a : Bool) → (a || false) ≡ true → a ≡ true
or-no true e = refl
or-no false e = absurd cc

pub has-append : (xs ys : List ℕ) (k : ℕ) → has (xs ++ ys) k ≡ (has xs k || has ys k)
has-append [] ys k = refl
has-append (x ∷ xs) ys k = elim (nat_eq x k) as (λ b. (b || has (xs ++ ys) k) ≡ ((b || has xs k) || has ys k)) [ true ↦ refl | false ↦ has-append xs ys k ]

pub begins-kinds : (xs ys : List ℕ) (ts : List Token) → begins (xs ++ ys) ts ≡ (begins xs ts || begins ys ts)
begins-kinds xs ys [] = refl
begins-kinds xs ys (t ∷ ts) = has-append xs ys (kind_of t)

pub begins-tokens : (kinds : List ℕ) (ts us : List Token) → begins kinds ts ≡ true → begins kinds (ts ++ us) ≡ true
begins-tokens kinds [] us e = absurd cc
begins-tokens kinds (t ∷ ts) us e = e
