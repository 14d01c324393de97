-- A token of one kind, which says no more.
use Rattle.std.proofs.Common.{◌≡◌, ℕ, Bool, true, false, cond, ◌||◌, List, [], ◌∷◌, Some, None, Result, Ok, Err, length, drop, nat_eq, refl, sym, ap}
use Rattle.region_sql.specs.declared.tokens.Token.{Token}
use Rattle.region_sql.specs.Tokens.{kind_of}
use Rattle.region_sql.specs.Grammar.{of_kind}
use Rattle.region_sql.specs.Reading.{begins, parse, taken}

abbrev marked : Bool → List Token → Result (Unit {0} × List Token) ℕ
marked r ts = taken (cond r (Some tt) None) ts

marked-true : (r : Bool) (ts rest : List Token) → (r || false) ≡ true → rest ≡ ts → marked r ts ≡ Ok (tt, rest)
marked-true true ts rest b e = ap (λ (us : List Token). Ok (tt, us)) (sym e)
marked-true false ts rest b e = absurd cc

marked-false : (r : Bool) (t : Token) (ts : List Token) → (r || false) ≡ false → marked r ts ≡ Err (length (t ∷ ts))
marked-false true t ts b = absurd cc
marked-false false t ts b = refl

pub passed : (kind : ℕ) (ts rest : List Token) → begins (kind ∷ []) ts ≡ true → rest ≡ drop 1 ts → parse (of_kind kind) ts ≡ Ok (tt, rest)
passed kind [] rest b e = absurd cc
passed kind (t ∷ ts) rest b e = marked-true (nat_eq kind (kind_of t)) ts rest b e

pub stuck_before : (kind : ℕ) (ts : List Token) → begins (kind ∷ []) ts ≡ false → parse (of_kind kind) ts ≡ Err (length ts)
stuck_before kind [] b = refl
stuck_before kind (t ∷ ts) b = marked-false (nat_eq kind (kind_of t)) t ts b
