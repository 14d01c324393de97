-- Reading a form from the front of a list of tokens: its value and the tokens after it, or how many
-- tokens are left where no form goes on.
use Rattle.std.specs.Prelude.{◌≡◌, ℕ, zero, suc, Bool, false, cond, ◌||◌, List, [], ◌∷◌, ◌++◌, length, Option, Some, None, Result, Ok, Err, nat_eq}
use Rattle.region_sql.specs.declared.tokens.Token.{Token}
use Rattle.region_sql.specs.declared.stuck.Stuck.{Stuck}
use Rattle.region_sql.specs.declared.stuck.Stuck.TheVariants as stuck
use Rattle.region_sql.specs.Tokens.{kind_of}
use Rattle.region_sql.specs.Forms.{Form, one, as_value, both, either, maybe, listed, ended}

infixl 10 ◌>>=◌
abbrev pub ◌>>=◌ : {A B : Type 0} → Result A ℕ → (A → Result B ℕ) → Result B ℕ
(Ok x) >>= f = f x
(Err k) >>= f = Err k

abbrev pub has : List ℕ → ℕ → Bool
has [] k = false
has (x ∷ xs) k = nat_eq x k || has xs k

-- Whether the first token is of one of these kinds.
abbrev pub begins : List ℕ → List Token → Bool
begins kinds [] = false
begins kinds (t ∷ ts) = has kinds (kind_of t)

-- The kinds of tokens with which a form begins.
abbrev pub first : {A : Type 0} → Form A → List ℕ
first (one kinds take) = kinds
first (as_value f h) = first f
first (both f g h) = first f
first (either f g) = first f ++ first g
first (maybe f) = first f
first (listed kind f) = first f
first (ended kind f) = first f

abbrev pub taken : {A : Type 0} → Option A → List Token → Result (A × List Token) ℕ
taken None ts = Err (suc (length ts))
taken (Some v) ts = Ok (v, ts)

abbrev pub one_at : {A : Type 0} → (Token → Option A) → List Token → Result (A × List Token) ℕ
one_at take [] = Err 0
one_at take (t ∷ ts) = taken (take t) ts

abbrev pub more_at : {A : Type 0} → ℕ → (List Token → Result (List A × List Token) ℕ) → A → List Token → Result (List A × List Token) ℕ
more_at kind next v [] = Ok (v ∷ [], [])
more_at kind next v (t ∷ ts) = cond (nat_eq kind (kind_of t)) (next ts >>= λ vs. Ok (v ∷ vs.0, vs.1)) (Ok (v ∷ [], t ∷ ts))

-- At most so many values.
unfoldable pub listed_at : {A : Type 0} → ℕ → ℕ → (List Token → Result (A × List Token) ℕ) → List Token → Result (List A × List Token) ℕ
listed_at zero kind read ts = Err (length ts)
listed_at (suc n) kind read ts = read ts >>= λ x. more_at kind (listed_at n kind read) x.0 x.1

abbrev pub onward_at : {A : Type 0} → ℕ → List ℕ → (List Token → Result (List A × List Token) ℕ) → A → List Token → Result (List A × List Token) ℕ
onward_at kind firsts next v [] = Ok (v ∷ [], [])
onward_at kind firsts next v (t ∷ ts) = cond (nat_eq kind (kind_of t)) (cond (begins firsts ts) (next ts >>= λ vs. Ok (v ∷ vs.0, vs.1)) (Ok (v ∷ [], ts))) (Ok (v ∷ [], t ∷ ts))

-- At most so many values, and maybe a token after the last.
unfoldable pub ended_at : {A : Type 0} → ℕ → ℕ → List ℕ → (List Token → Result (A × List Token) ℕ) → List Token → Result (List A × List Token) ℕ
ended_at zero kind firsts read ts = Err (length ts)
ended_at (suc n) kind firsts read ts = read ts >>= λ x. onward_at kind firsts (ended_at n kind firsts read) x.0 x.1

abbrev pub parse : {A : Type 0} → Form A → List Token → Result (A × List Token) ℕ
parse (one kinds take) ts = one_at take ts
parse (as_value f h) ts = parse f ts >>= λ x. Ok (h x.0, x.1)
parse (both f g h) ts = parse f ts >>= λ x. parse g x.1 >>= λ y. Ok (h x.0 y.0, y.1)
parse (either f g) ts = cond (begins (first f) ts) (parse f ts) (parse g ts)
parse (maybe f) ts = cond (begins (first f) ts) (parse f ts >>= λ x. Ok (Some x.0, x.1)) (Ok (None, ts))
parse (listed kind f) ts = listed_at (length ts) kind (λ us. parse f us) ts
parse (ended kind f) ts = ended_at (length ts) kind (first f) (λ us. parse f us) ts

-- All of the tokens.
abbrev pub whole : {A : Type 0} → Form A → List Token → Result A ℕ
whole f ts = parse f ts >>= λ x. cond (nat_eq (length x.1) 0) (Ok x.0) (Err (length x.1))

-- Why reading ends: want of memory, or so many tokens are left where no form goes on.
abbrev pub Fails : {Y : Type 0} → Stuck → Result Y ℕ → Type 0
Fails stuck.Memory read = Unit {0}
Fails (stuck.At left) read = read ≡ Err left

-- What a function returned, seen by view, is what reading gives, unless memory ran out.
abbrev pub Gives : {X Y : Type 0} → (X → Y) → Result X Stuck → Result Y ℕ → Type 0
Gives view (Ok x) read = read ≡ Ok (view x)
Gives view (Err e) read = Fails e read
