-- The same of lists.
use Rattle.std.proofs.Common.{◌≡◌, ◌≤◌, ◌<◌, ◌-◌, ℕ, zero, suc, true, false, cond, List, [], ◌∷◌, ◌++◌, length, Result, Ok, Err, refl, sym, ap, subst, ◌∙◌, nat_eq, append_assoc, arith}
use Rattle.std.proofs.lemmas.Bool.{eqb-true}
use Rattle.region_sql.specs.declared.tokens.Token.{Token}
use Rattle.region_sql.specs.Tokens.{kind_of}
use Rattle.region_sql.specs.Forms.{AreListed}
use Rattle.region_sql.specs.Reading.{◌>>=◌, more_at, listed_at}
use Rattle.region_sql.proofs.Exact.{listed-cons}
use Rattle.region_sql.proofs.Outcomes.{Alike, Reader, Outcome}

-- A reader that takes at least one token, and is stuck where there is none.
abbrev pub Takes : {A : Type 0} → Reader A → Type 0
Takes {A = A} r = ((ts : List Token) (x : A × List Token) → r ts ≡ Ok x → length x.1 < length ts) × (r [] ≡ Err 0)

-- ---- lists with a separator

more-fuel : {A : Type 0} (kind : ℕ) (f g : Reader (List A)) (v : A) (rest : List Token) (n : ℕ) → length rest ≤ suc n
    → ((us : List Token) → length us ≤ n → f us ≡ g us) → more_at kind f v rest ≡ more_at kind g v rest
more-fuel kind f g v [] n le h = refl
more-fuel kind f g v (t ∷ ts) n le h = ap (λ o. cond (nat_eq kind (kind_of t)) (o >>= λ vs. Ok (v ∷ vs.0, vs.1)) (Ok (v ∷ [], t ∷ ts))) (h ts (omega arith))

fuel : {A : Type 0} (kind : ℕ) (r : Reader A) → Takes r → (n m : ℕ) (ts : List Token) → length ts ≤ n → length ts ≤ m → listed_at n kind r ts ≡ listed_at m kind r ts
unfolding listed_at
fuel kind r takes zero zero ts a b = refl
fuel kind r takes zero (suc m) [] a b = sym (ap (λ o. o >>= λ x. more_at kind (listed_at m kind r) x.0 x.1) takes.1)
fuel kind r takes zero (suc m) (t ∷ ts) a b = absurd (omega arith)
fuel kind r takes (suc n) zero [] a b = ap (λ o. o >>= λ x. more_at kind (listed_at n kind r) x.0 x.1) takes.1
fuel kind r takes (suc n) zero (t ∷ ts) a b = absurd (omega arith)
fuel {A = A} kind r takes (suc n) (suc m) ts a b =
    elim (r ts) as (λ (o : Result (A × List Token) ℕ). r ts ≡ o → (o >>= λ x. more_at kind (listed_at n kind r) x.0 x.1) ≡ (o >>= λ x. more_at kind (listed_at m kind r) x.0 x.1)) [
      | Ok x ↦ λ e.
          let less : length x.1 < length ts = takes.0 ts x e in
          let both : (us : List Token) → length us ≤ length x.1 - 1 → listed_at n kind r us ≡ listed_at m kind r us = λ us le. fuel kind r takes n m us (omega arith) (omega arith) in
          more-fuel kind (listed_at n kind r) (listed_at m kind r) x.0 x.1 (length x.1 - 1) (omega arith) both
      | Err k ↦ λ e. refl
    ] refl

abbrev pub listed_all : {A : Type 0} → ℕ → Reader A → Reader (List A)
listed_all kind r us = listed_at (length us) kind r us

-- Reading a list is reading one value, and then more.
opened : {A : Type 0} (kind : ℕ) (r : Reader A) → Takes r → (us : List Token) → listed_all kind r us ≡ (r us >>= λ x. more_at kind (listed_all kind r) x.0 x.1)
unfolding listed_at
opened {A = A} kind r takes us =
    fuel kind r takes (length us) (suc (length us)) us (omega arith) (omega arith)
    ∙ elim (r us) as (λ (o : Result (A × List Token) ℕ). r us ≡ o → (o >>= λ x. more_at kind (listed_at (length us) kind r) x.0 x.1) ≡ (o >>= λ x. more_at kind (listed_all kind r) x.0 x.1)) [
      | Ok x ↦ λ e.
          let less : length x.1 < length us = takes.0 us x e in
          let both : (ws : List Token) → length ws ≤ length us → listed_at (length us) kind r ws ≡ listed_all kind r ws = λ ws le. fuel kind r takes (length us) (length ws) ws le (omega arith) in
          more-fuel kind (listed_at (length us) kind r) (listed_all kind r) x.0 x.1 (length us) (omega arith) both
      | Err k ↦ λ e. refl
    ] refl

abbrev more_then : {A : Type 0} → ℕ → Reader A → A × List Token → Result (List A × List Token) ℕ
more_then kind r x = more_at kind (listed_all kind r) x.0 x.1

-- What is read at these tokens is what one value and then more come to.
reads-so : {A : Type 0} (kind : ℕ) (r : Reader A) → Takes r → (us : List Token) (x : A × List Token) → r us ≡ Ok x → listed_all kind r us ≡ more_at kind (listed_all kind r) x.0 x.1
reads-so kind r takes us x e = opened kind r takes us ∙ ap (λ o. o >>= λ y. more_then kind r y) e

no-mark : {A : Type 0} (kind : ℕ) (next : Reader (List A)) (v : A) (t : Token) (ts rest : List Token) → nat_eq kind (kind_of t) ≡ false → Alike (t ∷ ts) rest → more_at kind next v rest ≡ Ok (v ∷ [], rest)
no-mark kind next v t ts [] e al = absurd al
no-mark kind next v t ts (u ∷ us) e al = ap (λ b. cond b (next us >>= λ vs. Ok (v ∷ vs.0, vs.1)) (Ok (v ∷ [], u ∷ us))) (ap (λ w. nat_eq kind (kind_of w)) (sym al) ∙ e)

is-mark : {A : Type 0} (kind : ℕ) (next : Reader (List A)) (v : A) (t : Token) (us : List Token) → nat_eq kind (kind_of t) ≡ true → more_at kind next v (t ∷ us) ≡ (next us >>= λ vs. Ok (v ∷ vs.0, vs.1))
is-mark kind next v t us e = ap (λ b. cond b (next us >>= λ vs. Ok (v ∷ vs.0, vs.1)) (Ok (v ∷ [], t ∷ us))) e

abbrev pub OneRead : {A : Type 0} → Reader A → (A → List Token → Type 0) → List Token → A → List Token → Type 0
OneRead r F ts v after = Outcome r F ts (Ok (v, after))

-- After one value and a separator: what the rest comes to.
after-mark : {A : Type 0} (kind : ℕ) (r : Reader A) (F : A → List Token → Type 0) → Takes r → (ts : List Token) (v : A) (t : Token) (us : List Token)
    → OneRead r F ts v (t ∷ us) → nat_eq kind (kind_of t) ≡ true
    → (o : Result (List A × List Token) ℕ) → Outcome (listed_all kind r) (AreListed kind F) us o
    → Outcome (listed_all kind r) (AreListed kind F) ts (o >>= λ vs. Ok (v ∷ vs.0, vs.1))
after-mark kind r F takes ts v t us p m (Ok y) q = (
  p.0 ++ t ∷ q.0,
  p.1 ∙ ap (λ ws. p.0 ++ t ∷ ws) q.1 ∙ sym (append_assoc p.0 (t ∷ q.0) y.1),
  listed-cons kind F v y.0 p.0 t q.0 p.2 (sym (eqb-true kind (kind_of t) m)) q.2,
  λ rest al.
      ap (listed_all kind r) (append_assoc p.0 (t ∷ q.0) rest)
      ∙ reads-so kind r takes (p.0 ++ t ∷ (q.0 ++ rest)) (v, t ∷ (q.0 ++ rest)) (p.3 (t ∷ (q.0 ++ rest)) refl)
      ∙ is-mark kind (listed_all kind r) v t (q.0 ++ rest) m
      ∙ ap (λ o. o >>= λ vs. Ok (v ∷ vs.0, vs.1)) (q.3 rest al),
)
after-mark kind r F takes ts v t us p m (Err k) q = (
  p.0 ++ t ∷ q.0,
  q.1,
  p.1 ∙ ap (λ ws. p.0 ++ t ∷ ws) q.2 ∙ sym (append_assoc p.0 (t ∷ q.0) q.1),
  q.3,
  (q.4.0, v ∷ q.4.1, subst (λ (ws : List Token). AreListed kind F (v ∷ q.4.1) ws) (sym (append_assoc p.0 (t ∷ q.0) q.4.0)) (listed-cons kind F v q.4.1 p.0 t (q.0 ++ q.4.0) p.2 (sym (eqb-true kind (kind_of t) m)) q.4.2)),
  λ rest al.
      ap (listed_all kind r) (append_assoc p.0 (t ∷ q.0) rest)
      ∙ reads-so kind r takes (p.0 ++ t ∷ (q.0 ++ rest)) (v, t ∷ (q.0 ++ rest)) (p.3 (t ∷ (q.0 ++ rest)) refl)
      ∙ is-mark kind (listed_all kind r) v t (q.0 ++ rest) m
      ∙ ap (λ o. o >>= λ vs. Ok (v ∷ vs.0, vs.1)) (q.5 rest al),
)

at-end : {A : Type 0} (kind : ℕ) (next : Reader (List A)) (v : A) (rest : List Token) → Alike [] rest → more_at kind next v rest ≡ Ok (v ∷ [], rest)
at-end kind next v [] al = refl
at-end kind next v (u ∷ us) al = absurd al

after-one : {A : Type 0} (kind : ℕ) (r : Reader A) (F : A → List Token → Type 0) → Takes r → (n : ℕ)
    → ((us : List Token) → length us ≤ n → Outcome (listed_all kind r) (AreListed kind F) us (listed_all kind r us))
    → (ts : List Token) (v : A) (after : List Token) → length after ≤ suc n → OneRead r F ts v after
    → Outcome (listed_all kind r) (AreListed kind F) ts (more_at kind (listed_all kind r) v after)
after-one kind r F takes n ih ts v [] le p =
    (p.0, p.1, p.2, λ rest al. reads-so kind r takes (p.0 ++ rest) (v, rest) (p.3 rest al) ∙ at-end kind (listed_all kind r) v rest al)
after-one {A = A} kind r F takes n ih ts v (t ∷ us) le p =
    elim (nat_eq kind (kind_of t)) as (λ b. nat_eq kind (kind_of t) ≡ b → Outcome (listed_all kind r) (AreListed kind F) ts (cond b (listed_all kind r us >>= λ vs. Ok (v ∷ vs.0, vs.1)) (Ok (v ∷ [], t ∷ us)))) [
      | true ↦ λ m. after-mark kind r F takes ts v t us p m (listed_all kind r us) (ih us (omega arith))
      | false ↦ λ m. (p.0, p.1, p.2, λ rest al. reads-so kind r takes (p.0 ++ rest) (v, rest) (p.3 rest al) ∙ no-mark kind (listed_all kind r) v t us rest m al)
    ] refl

stuck-in-first : {A : Type 0} (kind : ℕ) (r : Reader A) (F : A → List Token → Type 0) → Takes r → (ts : List Token) (k : ℕ) → Outcome r F ts (Err k)
    → Outcome (listed_all kind r) (AreListed kind F) ts (Err k)
stuck-in-first kind r F takes ts k p = (
  p.0,
  p.1,
  p.2,
  p.3,
  (p.4.0, p.4.1 ∷ [], p.4.2),
  λ rest al. opened kind r takes (p.0 ++ rest) ∙ ap (λ o. o >>= λ y. more_then kind r y) (p.5 rest al),
)

first-of-list : {A : Type 0} (kind : ℕ) (r : Reader A) (F : A → List Token → Type 0) → Takes r → (n : ℕ)
    → ((us : List Token) → length us ≤ n → Outcome (listed_all kind r) (AreListed kind F) us (listed_all kind r us))
    → (ts : List Token) (o : Result (A × List Token) ℕ) → r ts ≡ o → length ts ≤ suc n → Outcome r F ts o
    → Outcome (listed_all kind r) (AreListed kind F) ts (o >>= λ x. more_at kind (listed_all kind r) x.0 x.1)
first-of-list kind r F takes n ih ts (Ok x) e le p = let less = takes.0 ts x e in after-one kind r F takes n ih ts x.0 x.1 (omega arith) p
first-of-list kind r F takes n ih ts (Err k) e le p = stuck-in-first kind r F takes ts k p

listed-up-to : {A : Type 0} (kind : ℕ) (r : Reader A) (F : A → List Token → Type 0) → Takes r → ((us : List Token) → Outcome r F us (r us))
    → (n : ℕ) (ts : List Token) → length ts ≤ n → Outcome (listed_all kind r) (AreListed kind F) ts (listed_all kind r ts)
listed-up-to {A = A} kind r F takes each zero [] le =
    subst (λ (o : Result (List A × List Token) ℕ). Outcome (listed_all kind r) (AreListed kind F) [] o) (sym (opened kind r takes [] ∙ ap (λ o. o >>= λ y. more_then kind r y) takes.1))
    (stuck-in-first kind r F takes [] 0 (subst (λ (o : Result (A × List Token) ℕ). Outcome r F [] o) takes.1 (each [])))
listed-up-to kind r F takes each zero (t ∷ ts) le = absurd (omega arith)
listed-up-to {A = A} kind r F takes each (suc n) ts le =
    subst (λ (o : Result (List A × List Token) ℕ). Outcome (listed_all kind r) (AreListed kind F) ts o) (sym (opened kind r takes ts))
    (first-of-list kind r F takes n (λ us small. listed-up-to kind r F takes each n us small) ts (r ts) refl le (each ts))

pub listed-outcome : {A : Type 0} (kind : ℕ) (r : Reader A) (F : A → List Token → Type 0) → Takes r → ((us : List Token) → Outcome r F us (r us))
    → (ts : List Token) → Outcome (listed_all kind r) (AreListed kind F) ts (listed_all kind r ts)
listed-outcome kind r F takes each ts = listed-up-to kind r F takes each (length ts) ts (omega arith)
