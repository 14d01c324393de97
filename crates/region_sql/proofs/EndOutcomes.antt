-- The same of lists that may end with their separator.
use Rattle.std.proofs.Common.{◌≡◌, ◌≤◌, ◌<◌, ◌-◌, ℕ, zero, suc, Bool, true, false, cond, List, [], ◌∷◌, ◌++◌, length, Result, Ok, Err, refl, sym, ap, subst, ◌∙◌, inl, inr, nat_eq, append_assoc, arith}
use Rattle.std.proofs.lemmas.Bool.{eqb-true}
use Rattle.region_sql.specs.declared.tokens.Token.{Token}
use Rattle.region_sql.specs.Tokens.{kind_of}
use Rattle.region_sql.specs.Forms.{AreEnded}
use Rattle.region_sql.specs.Reading.{◌>>=◌, begins, onward_at, ended_at}
use Rattle.region_sql.proofs.Exact.{ended-cons}
use Rattle.region_sql.proofs.Outcomes.{Alike, alike-front, begins-alike, Reader, Outcome}
use Rattle.region_sql.proofs.ListOutcomes.{Takes, OneRead}

-- ---- lists that may end with their separator

end-more-fuel : {A : Type 0} (kind : ℕ) (firsts : List ℕ) (f g : Reader (List A)) (v : A) (rest : List Token) (n : ℕ) → length rest ≤ suc n
    → ((us : List Token) → length us ≤ n → f us ≡ g us) → onward_at kind firsts f v rest ≡ onward_at kind firsts g v rest
end-more-fuel kind firsts f g v [] n le h = refl
end-more-fuel kind firsts f g v (t ∷ ts) n le h = ap (λ o. cond (nat_eq kind (kind_of t)) (cond (begins firsts ts) (o >>= λ vs. Ok (v ∷ vs.0, vs.1)) (Ok (v ∷ [], ts))) (Ok (v ∷ [], t ∷ ts))) (h ts (omega arith))

end-fuel : {A : Type 0} (kind : ℕ) (firsts : List ℕ) (r : Reader A) → Takes r → (n m : ℕ) (ts : List Token) → length ts ≤ n → length ts ≤ m → ended_at n kind firsts r ts ≡ ended_at m kind firsts r ts
unfolding ended_at
end-fuel kind firsts r takes zero zero ts a b = refl
end-fuel kind firsts r takes zero (suc m) [] a b = sym (ap (λ o. o >>= λ x. onward_at kind firsts (ended_at m kind firsts r) x.0 x.1) takes.1)
end-fuel kind firsts r takes zero (suc m) (t ∷ ts) a b = absurd (omega arith)
end-fuel kind firsts r takes (suc n) zero [] a b = ap (λ o. o >>= λ x. onward_at kind firsts (ended_at n kind firsts r) x.0 x.1) takes.1
end-fuel kind firsts r takes (suc n) zero (t ∷ ts) a b = absurd (omega arith)
end-fuel {A = A} kind firsts r takes (suc n) (suc m) ts a b =
    elim (r ts) as (λ (o : Result (A × List Token) ℕ). r ts ≡ o → (o >>= λ x. onward_at kind firsts (ended_at n kind firsts r) x.0 x.1) ≡ (o >>= λ x. onward_at kind firsts (ended_at m kind firsts r) x.0 x.1)) [
      | Ok x ↦ λ e.
          let less : length x.1 < length ts = takes.0 ts x e in
          let both : (us : List Token) → length us ≤ length x.1 - 1 → ended_at n kind firsts r us ≡ ended_at m kind firsts r us = λ us le. end-fuel kind firsts r takes n m us (omega arith) (omega arith) in
          end-more-fuel kind firsts (ended_at n kind firsts r) (ended_at m kind firsts r) x.0 x.1 (length x.1 - 1) (omega arith) both
      | Err k ↦ λ e. refl
    ] refl

abbrev pub ended_all : {A : Type 0} → ℕ → List ℕ → Reader A → Reader (List A)
ended_all kind firsts r us = ended_at (length us) kind firsts r us

-- Reading a list is reading one value, and then more.
end-opened : {A : Type 0} (kind : ℕ) (firsts : List ℕ) (r : Reader A) → Takes r → (us : List Token) → ended_all kind firsts r us ≡ (r us >>= λ x. onward_at kind firsts (ended_all kind firsts r) x.0 x.1)
unfolding ended_at
end-opened {A = A} kind firsts r takes us =
    end-fuel kind firsts r takes (length us) (suc (length us)) us (omega arith) (omega arith)
    ∙ elim (r us) as (λ (o : Result (A × List Token) ℕ). r us ≡ o → (o >>= λ x. onward_at kind firsts (ended_at (length us) kind firsts r) x.0 x.1) ≡ (o >>= λ x. onward_at kind firsts (ended_all kind firsts r) x.0 x.1)) [
      | Ok x ↦ λ e.
          let less : length x.1 < length us = takes.0 us x e in
          let both : (ws : List Token) → length ws ≤ length us → ended_at (length us) kind firsts r ws ≡ ended_all kind firsts r ws = λ ws le. end-fuel kind firsts r takes (length us) (length ws) ws le (omega arith) in
          end-more-fuel kind firsts (ended_at (length us) kind firsts r) (ended_all kind firsts r) x.0 x.1 (length us) (omega arith) both
      | Err k ↦ λ e. refl
    ] refl

abbrev onward_then : {A : Type 0} → ℕ → List ℕ → Reader A → A × List Token → Result (List A × List Token) ℕ
onward_then kind firsts r x = onward_at kind firsts (ended_all kind firsts r) x.0 x.1

-- What is read at these tokens is what one value and then more come to.
end-reads-so : {A : Type 0} (kind : ℕ) (firsts : List ℕ) (r : Reader A) → Takes r → (us : List Token) (x : A × List Token) → r us ≡ Ok x → ended_all kind firsts r us ≡ onward_at kind firsts (ended_all kind firsts r) x.0 x.1
end-reads-so kind firsts r takes us x e = end-opened kind firsts r takes us ∙ ap (λ o. o >>= λ y. onward_then kind firsts r y) e

end-no-mark : {A : Type 0} (kind : ℕ) (firsts : List ℕ) (next : Reader (List A)) (v : A) (t : Token) (ts rest : List Token) → nat_eq kind (kind_of t) ≡ false → Alike (t ∷ ts) rest → onward_at kind firsts next v rest ≡ Ok (v ∷ [], rest)
end-no-mark kind firsts next v t ts [] e al = absurd al
end-no-mark kind firsts next v t ts (u ∷ us) e al = ap (λ b. cond b (cond (begins firsts us) (next us >>= λ vs. Ok (v ∷ vs.0, vs.1)) (Ok (v ∷ [], us))) (Ok (v ∷ [], u ∷ us))) (ap (λ w. nat_eq kind (kind_of w)) (sym al) ∙ e)

end-is-mark : {A : Type 0} (kind : ℕ) (firsts : List ℕ) (next : Reader (List A)) (v : A) (t : Token) (us : List Token) (b : Bool) → nat_eq kind (kind_of t) ≡ true → begins firsts us ≡ b
    → onward_at kind firsts next v (t ∷ us) ≡ cond b (next us >>= λ vs. Ok (v ∷ vs.0, vs.1)) (Ok (v ∷ [], us))
end-is-mark kind firsts next v t us b e s =
    ap (λ c. cond c (cond (begins firsts us) (next us >>= λ vs. Ok (v ∷ vs.0, vs.1)) (Ok (v ∷ [], us))) (Ok (v ∷ [], t ∷ us))) e
    ∙ ap (λ c. cond c (next us >>= λ vs. Ok (v ∷ vs.0, vs.1)) (Ok (v ∷ [], us))) s

-- After one value and a separator: what the rest comes to.
end-after-mark : {A : Type 0} (kind : ℕ) (firsts : List ℕ) (r : Reader A) (F : A → List Token → Type 0) → Takes r → (ts : List Token) (v : A) (t : Token) (us : List Token)
    → OneRead r F ts v (t ∷ us) → nat_eq kind (kind_of t) ≡ true → begins firsts us ≡ true
    → (o : Result (List A × List Token) ℕ) → Outcome (ended_all kind firsts r) (AreEnded kind F) us o
    → Outcome (ended_all kind firsts r) (AreEnded kind F) ts (o >>= λ vs. Ok (v ∷ vs.0, vs.1))
end-after-mark kind firsts r F takes ts v t us p m s (Ok y) q = (
  p.0 ++ t ∷ q.0,
  p.1 ∙ ap (λ ws. p.0 ++ t ∷ ws) q.1 ∙ sym (append_assoc p.0 (t ∷ q.0) y.1),
  ended-cons kind F v y.0 p.0 t q.0 p.2 (sym (eqb-true kind (kind_of t) m)) q.2,
  λ rest al.
      ap (ended_all kind firsts r) (append_assoc p.0 (t ∷ q.0) rest)
      ∙ end-reads-so kind firsts r takes (p.0 ++ t ∷ (q.0 ++ rest)) (v, t ∷ (q.0 ++ rest)) (p.3 (t ∷ (q.0 ++ rest)) refl)
      ∙ end-is-mark kind firsts (ended_all kind firsts r) v t (q.0 ++ rest) true m (begins-alike firsts us (q.0 ++ rest) (subst (λ (ws : List Token). Alike ws (q.0 ++ rest)) (sym q.1) (alike-front q.0 y.1 rest al)) ∙ s)
      ∙ ap (λ o. o >>= λ vs. Ok (v ∷ vs.0, vs.1)) (q.3 rest al),
)
end-after-mark kind firsts r F takes ts v t us p m s (Err k) q = (
  p.0 ++ t ∷ q.0,
  q.1,
  p.1 ∙ ap (λ ws. p.0 ++ t ∷ ws) q.2 ∙ sym (append_assoc p.0 (t ∷ q.0) q.1),
  q.3,
  (q.4.0, v ∷ q.4.1, subst (λ (ws : List Token). AreEnded kind F (v ∷ q.4.1) ws) (sym (append_assoc p.0 (t ∷ q.0) q.4.0)) (ended-cons kind F v q.4.1 p.0 t (q.0 ++ q.4.0) p.2 (sym (eqb-true kind (kind_of t) m)) q.4.2)),
  λ rest al.
      ap (ended_all kind firsts r) (append_assoc p.0 (t ∷ q.0) rest)
      ∙ end-reads-so kind firsts r takes (p.0 ++ t ∷ (q.0 ++ rest)) (v, t ∷ (q.0 ++ rest)) (p.3 (t ∷ (q.0 ++ rest)) refl)
      ∙ end-is-mark kind firsts (ended_all kind firsts r) v t (q.0 ++ rest) true m (begins-alike firsts us (q.0 ++ rest) (subst (λ (ws : List Token). Alike ws (q.0 ++ rest)) (sym q.2) (alike-front q.0 q.1 rest al)) ∙ s)
      ∙ ap (λ o. o >>= λ vs. Ok (v ∷ vs.0, vs.1)) (q.5 rest al),
)

end-at-end : {A : Type 0} (kind : ℕ) (firsts : List ℕ) (next : Reader (List A)) (v : A) (rest : List Token) → Alike [] rest → onward_at kind firsts next v rest ≡ Ok (v ∷ [], rest)
end-at-end kind firsts next v [] al = refl
end-at-end kind firsts next v (u ∷ us) al = absurd al

end-after-one : {A : Type 0} (kind : ℕ) (firsts : List ℕ) (r : Reader A) (F : A → List Token → Type 0) → Takes r → (n : ℕ)
    → ((us : List Token) → length us ≤ n → Outcome (ended_all kind firsts r) (AreEnded kind F) us (ended_all kind firsts r us))
    → (ts : List Token) (v : A) (after : List Token) → length after ≤ suc n → OneRead r F ts v after
    → Outcome (ended_all kind firsts r) (AreEnded kind F) ts (onward_at kind firsts (ended_all kind firsts r) v after)
end-after-one kind firsts r F takes n ih ts v [] le p =
    (p.0, p.1, inl p.2, λ rest al. end-reads-so kind firsts r takes (p.0 ++ rest) (v, rest) (p.3 rest al) ∙ end-at-end kind firsts (ended_all kind firsts r) v rest al)
end-after-one {A = A} kind firsts r F takes n ih ts v (t ∷ us) le p =
    elim (nat_eq kind (kind_of t)) as (λ b. nat_eq kind (kind_of t) ≡ b → Outcome (ended_all kind firsts r) (AreEnded kind F) ts (cond b (cond (begins firsts us) (ended_all kind firsts r us >>= λ vs. Ok (v ∷ vs.0, vs.1)) (Ok (v ∷ [], us))) (Ok (v ∷ [], t ∷ us)))) [
      | true ↦ λ m.
          elim (begins firsts us) as (λ c. begins firsts us ≡ c → Outcome (ended_all kind firsts r) (AreEnded kind F) ts (cond c (ended_all kind firsts r us >>= λ vs. Ok (v ∷ vs.0, vs.1)) (Ok (v ∷ [], us)))) [
            | true ↦ λ s. end-after-mark kind firsts r F takes ts v t us p m s (ended_all kind firsts r us) (ih us (omega arith))
            | false ↦ λ s. (
              p.0 ++ t ∷ [],
              p.1 ∙ sym (append_assoc p.0 (t ∷ []) us),
              inr (p.0, t, refl, sym (eqb-true kind (kind_of t) m), p.2),
              λ rest al.
                  ap (ended_all kind firsts r) (append_assoc p.0 (t ∷ []) rest)
                  ∙ end-reads-so kind firsts r takes (p.0 ++ t ∷ rest) (v, t ∷ rest) (p.3 (t ∷ rest) refl)
                  ∙ end-is-mark kind firsts (ended_all kind firsts r) v t rest false m (begins-alike firsts us rest al ∙ s),
            )
          ] refl
      | false ↦ λ m. (p.0, p.1, inl p.2, λ rest al. end-reads-so kind firsts r takes (p.0 ++ rest) (v, rest) (p.3 rest al) ∙ end-no-mark kind firsts (ended_all kind firsts r) v t us rest m al)
    ] refl

end-stuck-in-first : {A : Type 0} (kind : ℕ) (firsts : List ℕ) (r : Reader A) (F : A → List Token → Type 0) → Takes r → (ts : List Token) (k : ℕ) → Outcome r F ts (Err k)
    → Outcome (ended_all kind firsts r) (AreEnded kind F) ts (Err k)
end-stuck-in-first kind firsts r F takes ts k p = (
  p.0,
  p.1,
  p.2,
  p.3,
  (p.4.0, p.4.1 ∷ [], inl p.4.2),
  λ rest al. end-opened kind firsts r takes (p.0 ++ rest) ∙ ap (λ o. o >>= λ y. onward_then kind firsts r y) (p.5 rest al),
)

end-first-of-list : {A : Type 0} (kind : ℕ) (firsts : List ℕ) (r : Reader A) (F : A → List Token → Type 0) → Takes r → (n : ℕ)
    → ((us : List Token) → length us ≤ n → Outcome (ended_all kind firsts r) (AreEnded kind F) us (ended_all kind firsts r us))
    → (ts : List Token) (o : Result (A × List Token) ℕ) → r ts ≡ o → length ts ≤ suc n → Outcome r F ts o
    → Outcome (ended_all kind firsts r) (AreEnded kind F) ts (o >>= λ x. onward_at kind firsts (ended_all kind firsts r) x.0 x.1)
end-first-of-list kind firsts r F takes n ih ts (Ok x) e le p = let less = takes.0 ts x e in end-after-one kind firsts r F takes n ih ts x.0 x.1 (omega arith) p
end-first-of-list kind firsts r F takes n ih ts (Err k) e le p = end-stuck-in-first kind firsts r F takes ts k p

ended-up-to : {A : Type 0} (kind : ℕ) (firsts : List ℕ) (r : Reader A) (F : A → List Token → Type 0) → Takes r → ((us : List Token) → Outcome r F us (r us))
    → (n : ℕ) (ts : List Token) → length ts ≤ n → Outcome (ended_all kind firsts r) (AreEnded kind F) ts (ended_all kind firsts r ts)
ended-up-to {A = A} kind firsts r F takes each zero [] le =
    subst (λ (o : Result (List A × List Token) ℕ). Outcome (ended_all kind firsts r) (AreEnded kind F) [] o) (sym (end-opened kind firsts r takes [] ∙ ap (λ o. o >>= λ y. onward_then kind firsts r y) takes.1))
    (end-stuck-in-first kind firsts r F takes [] 0 (subst (λ (o : Result (A × List Token) ℕ). Outcome r F [] o) takes.1 (each [])))
ended-up-to kind firsts r F takes each zero (t ∷ ts) le = absurd (omega arith)
ended-up-to {A = A} kind firsts r F takes each (suc n) ts le =
    subst (λ (o : Result (List A × List Token) ℕ). Outcome (ended_all kind firsts r) (AreEnded kind F) ts o) (sym (end-opened kind firsts r takes ts))
    (end-first-of-list kind firsts r F takes n (λ us small. ended-up-to kind firsts r F takes each n us small) ts (r ts) refl le (each ts))

pub ended-outcome : {A : Type 0} (kind : ℕ) (firsts : List ℕ) (r : Reader A) (F : A → List Token → Type 0) → Takes r → ((us : List Token) → Outcome r F us (r us))
    → (ts : List Token) → Outcome (ended_all kind firsts r) (AreEnded kind F) ts (ended_all kind firsts r ts)
ended-outcome kind firsts r F takes each ts = ended-up-to kind firsts r F takes each (length ts) ts (omega arith)
