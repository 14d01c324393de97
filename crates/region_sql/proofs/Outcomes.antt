-- What reading a form from the front of any tokens comes to: where it is stuck, some tokens of the
-- form begin so, and what comes after the first token that it doesn't take makes no difference.
use Rattle.std.proofs.Common.{◌≡◌, ◌⊎◌, ℕ, Bool, true, false, cond, List, [], ◌∷◌, ◌++◌, length, Option, Some, None, Result, Ok, Err, refl, sym, ap, subst, ◌∙◌, inl, inr, append_assoc}
use Rattle.region_sql.specs.declared.tokens.Token.{Token}
use Rattle.region_sql.specs.Tokens.{kind_of}
use Rattle.region_sql.specs.Forms.{Form, one, as_value, both, either, maybe, listed, ended, Fits}
use Rattle.region_sql.specs.Reading.{◌>>=◌, has, begins, taken, one_at}

-- Nothing is left in both, or the same token is next.
abbrev pub Alike : List Token → List Token → Type 0
Alike [] [] = Unit {0}
Alike (t ∷ ts) (u ∷ us) = t ≡ u
Alike _ _ = ⊥

alike-self : (ts : List Token) → Alike ts ts
alike-self [] = tt
alike-self (t ∷ ts) = refl

pub alike-front : (front a b : List Token) → Alike a b → Alike (front ++ a) (front ++ b)
alike-front [] a b h = h
alike-front (t ∷ ts) a b h = refl

pub begins-alike : (kinds : List ℕ) (a b : List Token) → Alike a b → begins kinds b ≡ begins kinds a
begins-alike kinds [] [] h = refl
begins-alike kinds [] (u ∷ us) h = absurd h
begins-alike kinds (t ∷ ts) [] h = absurd h
begins-alike kinds (t ∷ ts) (u ∷ us) h = ap (λ w. has kinds (kind_of w)) (sym h)

-- Some tokens that fit begin so.
abbrev pub Viable : {A : Type 0} → (A → List Token → Type 0) → List Token → Type 0
Viable {A = A} F front = (more : List Token) × (v : A) × F v (front ++ more)

abbrev pub Reader : Type 0 → Type 0
Reader A = List Token → Result (A × List Token) ℕ

abbrev pub Outcome : {A : Type 0} → Reader A → (A → List Token → Type 0) → List Token → Result (A × List Token) ℕ → Type 0
Outcome r F ts (Ok x) = (front : List Token) × (ts ≡ front ++ x.1) × F x.0 front
    × ((rest : List Token) → Alike x.1 rest → r (front ++ rest) ≡ Ok (x.0, rest))
Outcome r F ts (Err k) = (front : List Token) × (back : List Token) × (ts ≡ front ++ back) × (length back ≡ k) × Viable F front
    × ((rest : List Token) → Alike back rest → r (front ++ rest) ≡ Err (length rest))

-- ---- some tokens that fit

-- Each single token has an example.
abbrev pub Sampled : {A : Type 0} → Form A → Type 0
Sampled (one {A = A} kinds take) = (t : Token) × (v : A) × (take t ≡ Some v)
Sampled (as_value f h) = Sampled f
Sampled (both f g h) = Sampled f × Sampled g
Sampled (either f g) = Sampled f × Sampled g
Sampled (maybe f) = Sampled f
Sampled (listed kind f) = Sampled f
Sampled (ended kind f) = Sampled f

abbrev pub Example : {A : Type 0} → (A → List Token → Type 0) → Type 0
Example {A = A} F = (v : A) × (ts : List Token) × F v ts

pub example : {A : Type 0} (f : Form A) → Sampled f → Example (λ v us. Fits f v us)
example (one kinds take) s = (s.1, s.0 ∷ [], (s.0, refl, s.2))
example (as_value f h) s = let e = example f s in (h e.0, e.1, (e.0, refl, e.2))
example (both f g h) s = let a = example f s.0 in let b = example g s.1 in (h a.0 b.0, a.1 ++ b.1, (a.0, b.0, a.1, b.1, refl, refl, a.2, b.2))
example (either f g) s = let e = example f s.0 in (e.0, e.1, inl e.2)
example (maybe f) s = (None, [], refl)
example (listed kind f) s = let e = example f s in (e.0 ∷ [], e.1, e.2)
example (ended kind f) s = let e = example f s in (e.0 ∷ [], e.1, inl e.2)

-- ---- one step

same-none : {A : Type 0} (take : Token → Option A) (t : Token) (ts : List Token) → take t ≡ None → (rest : List Token) → Alike (t ∷ ts) rest → one_at take rest ≡ Err (length rest)
same-none take t ts p [] h = absurd h
same-none take t ts p (u ∷ us) h = ap (λ o. taken o us) (ap take (sym h) ∙ p)

pub one-outcome : {A : Type 0} (kinds : List ℕ) (take : Token → Option A) → Example (λ v us. Fits (one kinds take) v us) → (ts : List Token)
    → Outcome (λ us. one_at take us) (λ v us. Fits (one kinds take) v us) ts (one_at take ts)
one-outcome {A = A} kinds take e [] = ([], [], refl, refl, (e.1, e.0, e.2), none)
  where
    none : (rest : List Token) → Alike [] rest → one_at take rest ≡ Err (length rest)
    none [] h = refl
    none (u ∷ us) h = absurd h
one-outcome {A = A} kinds take e (t ∷ ts) =
    elim (take t) as (λ (o : Option A). take t ≡ o → Outcome (λ us. one_at take us) (λ v us. Fits (one kinds take) v us) (t ∷ ts) (taken o ts)) [
      | None ↦ λ p. ([], t ∷ ts, refl, refl, (e.1, e.0, e.2), same-none take t ts p)
      | Some v ↦ λ p. (t ∷ [], refl, (t, refl, p), λ rest h. ap (λ o. taken o rest) p)
    ] refl

-- ---- a value made of another

pub value-outcome : {A B : Type 0} (r : Reader A) (F : A → List Token → Type 0) (h : A → B) (ts : List Token) (o : Result (A × List Token) ℕ) → Outcome r F ts o
    → Outcome (λ us. r us >>= λ x. Ok (h x.0, x.1)) (λ v us. (a : A) × (v ≡ h a) × F a us) ts (o >>= λ x. Ok (h x.0, x.1))
value-outcome r F h ts (Ok x) p = (p.0, p.1, (x.0, refl, p.2), λ rest al. ap (λ q. q >>= λ y. Ok (h y.0, y.1)) (p.3 rest al))
value-outcome r F h ts (Err k) p = (p.0, p.1, p.2, p.3, (p.4.0, h p.4.1, (p.4.1, refl, p.4.2)), λ rest al. ap (λ q. q >>= λ y. Ok (h y.0, y.1)) (p.5 rest al))

-- ---- one after the other

abbrev pub Both : {A B C : Type 0} → (A → List Token → Type 0) → (B → List Token → Type 0) → (A → B → C) → C → List Token → Type 0
Both {A = A} {B = B} F G h v ts = (a : A) × (b : B) × (front : List Token) × (back : List Token) × (v ≡ h a b) × (ts ≡ front ++ back) × F a front × G b back

abbrev pub both_at : {A B C : Type 0} → Reader A → Reader B → (A → B → C) → Reader C
both_at r s h us = r us >>= λ x. s x.1 >>= λ y. Ok (h x.0 y.0, y.1)

second-outcome : {A B C : Type 0} (r : Reader A) (s : Reader B) (F : A → List Token → Type 0) (G : B → List Token → Type 0) (h : A → B → C)
    (ts : List Token) (x : A × List Token) → Outcome r F ts (Ok x) → (o : Result (B × List Token) ℕ) → Outcome s G x.1 o
    → Outcome (both_at r s h) (Both F G h) ts (o >>= λ y. Ok (h x.0 y.0, y.1))
second-outcome r s F G h ts x p (Ok y) q = (
  p.0 ++ q.0,
  p.1 ∙ ap (λ us. p.0 ++ us) q.1 ∙ sym (append_assoc p.0 q.0 y.1),
  (x.0, y.0, p.0, q.0, refl, refl, p.2, q.2),
  λ rest al.
      ap (both_at r s h) (append_assoc p.0 q.0 rest)
      ∙ ap (λ o. o >>= λ w. s w.1 >>= λ z. Ok (h w.0 z.0, z.1)) (p.3 (q.0 ++ rest) (subst (λ (us : List Token). Alike us (q.0 ++ rest)) (sym q.1) (alike-front q.0 y.1 rest al)))
      ∙ ap (λ o. o >>= λ z. Ok (h x.0 z.0, z.1)) (q.3 rest al),
)
second-outcome r s F G h ts x p (Err k) q = (
  p.0 ++ q.0,
  q.1,
  p.1 ∙ ap (λ us. p.0 ++ us) q.2 ∙ sym (append_assoc p.0 q.0 q.1),
  q.3,
  (q.4.0, h x.0 q.4.1, (x.0, q.4.1, p.0, q.0 ++ q.4.0, refl, append_assoc p.0 q.0 q.4.0, p.2, q.4.2)),
  λ rest al.
      ap (both_at r s h) (append_assoc p.0 q.0 rest)
      ∙ ap (λ o. o >>= λ w. s w.1 >>= λ z. Ok (h w.0 z.0, z.1)) (p.3 (q.0 ++ rest) (subst (λ (us : List Token). Alike us (q.0 ++ rest)) (sym q.2) (alike-front q.0 q.1 rest al)))
      ∙ ap (λ o. o >>= λ z. Ok (h x.0 z.0, z.1)) (q.5 rest al),
)

pub both-outcome : {A B C : Type 0} (r : Reader A) (s : Reader B) (F : A → List Token → Type 0) (G : B → List Token → Type 0) (h : A → B → C)
    → Example G → ((us : List Token) → Outcome s G us (s us)) → (ts : List Token) (o : Result (A × List Token) ℕ) → Outcome r F ts o
    → Outcome (both_at r s h) (Both F G h) ts (o >>= λ x. s x.1 >>= λ y. Ok (h x.0 y.0, y.1))
both-outcome r s F G h e each ts (Ok x) p = second-outcome r s F G h ts x p (s x.1) (each x.1)
both-outcome r s F G h e each ts (Err k) p = (
  p.0,
  p.1,
  p.2,
  p.3,
  (p.4.0 ++ e.1, h p.4.1 e.0, (p.4.1, e.0, p.0 ++ p.4.0, e.1, refl, sym (append_assoc p.0 p.4.0 e.1), p.4.2, e.2)),
  λ rest al. ap (λ o. o >>= λ w. s w.1 >>= λ z. Ok (h w.0 z.0, z.1)) (p.5 rest al),
)

-- ---- one or the other

-- Where a reader does on these tokens, and on all that are alike, what another does.
moved-outcome : {A : Type 0} (q r : Reader A) (F G : A → List Token → Type 0) (ts : List Token) (o : Result (A × List Token) ℕ)
    → ((v : A) (us : List Token) → F v us → G v us) → ((us : List Token) → Alike ts us → q us ≡ r us) → Outcome r F ts o → Outcome q G ts o
moved-outcome q r F G ts (Ok x) into same p =
    (p.0, p.1, into x.0 p.0 p.2, λ rest al. same (p.0 ++ rest) (subst (λ (us : List Token). Alike us (p.0 ++ rest)) (sym p.1) (alike-front p.0 x.1 rest al)) ∙ p.3 rest al)
moved-outcome q r F G ts (Err k) into same p = (
  p.0,
  p.1,
  p.2,
  p.3,
  (p.4.0, p.4.1, into p.4.1 (p.0 ++ p.4.0) p.4.2),
  λ rest al. same (p.0 ++ rest) (subst (λ (us : List Token). Alike us (p.0 ++ rest)) (sym p.2) (alike-front p.0 p.1 rest al)) ∙ p.5 rest al,
)

picked : {A : Type 0} (ks : List ℕ) (r s : Reader A) (ts us : List Token) (b : Bool) → begins ks ts ≡ b → Alike ts us → cond (begins ks us) (r us) (s us) ≡ cond b (r us) (s us)
picked ks r s ts us b e al = ap (λ c. cond c (r us) (s us)) (begins-alike ks ts us al ∙ e)

pub either-outcome : {A : Type 0} (ks : List ℕ) (r s : Reader A) (F G : A → List Token → Type 0) → ((us : List Token) → Outcome r F us (r us)) → ((us : List Token) → Outcome s G us (s us))
    → (ts : List Token) → Outcome (λ us. cond (begins ks us) (r us) (s us)) (λ v us. F v us ⊎ G v us) ts (cond (begins ks ts) (r ts) (s ts))
either-outcome {A = A} ks r s F G f g ts =
    let q : Reader A = λ us. cond (begins ks us) (r us) (s us) in
    let H : A → List Token → Type 0 = λ v us. F v us ⊎ G v us in
    elim (begins ks ts) as (λ b. begins ks ts ≡ b → Outcome q H ts (cond b (r ts) (s ts))) [
      | true ↦ λ e. moved-outcome q r F H ts (r ts) (λ v us p. inl p) (λ us al. picked ks r s ts us true e al) (f ts)
      | false ↦ λ e. moved-outcome q s G H ts (s ts) (λ v us p. inr p) (λ us al. picked ks r s ts us false e al) (g ts)
    ] refl

abbrev pub MaybeFits : {A : Type 0} → (A → List Token → Type 0) → Option A → List Token → Type 0
MaybeFits F v ts = (elim v [ None ↦ ts ≡ [] | Some a ↦ F a ts ])

some-outcome : {A : Type 0} (r : Reader A) (F : A → List Token → Type 0) (ts : List Token) (o : Result (A × List Token) ℕ) → Outcome r F ts o
    → Outcome (λ us. r us >>= λ x. Ok (Some x.0, x.1)) (MaybeFits F) ts (o >>= λ x. Ok (Some x.0, x.1))
some-outcome r F ts (Ok x) p = (p.0, p.1, p.2, λ rest al. ap (λ q. q >>= λ y. Ok (Some y.0, y.1)) (p.3 rest al))
some-outcome r F ts (Err k) p = (p.0, p.1, p.2, p.3, (p.4.0, Some p.4.1, p.4.2), λ rest al. ap (λ q. q >>= λ y. Ok (Some y.0, y.1)) (p.5 rest al))

pub maybe-outcome : {A : Type 0} (ks : List ℕ) (r : Reader A) (F : A → List Token → Type 0) → ((us : List Token) → Outcome r F us (r us))
    → (ts : List Token) → Outcome (λ us. cond (begins ks us) (r us >>= λ x. Ok (Some x.0, x.1)) (Ok (None, us))) (MaybeFits F) ts (cond (begins ks ts) (r ts >>= λ x. Ok (Some x.0, x.1)) (Ok (None, ts)))
maybe-outcome {A = A} ks r F f ts =
    let given : Reader (Option A) = λ us. r us >>= λ x. Ok (Some x.0, x.1) in
    let absent : Reader (Option A) = λ us. Ok (None, us) in
    let q : Reader (Option A) = λ us. cond (begins ks us) (given us) (absent us) in
    elim (begins ks ts) as (λ b. begins ks ts ≡ b → Outcome q (MaybeFits F) ts (cond b (given ts) (absent ts))) [
      | true ↦ λ e. moved-outcome q given (MaybeFits F) (MaybeFits F) ts (given ts) (λ v us p. p) (λ us al. picked ks given absent ts us true e al) (some-outcome r F ts (r ts) (f ts))
      | false ↦ λ e. ([], refl, refl, λ rest al. picked ks given absent ts rest false e al)
    ] refl
