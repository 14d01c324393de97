-- What is read fits, and what fits is read.
use Rattle.std.proofs.Common.{◌≡◌, ◌⊎◌, ◌≤◌, ◌+◌, ℕ, zero, suc, Bool, true, false, cond, List, [], ◌∷◌, ◌++◌, length, Option, Some, None, Result, Ok, Err, refl, sym, ap, subst, ◌∙◌, inl, inr, nat_eq, append_assoc, arith, eq-eqb}
use Rattle.std.proofs.lemmas.Bool.{eqb-true}
use Rattle.std.proofs.lemmas.List.{length-append, append-nil, nil_from_length}
use Rattle.region_sql.specs.declared.tokens.Token.{Token}
use Rattle.region_sql.specs.Tokens.{kind_of}
use Rattle.region_sql.specs.Forms.{Form, one, as_value, both, either, maybe, listed, ended, Fits, AreListed, AreEnded}
use Rattle.region_sql.specs.Reading.{◌>>=◌, has, begins, first, taken, one_at, more_at, listed_at, onward_at, ended_at, parse, whole}
use Rattle.region_sql.proofs.Plain.{bind_ok, ok_is, taken_ok, chosen, or-false, begins-kinds, begins-tokens}
use Rattle.region_sql.proofs.Good.{nullable, hungry, meets, apart-begins, Good, really, fits-begins}

-- The tokens begin with some that fit, before those that are left.
abbrev pub Took : {A : Type 0} → (A → List Token → Type 0) → List Token → A × List Token → Type 0
Took P ts x = (front : List Token) × (ts ≡ front ++ x.1) × P x.0 front

-- ---- what is read fits

pub listed-cons : {A : Type 0} (kind : ℕ) (P : A → List Token → Type 0) (v : A) (vs : List A) (front : List Token) (mark : Token) (back : List Token)
    → P v front → kind_of mark ≡ kind → AreListed kind P vs back → AreListed kind P (v ∷ vs) (front ++ mark ∷ back)
listed-cons kind P v [] front mark back p k ps = absurd ps
listed-cons kind P v (w ∷ ws) front mark back p k ps = (front, mark, back, refl, k, p, ps)

abbrev pub Continued : {A : Type 0} → ℕ → (List Token → Result (List A × List Token) ℕ) → A → List Token → List A × List Token → Type 0
Continued {A = A} kind next v rest x = (mark : Token) × (back : List Token) × (y : List A × List Token)
    × (rest ≡ mark ∷ back) × (kind_of mark ≡ kind) × (next back ≡ Ok y) × ((v ∷ y.0, y.1) ≡ x)

more_ok : {A : Type 0} (kind : ℕ) (next : List Token → Result (List A × List Token) ℕ) (v : A) (rest : List Token) (x : List A × List Token)
    → more_at kind next v rest ≡ Ok x → ((v ∷ [], rest) ≡ x) ⊎ Continued kind next v rest x
more_ok kind next v [] x e = inl (ok_is (v ∷ [], []) x e)
more_ok kind next v (t ∷ ts) x e =
    elim (chosen (nat_eq kind (kind_of t)) (next ts >>= λ vs. Ok (v ∷ vs.0, vs.1)) (Ok (v ∷ [], t ∷ ts)) (Ok x) e) [
      | inl l ↦ let b = bind_ok (next ts) (λ vs. Ok (v ∷ vs.0, vs.1)) x l.1 in
          inr (t, ts, b.0, refl, sym (eqb-true kind (kind_of t) l.0), b.1, ok_is (v ∷ b.0.0, b.0.1) x b.2)
      | inr r ↦ inl (ok_is (v ∷ [], t ∷ ts) x r.1)
    ]

sound-listed : {A : Type 0} (n kind : ℕ) (read : List Token → Result (A × List Token) ℕ) (P : A → List Token → Type 0)
    → ((ts : List Token) (x : A × List Token) → read ts ≡ Ok x → Took P ts x)
    → (ts : List Token) (x : List A × List Token) → listed_at n kind read ts ≡ Ok x → Took (λ vs us. AreListed kind P vs us) ts x
unfolding listed_at
sound-listed zero kind read P each ts x e = absurd cc
sound-listed {A = A} (suc n) kind read P each ts x e =
    let b = bind_ok (read ts) (λ y. more_at kind (listed_at n kind read) y.0 y.1) x e in
    let t = each ts b.0 b.1 in
    elim (more_ok kind (listed_at n kind read) b.0.0 b.0.1 x b.2) [
      | inl l ↦ subst (λ (y : List A × List Token). Took (λ vs us. AreListed kind P vs us) ts y) l (t.0, t.1, t.2)
      | inr r ↦
          let u = sound-listed n kind read P each r.1 r.2 r.5 in
          let whole : ts ≡ (t.0 ++ r.0 ∷ u.0) ++ r.2.1 =
          t.1 ∙ ap (λ us. t.0 ++ us) (r.3 ∙ ap (λ us. r.0 ∷ us) u.1) ∙ sym (append_assoc t.0 (r.0 ∷ u.0) r.2.1) in
          subst (λ (y : List A × List Token). Took (λ vs us. AreListed kind P vs us) ts y) r.6
          (t.0 ++ r.0 ∷ u.0, whole, listed-cons kind P b.0.0 r.2.0 t.0 r.0 u.0 t.2 r.4 u.2)
    ]

pub ended-cons : {A : Type 0} (kind : ℕ) (P : A → List Token → Type 0) (v : A) (vs : List A) (front : List Token) (mark : Token) (back : List Token)
    → P v front → kind_of mark ≡ kind → AreEnded kind P vs back → AreEnded kind P (v ∷ vs) (front ++ mark ∷ back)
ended-cons kind P v [] front mark back p k ps = absurd ps
ended-cons kind P v (w ∷ ws) front mark back p k ps = (front, mark, back, refl, k, p, ps)

abbrev EndedWith : {A : Type 0} → ℕ → A → List Token → List A × List Token → Type 0
EndedWith {A = A} kind v rest x = (mark : Token) × (back : List Token) × (rest ≡ mark ∷ back) × (kind_of mark ≡ kind) × ((v ∷ [], back) ≡ x)

onward_ok : {A : Type 0} (kind : ℕ) (firsts : List ℕ) (next : List Token → Result (List A × List Token) ℕ) (v : A) (rest : List Token) (x : List A × List Token)
    → onward_at kind firsts next v rest ≡ Ok x → ((v ∷ [], rest) ≡ x) ⊎ (EndedWith kind v rest x ⊎ Continued kind next v rest x)
onward_ok kind firsts next v [] x e = inl (ok_is (v ∷ [], []) x e)
onward_ok kind firsts next v (t ∷ ts) x e =
    elim (chosen (nat_eq kind (kind_of t)) (cond (begins firsts ts) (next ts >>= λ vs. Ok (v ∷ vs.0, vs.1)) (Ok (v ∷ [], ts))) (Ok (v ∷ [], t ∷ ts)) (Ok x) e) [
      | inl l ↦
          elim (chosen (begins firsts ts) (next ts >>= λ vs. Ok (v ∷ vs.0, vs.1)) (Ok (v ∷ [], ts)) (Ok x) l.1) [
            | inl m ↦ let b = bind_ok (next ts) (λ vs. Ok (v ∷ vs.0, vs.1)) x m.1 in
                inr (inr (t, ts, b.0, refl, sym (eqb-true kind (kind_of t) l.0), b.1, ok_is (v ∷ b.0.0, b.0.1) x b.2))
            | inr m ↦ inr (inl (t, ts, refl, sym (eqb-true kind (kind_of t) l.0), ok_is (v ∷ [], ts) x m.1))
          ]
      | inr r ↦ inl (ok_is (v ∷ [], t ∷ ts) x r.1)
    ]

sound-ended : {A : Type 0} (n kind : ℕ) (firsts : List ℕ) (read : List Token → Result (A × List Token) ℕ) (P : A → List Token → Type 0)
    → ((ts : List Token) (x : A × List Token) → read ts ≡ Ok x → Took P ts x)
    → (ts : List Token) (x : List A × List Token) → ended_at n kind firsts read ts ≡ Ok x → Took (λ vs us. AreEnded kind P vs us) ts x
unfolding ended_at
sound-ended zero kind firsts read P each ts x e = absurd cc
sound-ended {A = A} (suc n) kind firsts read P each ts x e =
    let b = bind_ok (read ts) (λ y. onward_at kind firsts (ended_at n kind firsts read) y.0 y.1) x e in
    let t = each ts b.0 b.1 in
    elim (onward_ok kind firsts (ended_at n kind firsts read) b.0.0 b.0.1 x b.2) [
      | inl l ↦ subst (λ (y : List A × List Token). Took (λ vs us. AreEnded kind P vs us) ts y) l (t.0, t.1, inl t.2)
      | inr (inl r) ↦
          let whole : ts ≡ (t.0 ++ r.0 ∷ []) ++ r.1 = t.1 ∙ ap (λ us. t.0 ++ us) r.2 ∙ sym (append_assoc t.0 (r.0 ∷ []) r.1) in
          subst (λ (y : List A × List Token). Took (λ vs us. AreEnded kind P vs us) ts y) r.4
          (t.0 ++ r.0 ∷ [], whole, inr (t.0, r.0, refl, r.3, t.2))
      | inr (inr r) ↦
          let u = sound-ended n kind firsts read P each r.1 r.2 r.5 in
          let whole : ts ≡ (t.0 ++ r.0 ∷ u.0) ++ r.2.1 =
          t.1 ∙ ap (λ us. t.0 ++ us) (r.3 ∙ ap (λ us. r.0 ∷ us) u.1) ∙ sym (append_assoc t.0 (r.0 ∷ u.0) r.2.1) in
          subst (λ (y : List A × List Token). Took (λ vs us. AreEnded kind P vs us) ts y) r.6
          (t.0 ++ r.0 ∷ u.0, whole, ended-cons kind P b.0.0 r.2.0 t.0 r.0 u.0 t.2 r.4 u.2)
    ]

pub sound : {A : Type 0} (f : Form A) (ts : List Token) (x : A × List Token) → parse f ts ≡ Ok x → Took (λ v us. Fits f v us) ts x
sound (one kinds take) [] x e = absurd cc
sound (one kinds take) (t ∷ ts) x e =
    let p = taken_ok (take t) ts x e in
    (t ∷ [], ap (λ us. t ∷ us) p.1, (t, refl, p.0))
sound (as_value {A = A} {B = B} f h) ts x e =
    let b = bind_ok (parse f ts) (λ y. Ok (h y.0, y.1)) x e in
    let t = sound f ts b.0 b.1 in
    subst (λ (y : B × List Token). Took (λ v us. Fits (as_value f h) v us) ts y) (ok_is (h b.0.0, b.0.1) x b.2) (t.0, t.1, (b.0.0, refl, t.2))
sound (both {A = A} {B = B} {C = C} f g h) ts x e =
    let b = bind_ok (parse f ts) (λ y. parse g y.1 >>= λ z. Ok (h y.0 z.0, z.1)) x e in
    let c = bind_ok (parse g b.0.1) (λ z. Ok (h b.0.0 z.0, z.1)) x b.2 in
    let t = sound f ts b.0 b.1 in
    let u = sound g b.0.1 c.0 c.1 in
    let whole : ts ≡ (t.0 ++ u.0) ++ c.0.1 = t.1 ∙ ap (λ us. t.0 ++ us) u.1 ∙ sym (append_assoc t.0 u.0 c.0.1) in
    subst (λ (y : C × List Token). Took (λ v us. Fits (both f g h) v us) ts y) (ok_is (h b.0.0 c.0.0, c.0.1) x c.2)
    (t.0 ++ u.0, whole, (b.0.0, c.0.0, t.0, u.0, refl, refl, t.2, u.2))
sound (either f g) ts x e =
    elim (chosen (begins (first f) ts) (parse f ts) (parse g ts) (Ok x) e) [
      | inl l ↦ let t = sound f ts x l.1 in (t.0, t.1, inl t.2)
      | inr r ↦ let t = sound g ts x r.1 in (t.0, t.1, inr t.2)
    ]
sound (maybe {A = A} f) ts x e =
    elim (chosen (begins (first f) ts) (parse f ts >>= λ y. Ok (Some y.0, y.1)) (Ok (None, ts)) (Ok x) e) [
      | inl l ↦
          let b = bind_ok (parse f ts) (λ y. Ok (Some y.0, y.1)) x l.1 in
          let t = sound f ts b.0 b.1 in
          subst (λ (y : Option A × List Token). Took (λ v us. Fits (maybe f) v us) ts y) (ok_is (Some b.0.0, b.0.1) x b.2) (t.0, t.1, t.2)
      | inr r ↦ subst (λ (y : Option A × List Token). Took (λ v us. Fits (maybe f) v us) ts y) (ok_is (None, ts) x r.1) ([], refl, refl)
    ]
sound (listed kind f) ts x e = sound-listed (length ts) kind (λ us. parse f us) (λ v us. Fits f v us) (λ us y p. sound f us y p) ts x e
sound (ended kind f) ts x e = sound-ended (length ts) kind (first f) (λ us. parse f us) (λ v us. Fits f v us) (λ us y p. sound f us y p) ts x e

-- ---- what fits is read

listed-length : {A : Type 0} (kind : ℕ) (P : A → List Token → Type 0) → ((v : A) (ts : List Token) → P v ts → 1 ≤ length ts)
    → (vs : List A) (ts : List Token) → AreListed kind P vs ts → length vs ≤ length ts
listed-length kind P each [] ts p = absurd p
listed-length kind P each (v ∷ []) ts p = omega (arith, each v ts p)
listed-length kind P each (v ∷ w ∷ vs) ts p =
    let more = listed-length kind P each (w ∷ vs) p.2 p.6 in
    let size : length ts ≡ length p.0 + suc (length p.2) = ap length p.3 ∙ length-append p.0 (p.1 ∷ p.2) in
    omega arith

not-kind : (kind : ℕ) (ks : List ℕ) (k : ℕ) → has (kind ∷ ks) k ≡ false → nat_eq kind k ≡ false
not-kind kind ks k e = (or-false (nat_eq kind k) (has ks k) e).0

more_none : {A : Type 0} (kind : ℕ) (ks : List ℕ) (next : List Token → Result (List A × List Token) ℕ) (v : A) (rest : List Token)
    → begins (kind ∷ ks) rest ≡ false → more_at kind next v rest ≡ Ok (v ∷ [], rest)
more_none kind ks next v [] stops = refl
more_none kind ks next v (t ∷ ts) stops =
    ap (λ b. cond b (next ts >>= λ vs. Ok (v ∷ vs.0, vs.1)) (Ok (v ∷ [], t ∷ ts))) (not-kind kind ks (kind_of t) stops)

begins-tail : (kind : ℕ) (ks : List ℕ) (rest : List Token) → begins (kind ∷ ks) rest ≡ false → begins ks rest ≡ false
begins-tail kind ks [] e = refl
begins-tail kind ks (t ∷ ts) e = (or-false (nat_eq kind (kind_of t)) (has ks (kind_of t)) e).1

abbrev IsRead : {A : Type 0} → (List Token → Result (A × List Token) ℕ) → (A → List Token → Type 0) → List ℕ → Type 0
IsRead {A = A} read P ks = (v : A) (front rest : List Token) → P v front → begins ks rest ≡ false → read (front ++ rest) ≡ Ok (v, rest)

complete-listed : {A : Type 0} (n kind : ℕ) (read : List Token → Result (A × List Token) ℕ) (P : A → List Token → Type 0) (ks : List ℕ)
    → IsRead read P ks → has ks kind ≡ false
    → (vs : List A) (front rest : List Token) → length vs ≤ n → AreListed kind P vs front → begins (kind ∷ ks) rest ≡ false
    → listed_at n kind read (front ++ rest) ≡ Ok (vs, rest)
unfolding listed_at
complete-listed n kind read P ks each apart [] front rest le p stops = absurd p
complete-listed zero kind read P ks each apart (v ∷ vs) front rest le p stops = absurd (omega arith)
complete-listed (suc n) kind read P ks each apart (v ∷ []) front rest le p stops =
    ap (λ r. r >>= λ x. more_at kind (listed_at n kind read) x.0 x.1) (each v front rest p (begins-tail kind ks rest stops))
    ∙ more_none kind ks (listed_at n kind read) v rest stops
complete-listed (suc n) kind read P ks each apart (v ∷ w ∷ vs) front rest le p stops =
    let regrouped : front ++ rest ≡ p.0 ++ (p.1 ∷ (p.2 ++ rest)) = ap (λ us. us ++ rest) p.3 ∙ append_assoc p.0 (p.1 ∷ p.2) rest in
    let one_read = each v p.0 (p.1 ∷ (p.2 ++ rest)) p.5 (ap (λ k. has ks k) p.4 ∙ apart) in
    let others = complete-listed n kind read P ks each apart (w ∷ vs) p.2 rest (omega arith) p.6 stops in
    ap (λ us. listed_at (suc n) kind read us) regrouped
    ∙ ap (λ r. r >>= λ x. more_at kind (listed_at n kind read) x.0 x.1) one_read
    ∙ ap (λ b. cond b (listed_at n kind read (p.2 ++ rest) >>= λ us. Ok (v ∷ us.0, us.1)) (Ok (v ∷ [], p.1 ∷ (p.2 ++ rest)))) (eq-eqb kind (kind_of p.1) (sym p.4))
    ∙ ap (λ r. r >>= λ us. Ok (v ∷ us.0, us.1)) others

ended-length : {A : Type 0} (kind : ℕ) (P : A → List Token → Type 0) → ((v : A) (ts : List Token) → P v ts → 1 ≤ length ts)
    → (vs : List A) (ts : List Token) → AreEnded kind P vs ts → length vs ≤ length ts
ended-length kind P each [] ts p = absurd p
ended-length kind P each (v ∷ []) ts p =
    elim p [
      | inl l ↦ omega (arith, each v ts l)
      | inr r ↦ let size : length ts ≡ length r.0 + 1 = ap length r.2 ∙ length-append r.0 (r.1 ∷ []) in omega arith
    ]
ended-length kind P each (v ∷ w ∷ vs) ts p =
    let more = ended-length kind P each (w ∷ vs) p.2 p.6 in
    let size : length ts ≡ length p.0 + suc (length p.2) = ap length p.3 ∙ length-append p.0 (p.1 ∷ p.2) in
    omega arith

onward_none : {A : Type 0} (kind : ℕ) (firsts ks : List ℕ) (next : List Token → Result (List A × List Token) ℕ) (v : A) (rest : List Token)
    → begins (kind ∷ ks) rest ≡ false → onward_at kind firsts next v rest ≡ Ok (v ∷ [], rest)
onward_none kind firsts ks next v [] stops = refl
onward_none kind firsts ks next v (t ∷ ts) stops =
    ap (λ b. cond b (cond (begins firsts ts) (next ts >>= λ vs. Ok (v ∷ vs.0, vs.1)) (Ok (v ∷ [], ts))) (Ok (v ∷ [], t ∷ ts))) (not-kind kind ks (kind_of t) stops)

onward_mark : {A : Type 0} (kind : ℕ) (firsts : List ℕ) (next : List Token → Result (List A × List Token) ℕ) (v : A) (mark : Token) (rest : List Token)
    → kind_of mark ≡ kind → onward_at kind firsts next v (mark ∷ rest) ≡ cond (begins firsts rest) (next rest >>= λ vs. Ok (v ∷ vs.0, vs.1)) (Ok (v ∷ [], rest))
onward_mark kind firsts next v mark rest k =
    ap (λ b. cond b (cond (begins firsts rest) (next rest >>= λ vs. Ok (v ∷ vs.0, vs.1)) (Ok (v ∷ [], rest))) (Ok (v ∷ [], mark ∷ rest))) (eq-eqb kind (kind_of mark) (sym k))

stops-left : (xs ys : List ℕ) (rest : List Token) → begins (xs ++ ys) rest ≡ false → begins xs rest ≡ false
stops-left xs ys rest e = (or-false (begins xs rest) (begins ys rest) (sym (begins-kinds xs ys rest) ∙ e)).0

stops-right : (xs ys : List ℕ) (rest : List Token) → begins (xs ++ ys) rest ≡ false → begins ys rest ≡ false
stops-right xs ys rest e = (or-false (begins xs rest) (begins ys rest) (sym (begins-kinds xs ys rest) ∙ e)).1

-- Where a second form follows, the first is done.
stops-before : (ks fs hs : List ℕ) (null : Bool) (back rest : List Token) → meets ks fs ≡ false
    → (begins fs back ≡ true) ⊎ ((back ≡ []) × (null ≡ true)) → begins (hs ++ cond null ks []) rest ≡ false → begins ks (back ++ rest) ≡ false
stops-before ks fs hs null back rest m b stops =
    elim b [
      | inl e ↦ apart-begins ks fs (back ++ rest) m (begins-tokens fs back rest e)
      | inr e ↦ ap (λ us. begins ks (us ++ rest)) e.0 ∙ ap (λ c. begins (cond c ks []) rest) (sym e.1) ∙ stops-right hs (cond null ks []) rest stops
    ]

ended-begins : {A : Type 0} (kind : ℕ) (P : A → List Token → Type 0) (firsts : List ℕ) → ((v : A) (ts : List Token) → P v ts → begins firsts ts ≡ true)
    → (vs : List A) (ts : List Token) → AreEnded kind P vs ts → begins firsts ts ≡ true
ended-begins kind P firsts each [] ts p = absurd p
ended-begins kind P firsts each (v ∷ []) ts p =
    elim p [ inl l ↦ each v ts l | inr r ↦ rw r.2 (begins-tokens firsts r.0 (r.1 ∷ []) (each v r.0 r.4)) ]
ended-begins kind P firsts each (v ∷ w ∷ vs) ts p = rw p.3 (begins-tokens firsts p.0 (p.1 ∷ p.2) (each v p.0 p.5))

complete-ended : {A : Type 0} (n kind : ℕ) (read : List Token → Result (A × List Token) ℕ) (P : A → List Token → Type 0) (firsts ks : List ℕ)
    → IsRead read P ks → ((v : A) (ts : List Token) → P v ts → begins firsts ts ≡ true) → has ks kind ≡ false
    → (vs : List A) (front rest : List Token) → length vs ≤ n → AreEnded kind P vs front → begins (kind ∷ (firsts ++ ks)) rest ≡ false
    → ended_at n kind firsts read (front ++ rest) ≡ Ok (vs, rest)
unfolding ended_at
complete-ended n kind read P firsts ks each starts apart [] front rest le p stops = absurd p
complete-ended zero kind read P firsts ks each starts apart (v ∷ vs) front rest le p stops = absurd (omega arith)
complete-ended (suc n) kind read P firsts ks each starts apart (v ∷ []) front rest le p stops =
    let tail = begins-tail kind (firsts ++ ks) rest stops in
    elim p [
      | inl l ↦
          ap (λ r. r >>= λ x. onward_at kind firsts (ended_at n kind firsts read) x.0 x.1) (each v front rest l (stops-right firsts ks rest tail))
          ∙ onward_none kind firsts (firsts ++ ks) (ended_at n kind firsts read) v rest stops
      | inr r ↦
          let regrouped : front ++ rest ≡ r.0 ++ (r.1 ∷ rest) = ap (λ us. us ++ rest) r.2 ∙ append_assoc r.0 (r.1 ∷ []) rest in
          let one_read = each v r.0 (r.1 ∷ rest) r.4 (ap (λ k. has ks k) r.3 ∙ apart) in
          ap (λ us. ended_at (suc n) kind firsts read us) regrouped
          ∙ ap (λ q. q >>= λ x. onward_at kind firsts (ended_at n kind firsts read) x.0 x.1) one_read
          ∙ onward_mark kind firsts (ended_at n kind firsts read) v r.1 rest r.3
          ∙ ap (λ b. cond b (ended_at n kind firsts read rest >>= λ us. Ok (v ∷ us.0, us.1)) (Ok (v ∷ [], rest))) (stops-left firsts ks rest tail)
    ]
complete-ended (suc n) kind read P firsts ks each starts apart (v ∷ w ∷ vs) front rest le p stops =
    let regrouped : front ++ rest ≡ p.0 ++ (p.1 ∷ (p.2 ++ rest)) = ap (λ us. us ++ rest) p.3 ∙ append_assoc p.0 (p.1 ∷ p.2) rest in
    let one_read = each v p.0 (p.1 ∷ (p.2 ++ rest)) p.5 (ap (λ k. has ks k) p.4 ∙ apart) in
    let others = complete-ended n kind read P firsts ks each starts apart (w ∷ vs) p.2 rest (omega arith) p.6 stops in
    let goes = begins-tokens firsts p.2 rest (ended-begins kind P firsts starts (w ∷ vs) p.2 p.6) in
    ap (λ us. ended_at (suc n) kind firsts read us) regrouped
    ∙ ap (λ r. r >>= λ x. onward_at kind firsts (ended_at n kind firsts read) x.0 x.1) one_read
    ∙ onward_mark kind firsts (ended_at n kind firsts read) v p.1 (p.2 ++ rest) p.4
    ∙ ap (λ b. cond b (ended_at n kind firsts read (p.2 ++ rest) >>= λ us. Ok (v ∷ us.0, us.1)) (Ok (v ∷ [], p.2 ++ rest))) goes
    ∙ ap (λ r. r >>= λ us. Ok (v ∷ us.0, us.1)) others

pub nonempty : (kinds : List ℕ) (ts : List Token) → begins kinds ts ≡ true → 1 ≤ length ts
nonempty kinds [] e = absurd cc
nonempty kinds (t ∷ ts) e = omega arith

pub complete : {A : Type 0} (f : Form A) → Good f → (v : A) (front rest : List Token) → Fits f v front → begins (hungry f) rest ≡ false
    → parse f (front ++ rest) ≡ Ok (v, rest)
complete (one kinds take) good v front rest fit stops =
    ap (λ us. one_at take (us ++ rest)) fit.1 ∙ ap (λ o. taken o rest) fit.2
complete (as_value f h) good v front rest fit stops =
    ap (λ r. r >>= λ x. Ok (h x.0, x.1)) (complete f good fit.0 front rest fit.2 stops) ∙ ap (λ w. Ok (w, rest)) (sym fit.1)
complete (both f g h) good v front rest fit stops =
    let a = fit.0 in
    let b = fit.1 in
    let regrouped : front ++ rest ≡ fit.2 ++ (fit.3 ++ rest) = ap (λ us. us ++ rest) fit.5 ∙ append_assoc fit.2 fit.3 rest in
    let stops-f = stops-before (hungry f) (first g) (hungry g) (nullable g) fit.3 rest good.3 (fits-begins g b fit.3 good.1 fit.7) stops in
    ap (λ us. parse (both f g h) us) regrouped
    ∙ ap (λ r. r >>= λ x. parse g x.1 >>= λ y. Ok (h x.0 y.0, y.1)) (complete f good.0 a fit.2 (fit.3 ++ rest) fit.6 stops-f)
    ∙ ap (λ r. r >>= λ y. Ok (h a y.0, y.1)) (complete g good.1 b fit.3 rest fit.7 (stops-left (hungry g) (cond (nullable g) (hungry f) []) rest stops))
    ∙ ap (λ w. Ok (w, rest)) (sym fit.4)
complete (either f g) good v front rest fit stops =
    elim fit [
      | inl l ↦
          let b = begins-tokens (first f) front rest (really f front good.2 (fits-begins f v front good.0 l)) in
          ap (λ c. cond c (parse f (front ++ rest)) (parse g (front ++ rest))) b ∙ complete f good.0 v front rest l (stops-left (hungry f) (hungry g) rest stops)
      | inr r ↦
          let b = begins-tokens (first g) front rest (really g front good.3 (fits-begins g v front good.1 r)) in
          ap (λ c. cond c (parse f (front ++ rest)) (parse g (front ++ rest))) (apart-begins (first f) (first g) (front ++ rest) good.4 b)
          ∙ complete g good.1 v front rest r (stops-right (hungry f) (hungry g) rest stops)
    ]
complete (maybe f) good None front rest fit stops =
    ap (λ us. parse (maybe f) (us ++ rest)) fit
    ∙ ap (λ c. cond c (parse f rest >>= λ x. Ok (Some x.0, x.1)) (Ok (None, rest))) (stops-left (first f) (hungry f) rest stops)
complete (maybe f) good (Some a) front rest fit stops =
    let b = begins-tokens (first f) front rest (really f front good.1 (fits-begins f a front good.0 fit)) in
    ap (λ c. cond c (parse f (front ++ rest) >>= λ x. Ok (Some x.0, x.1)) (Ok (None, front ++ rest))) b
    ∙ ap (λ r. r >>= λ x. Ok (Some x.0, x.1)) (complete f good.0 a front rest fit (stops-right (first f) (hungry f) rest stops))
complete (listed {A = A} kind f) good vs front rest fit stops =
    let each : (v : A) (ts : List Token) → Fits f v ts → 1 ≤ length ts = λ v ts p. nonempty (first f) ts (really f ts good.1 (fits-begins f v ts good.0 p)) in
    let few = listed-length kind (λ v us. Fits f v us) each vs front fit in
    complete-listed (length (front ++ rest)) kind (λ us. parse f us) (λ v us. Fits f v us) (hungry f)
    (λ v x y p s. complete f good.0 v x y p s) good.2 vs front rest (omega (arith, length-append front rest)) fit stops
complete (ended {A = A} kind f) good vs front rest fit stops =
    let begun : (v : A) (ts : List Token) → Fits f v ts → begins (first f) ts ≡ true = λ v ts p. really f ts good.1 (fits-begins f v ts good.0 p) in
    let few = ended-length kind (λ v us. Fits f v us) (λ v ts p. nonempty (first f) ts (begun v ts p)) vs front fit in
    complete-ended (length (front ++ rest)) kind (λ us. parse f us) (λ v us. Fits f v us) (first f) (hungry f)
    (λ v x y p s. complete f good.0 v x y p s) begun good.2 vs front rest (omega (arith, length-append front rest)) fit stops

-- ---- all of the tokens

pub whole-fits : {A : Type 0} (f : Form A) (ts : List Token) (v : A) → whole f ts ≡ Ok v → Fits f v ts
whole-fits {A = A} f ts v e =
    let b = bind_ok (parse f ts) (λ x. cond (nat_eq (length x.1) 0) (Ok x.0) (Err (length x.1))) v e in
    let t = sound f ts b.0 b.1 in
    elim (chosen (nat_eq (length b.0.1) 0) (Ok b.0.0) (Err (length b.0.1)) (Ok v) b.2) [
      | inl l ↦
          let none : b.0.1 ≡ [] = nil_from_length b.0.1 (eqb-true (length b.0.1) 0 l.0) in
          let all : t.0 ≡ ts = sym (t.1 ∙ ap (λ us. t.0 ++ us) none ∙ append-nil t.0) in
          subst (λ (a : A). Fits f a ts) (ok_is b.0.0 v l.1) (subst (λ (us : List Token). Fits f b.0.0 us) all t.2)
      | inr r ↦ absurd (let e2 = r.1 in cc)
    ]

pub fits-whole : {A : Type 0} (f : Form A) → Good f → (ts : List Token) (v : A) → Fits f v ts → whole f ts ≡ Ok v
fits-whole f good ts v fit =
    ap (λ r. r >>= λ x. cond (nat_eq (length x.1) 0) (Ok x.0) (Err (length x.1)))
    (ap (λ us. parse f us) (sym (append-nil ts)) ∙ complete f good v ts [] fit refl)
