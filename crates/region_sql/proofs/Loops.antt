-- Reading a list one value after the other, as a loop does.
use Rattle.std.proofs.Common.{◌≡◌, ℕ, suc, ◌-◌, ◌+◌, ◌≤◌, ◌<◌, Bool, true, false, cond, List, [], ◌∷◌, ◌++◌, length, Result, Ok, Err, refl, sym, ap, ◌∙◌, append_assoc, arith, nat_eq, drop}
use Rattle.region_sql.specs.declared.stuck.Stuck.{Stuck}
use Rattle.region_sql.specs.declared.stuck.Stuck.TheVariants as stuck
use Rattle.region_sql.specs.declared.tokens.Token.{Token}
use Rattle.region_sql.specs.Tokens.{kind_of}
use Rattle.region_sql.specs.Reading.{◌>>=◌, begins, more_at, listed_at, onward_at, ended_at, Fails}
use Rattle.region_sql.proofs.Plain.{or-false, or-no}

-- What was read before, and what is still read.
abbrev pub with_front : {A : Type 0} → List A → Result (List A × List Token) ℕ → Result (List A × List Token) ℕ
with_front front read = read >>= λ x. Ok (front ++ x.0, x.1)

regroup : {A : Type 0} (front : List A) (v : A) (read : Result (List A × List Token) ℕ) → with_front front (read >>= λ x. Ok (v ∷ x.0, x.1)) ≡ with_front (front ++ v ∷ []) read
regroup {A = A} front v (Ok x) = ap (λ (vs : List A). Ok (vs, x.1)) (sym (append_assoc front (v ∷ []) x.0))
regroup front v (Err k) = refl

pub starts : {A : Type 0} (read : Result (List A × List Token) ℕ) → with_front [] read ≡ read
starts (Ok x) = refl
starts (Err k) = refl

one_step : {A : Type 0} (front : List A) (n i kind : ℕ) (read : List Token → Result (A × List Token) ℕ) (rest : List Token) → i < n
    → with_front front (listed_at (n - i) kind read rest) ≡ with_front front (read rest >>= λ x. more_at kind (listed_at (n - (i + 1)) kind read) x.0 x.1)
unfolding listed_at
one_step front n i kind read rest lt =
    let k : n - i ≡ suc (n - (i + 1)) = omega arith in
    ap (λ m. with_front front (listed_at m kind read rest)) k

next_more : {A : Type 0} (kind : ℕ) (next : List Token → Result (List A × List Token) ℕ) (v : A) (after : List Token) → begins (kind ∷ []) after ≡ true
    → more_at kind next v after ≡ (next (drop 1 after) >>= λ us. Ok (v ∷ us.0, us.1))
next_more kind next v [] e = absurd cc
next_more kind next v (t ∷ ts) e =
    ap (λ b. cond b (next ts >>= λ us. Ok (v ∷ us.0, us.1)) (Ok (v ∷ [], t ∷ ts))) (or-no (nat_eq kind (kind_of t)) e)

pub goes_on : {A : Type 0} (front : List A) (n i kind : ℕ) (read : List Token → Result (A × List Token) ℕ) (rest : List Token) (v : A) (after : List Token) (total : Result (List A × List Token) ℕ)
    → i < n → read rest ≡ Ok (v, after) → begins (kind ∷ []) after ≡ true
    → with_front front (listed_at (n - i) kind read rest) ≡ total → with_front (front ++ v ∷ []) (listed_at (n - (i + 1)) kind read (drop 1 after)) ≡ total
goes_on front n i kind read rest v after total lt h b so_far =
    sym (one_step front n i kind read rest lt
    ∙ ap (λ r. with_front front (r >>= λ x. more_at kind (listed_at (n - (i + 1)) kind read) x.0 x.1)) h
    ∙ ap (λ r. with_front front r) (next_more kind (listed_at (n - (i + 1)) kind read) v after b)
    ∙ regroup front v (listed_at (n - (i + 1)) kind read (drop 1 after)))
    ∙ so_far

last_more : {A : Type 0} (kind : ℕ) (next : List Token → Result (List A × List Token) ℕ) (v : A) (after : List Token) → begins (kind ∷ []) after ≡ false
    → more_at kind next v after ≡ Ok (v ∷ [], after)
last_more kind next v [] e = refl
last_more kind next v (t ∷ ts) e =
    ap (λ b. cond b (next ts >>= λ us. Ok (v ∷ us.0, us.1)) (Ok (v ∷ [], t ∷ ts))) (or-false (nat_eq kind (kind_of t)) false e).0

pub is_last : {A : Type 0} (front : List A) (n i kind : ℕ) (read : List Token → Result (A × List Token) ℕ) (rest : List Token) (v : A) (after : List Token) (total : Result (List A × List Token) ℕ)
    → i < n → read rest ≡ Ok (v, after) → begins (kind ∷ []) after ≡ false
    → with_front front (listed_at (n - i) kind read rest) ≡ total → total ≡ Ok (front ++ v ∷ [], after)
is_last front n i kind read rest v after total lt h b so_far =
    sym so_far
    ∙ one_step front n i kind read rest lt
    ∙ ap (λ r. with_front front (r >>= λ x. more_at kind (listed_at (n - (i + 1)) kind read) x.0 x.1)) h
    ∙ ap (λ r. with_front front r) (last_more kind (listed_at (n - (i + 1)) kind read) v after b)

pub ends : {A : Type 0} (e : Stuck) (front : List A) (n i kind : ℕ) (read : List Token → Result (A × List Token) ℕ) (rest : List Token) (total : Result (List A × List Token) ℕ)
    → i < n → Fails e (read rest) → with_front front (listed_at (n - i) kind read rest) ≡ total → Fails e total
ends stuck.Memory front n i kind read rest total lt h so_far = tt
ends (stuck.At left) front n i kind read rest total lt h so_far =
    sym so_far
    ∙ one_step front n i kind read rest lt
    ∙ ap (λ r. with_front front (r >>= λ x. more_at kind (listed_at (n - (i + 1)) kind read) x.0 x.1)) h

pub runs_out : {A : Type 0} (front : List A) (n i kind : ℕ) (read : List Token → Result (A × List Token) ℕ) (rest : List Token) (total : Result (List A × List Token) ℕ)
    → n ≤ i → with_front front (listed_at (n - i) kind read rest) ≡ total → total ≡ Err (length rest)
unfolding listed_at
runs_out front n i kind read rest total le so_far =
    let k : n - i ≡ 0 = omega arith in
    sym so_far ∙ ap (λ m. with_front front (listed_at m kind read rest)) k

-- ---- the same, where the separator may stand after the last one too

abbrev pub one_more : {A : Type 0} → List A → ℕ → ℕ → ℕ → List ℕ → (List Token → Result (A × List Token) ℕ) → Result (A × List Token) ℕ → Result (List A × List Token) ℕ
one_more front n i kind firsts read r = with_front front (r >>= λ x. onward_at kind firsts (ended_at (n - (i + 1)) kind firsts read) x.0 x.1)

one_step_ended : {A : Type 0} (front : List A) (n i kind : ℕ) (firsts : List ℕ) (read : List Token → Result (A × List Token) ℕ) (rest : List Token) → i < n
    → with_front front (ended_at (n - i) kind firsts read rest) ≡ one_more front n i kind firsts read (read rest)
unfolding ended_at
one_step_ended front n i kind firsts read rest lt =
    let k : n - i ≡ suc (n - (i + 1)) = omega arith in
    ap (λ m. with_front front (ended_at m kind firsts read rest)) k

onward_plain : {A : Type 0} (kind : ℕ) (firsts : List ℕ) (next : List Token → Result (List A × List Token) ℕ) (v : A) (after : List Token) → begins (kind ∷ []) after ≡ false
    → onward_at kind firsts next v after ≡ Ok (v ∷ [], after)
onward_plain kind firsts next v [] e = refl
onward_plain kind firsts next v (t ∷ ts) e =
    ap (λ b. cond b (cond (begins firsts ts) (next ts >>= λ us. Ok (v ∷ us.0, us.1)) (Ok (v ∷ [], ts))) (Ok (v ∷ [], t ∷ ts))) (or-false (nat_eq kind (kind_of t)) false e).0

onward_marked : {A : Type 0} (kind : ℕ) (firsts : List ℕ) (next : List Token → Result (List A × List Token) ℕ) (v : A) (after : List Token) (b : Bool) → begins (kind ∷ []) after ≡ true
    → begins firsts (drop 1 after) ≡ b → onward_at kind firsts next v after ≡ cond b (next (drop 1 after) >>= λ us. Ok (v ∷ us.0, us.1)) (Ok (v ∷ [], drop 1 after))
onward_marked kind firsts next v [] b e s = absurd cc
onward_marked kind firsts next v (t ∷ ts) b e s =
    ap (λ c. cond c (cond (begins firsts ts) (next ts >>= λ us. Ok (v ∷ us.0, us.1)) (Ok (v ∷ [], ts))) (Ok (v ∷ [], t ∷ ts))) (or-no (nat_eq kind (kind_of t)) e)
    ∙ ap (λ c. cond c (next ts >>= λ us. Ok (v ∷ us.0, us.1)) (Ok (v ∷ [], ts))) s

pub goes_onward : {A : Type 0} (front : List A) (n i kind : ℕ) (firsts : List ℕ) (read : List Token → Result (A × List Token) ℕ) (rest : List Token) (v : A) (after : List Token) (total : Result (List A × List Token) ℕ)
    → i < n → read rest ≡ Ok (v, after) → begins (kind ∷ []) after ≡ true → begins firsts (drop 1 after) ≡ true
    → with_front front (ended_at (n - i) kind firsts read rest) ≡ total → with_front (front ++ v ∷ []) (ended_at (n - (i + 1)) kind firsts read (drop 1 after)) ≡ total
goes_onward front n i kind firsts read rest v after total lt h b s so_far =
    sym (one_step_ended front n i kind firsts read rest lt
    ∙ ap (λ r. one_more front n i kind firsts read r) h
    ∙ ap (λ r. with_front front r) (onward_marked kind firsts (ended_at (n - (i + 1)) kind firsts read) v after true b s)
    ∙ regroup front v (ended_at (n - (i + 1)) kind firsts read (drop 1 after)))
    ∙ so_far

pub is_last_marked : {A : Type 0} (front : List A) (n i kind : ℕ) (firsts : List ℕ) (read : List Token → Result (A × List Token) ℕ) (rest : List Token) (v : A) (after : List Token) (total : Result (List A × List Token) ℕ)
    → i < n → read rest ≡ Ok (v, after) → begins (kind ∷ []) after ≡ true → begins firsts (drop 1 after) ≡ false
    → with_front front (ended_at (n - i) kind firsts read rest) ≡ total → total ≡ Ok (front ++ v ∷ [], drop 1 after)
is_last_marked front n i kind firsts read rest v after total lt h b s so_far =
    sym so_far
    ∙ one_step_ended front n i kind firsts read rest lt
    ∙ ap (λ r. one_more front n i kind firsts read r) h
    ∙ ap (λ r. with_front front r) (onward_marked kind firsts (ended_at (n - (i + 1)) kind firsts read) v after false b s)

pub is_last_plain : {A : Type 0} (front : List A) (n i kind : ℕ) (firsts : List ℕ) (read : List Token → Result (A × List Token) ℕ) (rest : List Token) (v : A) (after : List Token) (total : Result (List A × List Token) ℕ)
    → i < n → read rest ≡ Ok (v, after) → begins (kind ∷ []) after ≡ false
    → with_front front (ended_at (n - i) kind firsts read rest) ≡ total → total ≡ Ok (front ++ v ∷ [], after)
is_last_plain front n i kind firsts read rest v after total lt h b so_far =
    sym so_far
    ∙ one_step_ended front n i kind firsts read rest lt
    ∙ ap (λ r. one_more front n i kind firsts read r) h
    ∙ ap (λ r. with_front front r) (onward_plain kind firsts (ended_at (n - (i + 1)) kind firsts read) v after b)

pub ends_onward : {A : Type 0} (e : Stuck) (front : List A) (n i kind : ℕ) (firsts : List ℕ) (read : List Token → Result (A × List Token) ℕ) (rest : List Token) (total : Result (List A × List Token) ℕ)
    → i < n → Fails e (read rest) → with_front front (ended_at (n - i) kind firsts read rest) ≡ total → Fails e total
ends_onward stuck.Memory front n i kind firsts read rest total lt h so_far = tt
ends_onward (stuck.At left) front n i kind firsts read rest total lt h so_far =
    sym so_far
    ∙ one_step_ended front n i kind firsts read rest lt
    ∙ ap (λ r. one_more front n i kind firsts read r) h

pub runs_out_onward : {A : Type 0} (front : List A) (n i kind : ℕ) (firsts : List ℕ) (read : List Token → Result (A × List Token) ℕ) (rest : List Token) (total : Result (List A × List Token) ℕ)
    → n ≤ i → with_front front (ended_at (n - i) kind firsts read rest) ≡ total → total ≡ Err (length rest)
unfolding ended_at
runs_out_onward front n i kind firsts read rest total le so_far =
    let k : n - i ≡ 0 = omega arith in
    sym so_far ∙ ap (λ m. with_front front (ended_at m kind firsts read rest)) k
