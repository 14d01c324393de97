-- What holds of evaluations, and how it passes on to what follows them.
use Rattle.std.proofs.Common.{◌≡◌, ℕ, ◌+◌, ◌<◌, ◌≤◌, refl, sym, ap, subst, inl, inr, arith}
use Rattle.std.specs.Prelude.{⊤, Some, Result, Ok, Err, List}
use Rattle.mr_base.specs.Scripts.{IsNearer}
use Rattle.mr_base.specs.declared.spans.Ask.{Ask}
use Rattle.mr_base.specs.declared.states.SqlState.{SqlState}
use Rattle.row_locality.specs.Pairs.{KeyValue}
use Rattle.sql_eval.specs.Reads.{Reads}
use Rattle.sql_eval.specs.Search.{Evaluation, gives, faults, needs, ◌>>=◌, followed_by, of_result}

-- ---- nearer to the end

-- it needs nothing more, or is nearer to its end than so many phases and asks
abbrev pub IsLower : {A : Type 0} → (phases asks : ℕ) → Evaluation A → Type 0
IsLower p n (gives x) = ⊤
IsLower p n (faults e) = ⊤
IsLower p n (needs ask q m) = IsNearer p n q m

-- an evaluation over a part of what is known, and the same over the whole: it comes to the same, and where
-- it needs a span that is known then, it is nearer to its end
abbrev pub IsKept : {A : Type 0} → Reads → (part whole : Evaluation A) → Type 0
IsKept whole (gives x) f = f ≡ gives x
IsKept whole (faults e) f = f ≡ faults e
IsKept whole (needs ask p n) f = (pairs : List KeyValue) → whole ask ≡ Some pairs → IsLower p n f

-- fewer phases than this are to come
abbrev pub HasPhases : {A : Type 0} → ℕ → Evaluation A → Type 0
HasPhases n (gives x) = ⊤
HasPhases n (faults e) = ⊤
HasPhases n (needs ask p m) = p < n

pub phases_more : {A : Type 0} (n m : ℕ) (e : Evaluation A) → n ≤ m → HasPhases n e → HasPhases m e
phases_more n m (gives x) l h = tt
phases_more n m (faults e) l h = tt
phases_more n m (needs ask p k) l h = omega arith

pub phases_followed : {A : Type 0} (n m k : ℕ) (e : Evaluation A) → n + m ≤ k → HasPhases n e → HasPhases k (followed_by m e)
phases_followed n m k (gives x) l h = tt
phases_followed n m k (faults e) l h = tt
phases_followed n m k (needs ask p q) l h = omega arith

pub phases_bind : {A B : Type 0} (n : ℕ) (e : Evaluation A) (f : A → Evaluation B) → HasPhases n e → ((x : A) → HasPhases n (f x)) → HasPhases n (e >>= f)
phases_bind n (gives x) f h k = k x
phases_bind n (faults e) f h k = tt
phases_bind n (needs ask p q) f h k = h

pub phases_result : {A B : Type 0} (n : ℕ) (r : Result A SqlState) (f : A → Evaluation B) → ((x : A) → HasPhases n (f x)) → HasPhases n (of_result r >>= f)
phases_result n (Ok x) f k = k x
phases_result n (Err e) f k = tt

pub lower_phases : {A : Type 0} (p m n : ℕ) (e : Evaluation A) → n ≤ p → HasPhases n e → IsLower p m e
lower_phases p m n (gives x) l h = tt
lower_phases p m n (faults e) l h = tt
lower_phases p m n (needs ask q k) l h = inl (omega arith)

nearer_later : (p m q k n : ℕ) → IsNearer p m q k → IsNearer (p + n) m (q + n) k
nearer_later p m q k n (inl h) = inl (omega arith)
nearer_later p m q k n (inr (e, h)) = inr (omega arith, h)

lower_bind : {A B : Type 0} (p m n : ℕ) (e : Evaluation A) (f : A → Evaluation B) → IsLower p m e → ((x : A) → HasPhases n (f x)) → IsLower (p + n) m (followed_by n e >>= f)
lower_bind p m n (gives x) f h k = lower_phases (p + n) m n (f x) (omega arith) (k x)
lower_bind p m n (faults e) f h k = tt
lower_bind p m n (needs ask q j) f h k = nearer_later p m q j n h

-- what follows an evaluation that counts it
pub kept_bind : {A B : Type 0} (whole : Reads) (n : ℕ) (e f : Evaluation A) (g h : A → Evaluation B) → IsKept whole e f
    → ((x : A) → IsKept whole (g x) (h x)) → ((x : A) → HasPhases n (h x)) → IsKept whole (followed_by n e >>= g) (followed_by n f >>= h)
kept_bind whole n (gives x) f g h p q r = subst (λ k. IsKept whole (g x) (followed_by n k >>= h)) (sym p) (q x)
kept_bind whole n (faults e) f g h p q r = ap (λ k. followed_by n k >>= h) p
kept_bind whole n (needs ask i m) f g h p q r = λ pairs e. lower_bind i m n f h (p pairs e) r

lower_end : {A B : Type 0} (p m : ℕ) (e : Evaluation A) (f : A → Evaluation B) → IsLower p m e → ((x : A) → HasPhases 0 (f x)) → IsLower p m (e >>= f)
lower_end p m (gives x) f h k = lower_phases p m 0 (f x) (omega arith) (k x)
lower_end p m (faults e) f h k = tt
lower_end p m (needs ask q j) f h k = h

-- what follows and needs nothing
pub kept_end : {A B : Type 0} (whole : Reads) (e f : Evaluation A) (g h : A → Evaluation B) → IsKept whole e f
    → ((x : A) → IsKept whole (g x) (h x)) → ((x : A) → HasPhases 0 (h x)) → IsKept whole (e >>= g) (f >>= h)
kept_end whole (gives x) f g h p q r = subst (λ k. IsKept whole (g x) (k >>= h)) (sym p) (q x)
kept_end whole (faults e) f g h p q r = ap (λ k. k >>= h) p
kept_end whole (needs ask i m) f g h p q r = λ pairs e. lower_end i m f h (p pairs e) r

pub kept_result : {A B : Type 0} (whole : Reads) (r : Result A SqlState) (g h : A → Evaluation B) → ((x : A) → IsKept whole (g x) (h x))
    → IsKept whole (of_result r >>= g) (of_result r >>= h)
kept_result whole (Ok x) g h q = q x
kept_result whole (Err e) g h q = refl

-- what is known of one is known of the other
pub kept_through : {A : Type 0} (whole other : Reads) (e f : Evaluation A)
    → ((ask : Ask) (pairs : List KeyValue) → other ask ≡ Some pairs → (more : List KeyValue) × (whole ask ≡ Some more)) → IsKept whole e f → IsKept other e f
kept_through whole other (gives x) f k h = h
kept_through whole other (faults e) f k h = h
kept_through whole other (needs ask p n) f k h = λ pairs e. h (k ask pairs e).0 (k ask pairs e).1

-- ---- what is needed

-- a span that it needs is such, with so many that the present search may need
abbrev pub Needs : {A : Type 0} → (Ask → ℕ → Type 0) → Evaluation A → Type 0
Needs P (gives x) = ⊤
Needs P (faults e) = ⊤
Needs P (needs ask p n) = P ask n

-- what it gives is such
abbrev pub Gives : {A : Type 0} → (A → Type 0) → Evaluation A → Type 0
Gives Q (gives x) = Q x
Gives Q (faults e) = ⊤
Gives Q (needs ask p n) = ⊤

pub gives_any : {A : Type 0} (e : Evaluation A) → Gives (λ _. ⊤) e
gives_any (gives x) = tt
gives_any (faults e) = tt
gives_any (needs ask p n) = tt

pub gives_bind : {A B : Type 0} (Q : A → Type 0) (R : B → Type 0) (e : Evaluation A) (f : A → Evaluation B) → Gives Q e → ((x : A) → Q x → Gives R (f x)) → Gives R (e >>= f)
gives_bind Q R (gives x) f h k = k x h
gives_bind Q R (faults e) f h k = tt
gives_bind Q R (needs ask p n) f h k = tt

pub gives_followed : {A : Type 0} (Q : A → Type 0) (n : ℕ) (e : Evaluation A) → Gives Q e → Gives Q (followed_by n e)
gives_followed Q n (gives x) h = h
gives_followed Q n (faults e) h = tt
gives_followed Q n (needs ask p m) h = tt

pub needs_followed : {A : Type 0} (P : Ask → ℕ → Type 0) (n : ℕ) (e : Evaluation A) → Needs P e → Needs P (followed_by n e)
needs_followed P n (gives x) h = tt
needs_followed P n (faults e) h = tt
needs_followed P n (needs ask p m) h = h

pub needs_given : {A B : Type 0} (P : Ask → ℕ → Type 0) (Q : A → Type 0) (e : Evaluation A) (f : A → Evaluation B) → Needs P e → Gives Q e
    → ((x : A) → Q x → Needs P (f x)) → Needs P (e >>= f)
needs_given P Q (gives x) f h g k = k x g
needs_given P Q (faults e) f h g k = tt
needs_given P Q (needs ask p n) f h g k = h

pub needs_bind : {A B : Type 0} (P : Ask → ℕ → Type 0) (e : Evaluation A) (f : A → Evaluation B) → Needs P e → ((x : A) → Needs P (f x)) → Needs P (e >>= f)
needs_bind P e f h k = needs_given P (λ _. ⊤) e f h (gives_any e) (λ x _. k x)

pub needs_result : {A B : Type 0} (P : Ask → ℕ → Type 0) (r : Result A SqlState) (f : A → Evaluation B) → ((x : A) → r ≡ Ok x → Needs P (f x))
    → Needs P (of_result r >>= f)
needs_result P (Ok x) f k = k x refl
needs_result P (Err e) f k = tt
