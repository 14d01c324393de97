-- Searches over a part and over the whole of what is known, and what they need.
use Rattle.std.proofs.Common.{◌≡◌, ℕ, suc, ◌<◌, ◌≤◌, Bool, true, false, List, [], ◌∷◌, length, refl, sym, subst, inl, inr, arith}
use Rattle.std.specs.Prelude.{if◌then◌else◌, Option, Some, None}
use Rattle.std.specs.List.{AllByRecursion}
use Rattle.mr_base.specs.declared.spans.Ask.{Ask}
use Rattle.row_locality.specs.Pairs.{KeyValue}
use Rattle.sql_eval.specs.Reads.{Reads, IsPartOf}
use Rattle.sql_eval.specs.Search.{Evaluation, gives, faults, needs, Lookup, Answer, ask_of, behind, after_answer, search as searched}
use Rattle.answer_laws.proofs.Evaluations.{IsLower, IsKept, HasPhases, Needs, Gives, kept_end, phases_bind, needs_bind, gives_bind}

-- ---- phases and asks

pub phases_if : (n : ℕ) (b : Bool) (x : List Answer) (e : Evaluation (List Answer)) → HasPhases n e → HasPhases n (if b then gives x else e)
phases_if n true x e h = tt
phases_if n false x e h = h

phases_answer : (ends : Answer → Bool) (l : Lookup) (left : ℕ) (r : Option (List KeyValue)) (e : Evaluation (List Answer)) → HasPhases 1 e
    → HasPhases 1 (after_answer ends l left r e)
phases_answer ends l left None e h = omega arith
phases_answer ends l left (Some pairs) e h = phases_if 1 (ends (l, pairs)) ((l, pairs) ∷ []) (behind (l, pairs) e) (phases_bind 1 e _ h (λ answers. tt))

-- a search is one phase
pub search_phases : (reads : Reads) (ends : Answer → Bool) (ls : List Lookup) → HasPhases 1 (searched reads ends ls)
unfolding searched
search_phases reads ends [] = tt
search_phases reads ends (l ∷ ls) = phases_answer ends l (length (l ∷ ls)) (reads (ask_of l)) (searched reads ends ls) (search_phases reads ends ls)

-- it needs no more than so many
abbrev IsAtMost : ℕ → Evaluation (List Answer) → Type 0
IsAtMost n e = IsLower 0 (suc n) e

most_behind : (n : ℕ) (a : Answer) (e : Evaluation (List Answer)) → IsAtMost n e → IsAtMost n (behind a e)
most_behind n a (gives x) h = tt
most_behind n a (faults e) h = tt
most_behind n a (needs ask p m) h = h

most_more : (n m : ℕ) (e : Evaluation (List Answer)) → n ≤ m → IsAtMost n e → IsAtMost m e
most_more n m (gives x) l h = tt
most_more n m (faults e) l h = tt
most_more n m (needs ask p k) l (inl h) = inl h
most_more n m (needs ask p k) l (inr (e, h)) = inr (e, omega arith)

most_if : (n : ℕ) (b : Bool) (x : List Answer) (e : Evaluation (List Answer)) → IsAtMost n e → IsAtMost n (if b then gives x else e)
most_if n true x e h = tt
most_if n false x e h = h

most_answer : (ends : Answer → Bool) (l : Lookup) (n : ℕ) (r : Option (List KeyValue)) (e : Evaluation (List Answer)) → IsAtMost n e
    → IsAtMost (suc n) (after_answer ends l (suc n) r e)
most_answer ends l n None e h = inr (refl, omega arith)
most_answer ends l n (Some pairs) e h =
    most_if (suc n) (ends (l, pairs)) ((l, pairs) ∷ []) (behind (l, pairs) e) (most_more n (suc n) _ (omega arith) (most_behind n (l, pairs) e h))

search_most : (reads : Reads) (ends : Answer → Bool) (ls : List Lookup) → IsAtMost (length ls) (searched reads ends ls)
unfolding searched
search_most reads ends [] = tt
search_most reads ends (l ∷ ls) = most_answer ends l (length ls) (reads (ask_of l)) (searched reads ends ls) (search_most reads ends ls)

-- ---- part and whole

pub kept_if : (whole : Reads) (b : Bool) (x : List Answer) (e f : Evaluation (List Answer)) → IsKept whole e f
    → IsKept whole (if b then gives x else e) (if b then gives x else f)
kept_if whole true x e f h = refl
kept_if whole false x e f h = h

kept_answer : (whole : Reads) (ends : Answer → Bool) (l : Lookup) (n : ℕ) (r s : Option (List KeyValue)) (e f : Evaluation (List Answer))
    → whole (ask_of l) ≡ s → ((pairs : List KeyValue) → r ≡ Some pairs → s ≡ Some pairs) → IsAtMost n f → IsKept whole e f
    → IsKept whole (after_answer ends l (suc n) r e) (after_answer ends l (suc n) s f)
kept_answer whole ends l n None None e f w k m h = λ pairs q. absurd (cc)
kept_answer whole ends l n None (Some more) e f w k m h = λ pairs q. most_if n (ends (l, more)) ((l, more) ∷ []) (behind (l, more) f) (most_behind n (l, more) f m)
kept_answer whole ends l n (Some pairs) s e f w k m h =
    subst (λ t. IsKept whole (after_answer ends l (suc n) (Some pairs) e) (after_answer ends l (suc n) t f)) (sym (k pairs refl))
    (kept_if whole (ends (l, pairs)) ((l, pairs) ∷ []) (behind (l, pairs) e) (behind (l, pairs) f)
    (kept_end whole e f _ _ h (λ answers. refl) (λ answers. tt)))

pub search_kept : (part whole : Reads) → IsPartOf part whole → (ends : Answer → Bool) (ls : List Lookup)
    → IsKept whole (searched part ends ls) (searched whole ends ls)
unfolding searched
search_kept part whole h ends [] = refl
search_kept part whole h ends (l ∷ ls) =
    kept_answer whole ends l (length ls) (part (ask_of l)) (whole (ask_of l)) (searched part ends ls) (searched whole ends ls) refl (h (ask_of l))
    (search_most whole ends ls) (search_kept part whole h ends ls)

-- ---- what a search needs and gives

-- such spans may be needed where they aren't known
abbrev pub MayNeed : Reads → (Ask → ℕ → Type 0) → Lookup → Type 0
MayNeed reads P l = (n : ℕ) → 0 < n → reads (ask_of l) ≡ None → P (ask_of l) n

pub needs_if : (P : Ask → ℕ → Type 0) (b : Bool) (x : List Answer) (e : Evaluation (List Answer)) → Needs P e → Needs P (if b then gives x else e)
needs_if P true x e h = tt
needs_if P false x e h = h

needs_answer : (P : Ask → ℕ → Type 0) (ends : Answer → Bool) (l : Lookup) (n : ℕ) (r : Option (List KeyValue)) (e : Evaluation (List Answer))
    → (r ≡ None → P (ask_of l) n) → Needs P e → Needs P (after_answer ends l n r e)
needs_answer P ends l n None e k h = k refl
needs_answer P ends l n (Some pairs) e k h = needs_if P (ends (l, pairs)) ((l, pairs) ∷ []) (behind (l, pairs) e) (needs_bind P e _ h (λ answers. tt))

pub search_needs : (reads : Reads) (P : Ask → ℕ → Type 0) (ends : Answer → Bool) (ls : List Lookup) → AllByRecursion (MayNeed reads P) ls
    → Needs P (searched reads ends ls)
unfolding searched
search_needs reads P ends [] h = tt
search_needs reads P ends (l ∷ ls) h =
    needs_answer P ends l (length (l ∷ ls)) (reads (ask_of l)) (searched reads ends ls) (h.0 (length (l ∷ ls)) (omega arith))
    (search_needs reads P ends ls h.1)

gives_if : (Q : List Answer → Type 0) (b : Bool) (x : List Answer) (e : Evaluation (List Answer)) → Q x → Gives Q e → Gives Q (if b then gives x else e)
gives_if Q true x e q h = q
gives_if Q false x e q h = h

gives_answer : (Q : Lookup → Type 0) (ends : Answer → Bool) (l : Lookup) (n : ℕ) (r : Option (List KeyValue)) (e : Evaluation (List Answer))
    → Q l → Gives (AllByRecursion (λ a. Q a.0)) e → Gives (AllByRecursion (λ a. Q a.0)) (after_answer ends l n r e)
gives_answer Q ends l n None e q h = tt
gives_answer Q ends l n (Some pairs) e q h =
    gives_if (AllByRecursion (λ a. Q a.0)) (ends (l, pairs)) ((l, pairs) ∷ []) (behind (l, pairs) e) (q, tt)
    (gives_bind (AllByRecursion (λ a. Q a.0)) (AllByRecursion (λ a. Q a.0)) e _ h (λ answers k. (q, k)))

-- the answers are of look-ups of the search
pub search_gives : (reads : Reads) (Q : Lookup → Type 0) (ends : Answer → Bool) (ls : List Lookup) → AllByRecursion Q ls
    → Gives (AllByRecursion (λ a. Q a.0)) (searched reads ends ls)
unfolding searched
search_gives reads Q ends [] h = tt
search_gives reads Q ends (l ∷ ls) h =
    gives_answer Q ends l (length (l ∷ ls)) (reads (ask_of l)) (searched reads ends ls) h.0 (search_gives reads Q ends ls h.1)
