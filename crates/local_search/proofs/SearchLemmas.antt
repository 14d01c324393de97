-- A search that was answered by what is known is the defined one.
use Rattle.std.proofs.Common.{◌≡◌, ℕ, ◌-◌, ◌==◌, Bool, true, false, not, cond, ◌&&◌, List, [], ◌∷◌, length, map, drop, refl, ap, arith, sym, ◌∙◌, slice_get}
use Rattle.std.specs.Prelude.{Option, Some, None, MatchOption}
use Rattle.std.specs.List.{zip}
use Rattle.mr_base.specs.declared.spans.Ask.{Ask}
use Rattle.mr_base.specs.declared.spans.Pair.{Pair}
use Rattle.row_locality.specs.Pairs.{KeyValue}
use Rattle.sql_eval.specs.Reads.{Reads}
use Rattle.sql_eval.specs.Search.{Evaluation, Lookup, Answer, ask_of, search, gives, needs, behind, after_answer}
use Rattle.local_search.specs.Searching.{Searching, begun, next_in, after_rows, has_hit, with_first}
use Rattle.local_search.specs.SearchLaws.{pair_of, after_all, AreKnown, ends_where, IsAsDefined, SearchIsAsDefined}
use Rattle.local_search.proofs.Choices.{at_none, at_some, none_is_asked, asked_at, match_map, none_if, same_if, hit_after}
use Rattle.local_search.proofs.OrderLemmas.{slice_get-drop, drop_next}

-- ---- the definition, a span at a time

abbrev with_answer : (Answer → Bool) → Lookup → Evaluation (List Answer) → List KeyValue → Evaluation (List Answer)
with_answer ends l rest pairs = cond (ends (l, pairs)) (gives ((l, pairs) ∷ [])) (behind (l, pairs) rest)

after_none : (ends : Answer → Bool) (l : Lookup) (n : ℕ) (o : Option (List KeyValue)) (rest : Evaluation (List Answer)) →
    o ≡ None → after_answer ends l n o rest ≡ needs (ask_of l) 0 n
after_none ends l n None rest e = refl
after_none ends l n (Some pairs) rest e = cc

after_some : (ends : Answer → Bool) (l : Lookup) (n : ℕ) (o : Option (List KeyValue)) (rest : Evaluation (List Answer)) →
    (pairs : List KeyValue) → o ≡ Some pairs → after_answer ends l n o rest ≡ with_answer ends l rest pairs
after_some ends l n None rest pairs e = cc
after_some ends l n (Some known) rest pairs e = let same : known ≡ pairs = cc in ap (with_answer ends l rest) same

search_needs : (reads : Reads) (ends : Answer → Bool) (l : Lookup) (ls : List Lookup) → reads (ask_of l) ≡ None →
    search reads ends (l ∷ ls) ≡ needs (ask_of l) 0 (length (l ∷ ls))
unfolding search
search_needs reads ends l ls e = after_none ends l (length (l ∷ ls)) (reads (ask_of l)) (search reads ends ls) e

search_goes_on : (reads : Reads) (ends : Answer → Bool) (l : Lookup) (ls : List Lookup) (pairs : List KeyValue) →
    reads (ask_of l) ≡ Some pairs → search reads ends (l ∷ ls) ≡ with_answer ends l (search reads ends ls) pairs
unfolding search
search_goes_on reads ends l ls pairs e = after_some ends l (length (l ∷ ls)) (reads (ask_of l)) (search reads ends ls) pairs e

search_none : (reads : Reads) (ends : Answer → Bool) → search reads ends [] ≡ gives []
unfolding search
search_none reads ends = refl

ends_here : (ends : Answer → Bool) (l : Lookup) (rest : Evaluation (List Answer)) (pairs : List KeyValue) →
    ends (l, pairs) ≡ true → with_answer ends l rest pairs ≡ gives ((l, pairs) ∷ [])
ends_here ends l rest pairs e = ap (λ b. cond b (gives ((l, pairs) ∷ [])) (behind (l, pairs) rest)) e

goes_on : (ends : Answer → Bool) (l : Lookup) (rest : Evaluation (List Answer)) (pairs : List KeyValue) →
    ends (l, pairs) ≡ false → with_answer ends l rest pairs ≡ behind (l, pairs) rest
goes_on ends l rest pairs e = ap (λ b. cond b (gives ((l, pairs) ∷ [])) (behind (l, pairs) rest)) e

-- ---- the search, a span at a time

next_is : (s : Searching) → has_hit s ≡ false → next_in s ≡ slice_get (drop s.answered s.order) 0
next_is s no_hit = same_if (has_hit s) (slice_get s.order s.answered) no_hit ∙ slice_get-drop s.order s.answered

zip-nil : {A B : Type 0} (xs : List A) (ys : List B) → ys ≡ [] → zip xs ys ≡ []
zip-nil [] ys e = refl
zip-nil (x ∷ xs) [] e = refl
zip-nil (x ∷ xs) (y ∷ ys) e = cc

-- After a hit nothing more was answered.
ended : (reads : Reads) (l : Lookup) (ls : List Lookup) (pairs : List KeyValue) (known : List (List KeyValue)) (s : Searching) →
    has_hit s ≡ true → AreKnown reads s known → search reads (ends_where s.stops) (l ∷ ls) ≡ gives ((l, pairs) ∷ []) →
    IsAsDefined reads s.stops (l ∷ ls) (pairs ∷ known) (after_all s known)
ended reads l ls pairs [] s hit k e =
    at_none _ _ (next_in s) (none_if (has_hit s) (slice_get s.order s.answered) hit)
    (e ∙ ap (λ zs. gives ((l, pairs) ∷ zs)) (sym (zip-nil ls [] refl)))
ended reads l ls pairs (more ∷ known) s hit k e =
    absurd (none_is_asked _ (next_in s) (none_if (has_hit s) (slice_get s.order s.answered) hit) k.0)

went_on : (reads : Reads) (ends : Answer → Bool) (l : Lookup) (ls : List Lookup) (pairs : List KeyValue) (known : List (List KeyValue)) (o : Option Ask) →
    search reads ends (l ∷ ls) ≡ behind (l, pairs) (search reads ends ls) →
    MatchOption o (search reads ends ls ≡ gives (zip ls known))
    (λ ask. reads ask ≡ None → search reads ends ls ≡ needs ask 0 (length ls - length known)) →
    MatchOption o (search reads ends (l ∷ ls) ≡ gives (zip (l ∷ ls) (pairs ∷ known)))
    (λ ask. reads ask ≡ None → search reads ends (l ∷ ls) ≡ needs ask 0 (length (l ∷ ls) - length (pairs ∷ known)))
went_on reads ends l ls pairs known o e m =
    let left : length ls - length known ≡ length (l ∷ ls) - length (pairs ∷ known) = omega arith in
    match_map _ _ _ _ o
    (λ given. e ∙ ap (behind (l, pairs)) given)
    (λ ask needed unknown. e ∙ ap (behind (l, pairs)) (needed unknown) ∙ ap (λ n. needs ask 0 n) left)
    m

step : (reads : Reads) (l : Lookup) (ls : List Lookup) (pairs : List KeyValue) (known : List (List KeyValue)) (s : Searching) (b : Bool) →
    ends_where s.stops (l, pairs) ≡ b → has_hit s ≡ b → reads (ask_of l) ≡ Some pairs → AreKnown reads s known →
    (has_hit s ≡ false → IsAsDefined reads s.stops ls known (after_all s known)) →
    IsAsDefined reads s.stops (l ∷ ls) (pairs ∷ known) (after_all s known)
step reads l ls pairs known s true ends hit is k rest =
    ended reads l ls pairs known s hit k
    (search_goes_on reads (ends_where s.stops) l ls pairs is ∙ ends_here (ends_where s.stops) l (search reads (ends_where s.stops) ls) pairs ends)
step reads l ls pairs known s false ends hit is k rest =
    went_on reads (ends_where s.stops) l ls pairs known (next_in (after_all s known))
    (search_goes_on reads (ends_where s.stops) l ls pairs is ∙ goes_on (ends_where s.stops) l (search reads (ends_where s.stops) ls) pairs ends)
    (rest hit)

as_defined : (reads : Reads) (ls : List Lookup) (known : List (List KeyValue)) (s : Searching) → has_hit s ≡ false →
    drop s.answered s.order ≡ map ask_of ls → AreKnown reads s known → IsAsDefined reads s.stops ls known (after_all s known)
as_defined reads [] [] s no_hit left k =
    at_none _ _ (next_in s) (next_is s no_hit ∙ ap (λ xs. slice_get xs 0) left) (search_none reads (ends_where s.stops))
as_defined reads [] (pairs ∷ known) s no_hit left k =
    absurd (none_is_asked _ (next_in s) (next_is s no_hit ∙ ap (λ xs. slice_get xs 0) left) k.0)
as_defined reads (l ∷ ls) [] s no_hit left k =
    let all : length (l ∷ ls) ≡ length (l ∷ ls) - 0 = omega arith in
    at_some _ _ (next_in s) (ask_of l) (next_is s no_hit ∙ ap (λ xs. slice_get xs 0) left)
    (λ unknown. search_needs reads (ends_where s.stops) l ls unknown ∙ ap (λ n. needs (ask_of l) 0 n) all)
as_defined reads (l ∷ ls) (pairs ∷ known) s no_hit left k =
    let after : Searching = after_rows s (map pair_of pairs) in
    let is : reads (ask_of l) ≡ Some pairs =
    asked_at (λ ask. reads ask ≡ Some pairs) (next_in s) (ask_of l) (next_is s no_hit ∙ ap (λ xs. slice_get xs 0) left) k.0 in
    step reads l ls pairs known after (ends_where s.stops (l, pairs)) refl
    (hit_after pair_of s.stops s.found pairs no_hit) is k.1
    (λ still. as_defined reads ls known after still (drop_next s.order (map ask_of ls) (ask_of l) s.answered left) k.1)

with_first_zero : (xs : List Ask) → with_first 0 xs ≡ xs
with_first_zero [] = refl
with_first_zero (x ∷ xs) = refl

no_hit_yet : (stops : Bool) → (stops && not (length {A = Pair} [] == 0)) ≡ false
no_hit_yet true = refl
no_hit_yet false = refl

pub search_is_as_defined : SearchIsAsDefined
search_is_as_defined reads stops ls known k =
    as_defined reads ls known (begun (map ask_of ls) 0 stops) (no_hit_yet stops) (with_first_zero (map ask_of ls)) k
