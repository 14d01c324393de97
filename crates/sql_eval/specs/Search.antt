-- Evaluations over what is known, and searches through the partitions of a table. Source: CockroachDB's
-- documentation of locality optimized search, in this project's profile.
use Rattle.std.specs.Prelude.{ℕ, ◌+◌, Bool, if◌then◌else◌, List, [], ◌∷◌, length, Option, Some, None, Result, Ok, Err}
use Rattle.mr_base.specs.declared.spans.Ask.{Ask}
use Rattle.mr_base.specs.declared.spans.Span.{Span}
use Rattle.mr_base.specs.declared.states.SqlState.{SqlState}
use Rattle.row_locality.specs.Pairs.{KeyValue}
use Rattle.row_locality.specs.Plain.{Partition}
use Rattle.sql_eval.specs.Reads.{Reads}

-- ---- evaluations

-- What an evaluation comes to: a value, a fault, or a span that it needs next, with how many searches may
-- come after the present one and how many spans the present one may still need.
pub data Evaluation (A : Type 0) : Type 0 where
  gives : A → Evaluation A
  faults : SqlState → Evaluation A
  needs : Ask → (phases asks : ℕ) → Evaluation A

infixl 10 ◌>>=◌
abbrev pub ◌>>=◌ : {A B : Type 0} → Evaluation A → (A → Evaluation B) → Evaluation B
(gives x) >>= f = f x
(faults e) >>= f = faults e
(needs ask phases asks) >>= f = needs ask phases asks

-- An evaluation behind which at most so many searches follow.
abbrev pub followed_by : {A : Type 0} → ℕ → Evaluation A → Evaluation A
followed_by n (gives x) = gives x
followed_by n (faults e) = faults e
followed_by n (needs ask phases asks) = needs ask (phases + n) asks

abbrev pub of_result : {A : Type 0} → Result A SqlState → Evaluation A
of_result (Ok x) = gives x
of_result (Err e) = faults e

-- ---- searches

-- A span to look up in a partition, in the index of this number.
pub record Lookup : Type 0 where
  pub partition : Partition
  pub index : ℕ
  pub span : Span

abbrev pub ask_of : Lookup → Ask
ask_of l = record { range = l.partition.range; span = l.span }

-- A span that was looked up, with what it held.
abbrev pub Answer : Type 0
Answer = Lookup × List KeyValue

abbrev pub behind : Answer → Evaluation (List Answer) → Evaluation (List Answer)
behind a rest = rest >>= λ answers. gives (a ∷ answers)

abbrev pub after_answer : (Answer → Bool) → Lookup → ℕ → Option (List KeyValue) → Evaluation (List Answer) → Evaluation (List Answer)
after_answer ends l left None rest = needs (ask_of l) 0 left
after_answer ends l left (Some pairs) rest = if ends (l, pairs) then gives ((l, pairs) ∷ []) else behind (l, pairs) rest

-- Spans are looked up one after the other, to the first answer at which the search ends. The first that
-- isn't known is needed next; it and those after it are still to come.
unfoldable pub search : Reads → (Answer → Bool) → List Lookup → Evaluation (List Answer)
search reads ends [] = gives []
search reads ends (l ∷ ls) = after_answer ends l (length (l ∷ ls)) (reads (ask_of l)) (search reads ends ls)
