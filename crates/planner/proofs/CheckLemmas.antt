-- Look-ups of new rows, one after the other.
use Rattle.std.proofs.Common.{◌≡◌, ℕ, ◌+◌, ◌<◌, ◌≤◌, Bool, true, false, List, [], ◌∷◌, drop, get_or, length, refl, sym, ap, ◌∙◌}
use Rattle.std.specs.Prelude.{◌||◌, if◌then◌else◌, Option, Some, None}
use Rattle.std.specs.List.{list_any}
use Rattle.std.proofs.lemmas.List.{at_drop_more, drop-drop, drop_all}
use Rattle.mr_base.specs.declared.spans.Ask.{Ask}
use Rattle.mr_base.specs.declared.states.SqlState.TheVariants.{S23505}
use Rattle.row_locality.specs.Pairs.{KeyValue}
use Rattle.sql_eval.specs.Evaluation.{KeyedRow, Outcome, meets_other}
use Rattle.sql_eval.specs.Reads.{Reads}
use Rattle.sql_eval.specs.Search.{Evaluation, gives, faults, needs, ◌>>=◌, Answer, Lookup, after_answer, ask_of, behind, search}
use Rattle.planner.specs.Checks.{meets}
use Rattle.planner.specs.Phases.{rest_of_check}
use Rattle.planner.specs.Turns.{AreSame, IsNeeded}
use Rattle.planner.specs.declared.phases.UniqueCheck.{UniqueCheck}

abbrev hit : List KeyedRow → List Answer → Evaluation Bool
hit replaced answers = gives (list_any (meets_other replaced) answers)

-- ---- one look-up

behind_miss : (replaced : List KeyedRow) (a : Answer) (rest : Evaluation (List Answer)) → meets_other replaced a ≡ false
    → (behind a rest >>= hit replaced) ≡ (rest >>= hit replaced)
behind_miss replaced a (gives answers) m = ap (λ (b : Bool). gives (b || list_any (meets_other replaced) answers)) m
behind_miss replaced a (faults e) m = refl
behind_miss replaced a (needs ask phases asks) m = refl

abbrev step : List KeyedRow → Lookup → ℕ → Option (List KeyValue) → Evaluation (List Answer) → Evaluation Bool
step replaced l left o rest = after_answer (meets_other replaced) l left o rest >>= hit replaced

step_miss : (replaced : List KeyedRow) (l : Lookup) (left : ℕ) (pairs : List KeyValue) (rest : Evaluation (List Answer)) → meets_other replaced (l, pairs) ≡ false
    → step replaced l left (Some pairs) rest ≡ (rest >>= hit replaced)
step_miss replaced l left pairs rest m =
    ap (λ (b : Bool). (if b then gives ((l, pairs) ∷ []) else behind (l, pairs) rest) >>= hit replaced) m
    ∙ behind_miss replaced (l, pairs) rest m

step_hit : (replaced : List KeyedRow) (l : Lookup) (left : ℕ) (pairs : List KeyValue) (rest : Evaluation (List Answer)) → meets_other replaced (l, pairs) ≡ true
    → step replaced l left (Some pairs) rest ≡ gives true
step_hit replaced l left pairs rest m =
    ap (λ (b : Bool). (if b then gives ((l, pairs) ∷ []) else behind (l, pairs) rest) >>= hit replaced) m
    ∙ ap (λ (b : Bool). gives (b || false)) m

meets_first : (replaced : List KeyedRow) (l : Lookup) (ls : List Lookup) (reads : Reads) (o : Option (List KeyValue)) → reads (ask_of l) ≡ o
    → meets replaced (l ∷ ls) reads ≡ step replaced l (length (l ∷ ls)) o (search reads (meets_other replaced) ls)
unfolding search
meets_first replaced l ls reads o e = ap (λ o. step replaced l (length (l ∷ ls)) o (search reads (meets_other replaced) ls)) e

meets_nothing : (replaced : List KeyedRow) (reads : Reads) → meets replaced [] reads ≡ gives false
unfolding search
meets_nothing replaced reads = refl

-- ---- one look-up of a list

module _ (known : Reads) (replaced : List KeyedRow) (lookups : List Lookup) (i : ℕ) (d : Lookup) (h : i < length lookups) where
  abbrev l : Lookup
  l = get_or lookups i d

  split : (reads : Reads) → meets replaced (drop i lookups) reads ≡ meets replaced (l ∷ drop (i + 1) lookups) reads
  split reads = at_drop_more (λ ls. meets replaced ls reads) lookups i d h

  -- it meets no row that isn't replaced
  pub passes_one : (pairs : List KeyValue) → known (ask_of l) ≡ Some pairs → meets_other replaced (l, pairs) ≡ false
      → AreSame known (meets replaced lookups) (meets replaced (drop i lookups)) → AreSame known (meets replaced lookups) (meets replaced (drop (i + 1) lookups))
  passes_one pairs k m s = λ reads part.
      s reads part ∙ split reads
      ∙ meets_first replaced l (drop (i + 1) lookups) reads (Some pairs) (part (ask_of l) pairs k)
      ∙ step_miss replaced l (length (l ∷ drop (i + 1) lookups)) pairs (search reads (meets_other replaced) (drop (i + 1) lookups)) m

  -- it meets one
  pub meets_one : (pairs : List KeyValue) → known (ask_of l) ≡ Some pairs → meets_other replaced (l, pairs) ≡ true
      → AreSame known (meets replaced lookups) (meets replaced (drop i lookups)) → AreSame known (meets replaced lookups) (λ reads. gives true)
  meets_one pairs k m s = λ reads part.
      s reads part ∙ split reads
      ∙ meets_first replaced l (drop (i + 1) lookups) reads (Some pairs) (part (ask_of l) pairs k)
      ∙ step_hit replaced l (length (l ∷ drop (i + 1) lookups)) pairs (search reads (meets_other replaced) (drop (i + 1) lookups)) m

  -- it isn't known
  pub needs_one : known (ask_of l) ≡ None → IsNeeded (meets replaced (drop i lookups) known) (ask_of l)
  needs_one k = (0, length (l ∷ drop (i + 1) lookups), split known ∙ meets_first replaced l (drop (i + 1) lookups) known None k)

-- none is left
pub passes_all : (known : Reads) (replaced : List KeyedRow) (lookups : List Lookup) (i : ℕ) → length lookups ≤ i
    → AreSame known (meets replaced lookups) (meets replaced (drop i lookups)) → AreSame known (meets replaced lookups) (λ reads. gives false)
passes_all known replaced lookups i h s = λ reads part. s reads part ∙ ap (λ (ls : List Lookup). meets replaced ls reads) (drop_all i lookups h) ∙ meets_nothing replaced reads

-- ---- checks

abbrev judged : UniqueCheck → Bool → Evaluation Outcome
judged w b = if b || w.has_twins then faults S23505 else gives w.outcome

judged_by : (w : UniqueCheck) (e : Evaluation (List Answer)) → (e >>= λ answers. judged w (list_any (meets_other w.replaced) answers)) ≡ ((e >>= hit w.replaced) >>= judged w)
judged_by w (gives answers) = refl
judged_by w (faults e) = refl
judged_by w (needs ask phases asks) = refl

-- a check is judged by what its look-ups meet
pub check_judged : (w : UniqueCheck) (reads : Reads) → rest_of_check reads w ≡ (meets w.replaced (drop w.passed w.lookups) reads >>= judged w)
check_judged w reads = judged_by w (search reads (meets_other w.replaced) (drop w.passed w.lookups))

-- a check in which more look-ups were answered is left with the same
pub passed_more : (known : Reads) (w v : UniqueCheck) (i : ℕ) → v ≡ record w { passed = w.passed + i }
    → AreSame known (meets w.replaced (drop w.passed w.lookups)) (meets w.replaced (drop i (drop w.passed w.lookups)))
    → AreSame known (λ reads. rest_of_check reads w) (λ reads. rest_of_check reads v)
passed_more known w v i e s = λ reads part.
    check_judged w reads
    ∙ ap (λ (m : Evaluation Bool). m >>= judged w) (s reads part ∙ ap (λ (ls : List Lookup). meets w.replaced ls reads) (drop-drop i w.passed w.lookups))
    ∙ sym (check_judged (record w { passed = w.passed + i }) reads)
    ∙ ap (rest_of_check reads) (sym e)

-- it needs what its look-ups need
pub check_needs : (known : Reads) (w v : UniqueCheck) (i : ℕ) (ask : Ask) → v ≡ record w { passed = w.passed + i }
    → IsNeeded (meets w.replaced (drop i (drop w.passed w.lookups)) known) ask → IsNeeded (rest_of_check known v) ask
check_needs known w v i ask e (phases, asks, h) = (
  phases,
  asks,
  ap (rest_of_check known) e
      ∙ check_judged (record w { passed = w.passed + i }) known
      ∙ ap (λ (m : Evaluation Bool). m >>= judged w) (ap (λ (ls : List Lookup). meets w.replaced ls known) (sym (drop-drop i w.passed w.lookups)) ∙ h),
)
