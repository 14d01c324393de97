-- Statements of a list, one after the other.
use Rattle.std.proofs.Common.{◌≡◌, ℕ, ◌+◌, ◌*◌, ◌<◌, ◌≤◌, List, [], ◌∷◌, ◌++◌, length, drop, get_or, refl, sym, ap, ◌∙◌, subst}
use Rattle.std.specs.Prelude.{IfOk, Result, Ok, Err}
use Rattle.std.proofs.lemmas.List.{append-nil, append_assoc, drop_more, drop_all}
use Rattle.mr_base.specs.declared.memory.Memory.{Memory}
use Rattle.mr_base.specs.declared.results.StatementResult.{StatementResult}
use Rattle.mr_base.specs.declared.spans.Ask.{Ask}
use Rattle.mr_base.specs.declared.states.SqlState.{SqlState}
use Rattle.region_sql.specs.declared.row_statements.RowStatement.{RowStatement}
use Rattle.row_locality.specs.Plain.{Layout}
use Rattle.sql_eval.specs.Evaluation.{ListOutcome, Outcome, Setting, list_outcome}
use Rattle.sql_eval.specs.OwnWrites.{OwnWrites, with_writes, reads_through}
use Rattle.sql_eval.specs.Reads.{Reads, IsPartOf}
use Rattle.sql_eval.specs.Search.{Evaluation, gives, faults, needs, ◌>>=◌, followed_by, of_result}
use Rattle.answer_laws.proofs.Statements.{through_part}
use Rattle.planner.proofs.PlanLemmas.{all_is_left, ready}
use Rattle.planner.specs.Phases.{rest_of_statement}
use Rattle.planner.specs.Progress.{IsListStep, IsPhaseOfFirst, IsStatementStep, IsStepIn, answered, rest_in, rest_of, rest_of_list}
use Rattle.planner.specs.Turns.{AreSame, IsNeeded, IsTurn}
use Rattle.planner.specs.declared.phases.Phase.{Phase}
use Rattle.planner.specs.declared.phases.Phase.TheVariants.{Ready}
use Rattle.planner.specs.declared.progress.ListStep.{ListStep}
use Rattle.planner.specs.declared.progress.ListStep.TheVariants as steps
use Rattle.planner.specs.declared.progress.Progress.{Progress}
use Rattle.planner.specs.declared.turns.Turn.TheVariants as turns

-- ---- one statement

-- the later statements, behind what the first one comes to
behind_first : Layout → List ℕ → Reads → OwnWrites → List RowStatement → Evaluation Outcome → Evaluation ListOutcome
behind_first l gateway reads own ss e =
    followed_by (3 * length ss) e >>= λ x.
    list_outcome l gateway reads (with_writes own x.writes) ss >>= λ y.
    gives (record { answers = x.answer ∷ y.answers; own = y.own })

behind : Setting → Progress → List RowStatement → Reads → Evaluation Outcome → Evaluation ListOutcome
behind s p ss reads e = answered p.answers (behind_first s.layout s.region reads p.own ss e)

-- what is left of a list is what is left of its next statement, and the later ones behind
next_left : (s : Setting) (list : List RowStatement) (p : Progress) (x : RowStatement) (ss : List RowStatement) (reads : Reads) → drop p.done list ≡ x ∷ ss
    → rest_in s list p reads ≡ behind s p ss reads (rest_of_statement s.layout s.region (reads_through p.own reads) x p.phase)
unfolding behind behind_first
next_left s list p x ss reads e = ap (λ l. answered p.answers (rest_of_list s.layout s.region reads p.own p.phase l)) e

one_more : (held : List StatementResult) (a : StatementResult) (e : Evaluation ListOutcome)
    → answered held (e >>= λ y. gives (record { answers = a ∷ y.answers; own = y.own })) ≡ answered (held ++ a ∷ []) e
one_more held a (gives y) = ap (λ l. gives (record { answers = l; own = y.own })) (sym (append_assoc held (a ∷ []) y.answers))
one_more held a (faults code) = refl
one_more held a (needs ask n m) = refl

after_gives : (s : Setting) (p : Progress) (ss : List RowStatement) (reads : Reads) (x : Outcome)
    → behind s p ss reads (gives x)
    ≡ answered (p.answers ++ x.answer ∷ []) (rest_of_list s.layout s.region reads (with_writes p.own x.writes) Ready ss)
unfolding behind behind_first
after_gives s p ss reads x =
    one_more p.answers x.answer (list_outcome s.layout s.region reads (with_writes p.own x.writes) ss)
    ∙ ap (answered (p.answers ++ x.answer ∷ [])) (all_is_left s.layout s.region reads (with_writes p.own x.writes) ss)

needed_behind : (s : Setting) (p : Progress) (ss : List RowStatement) (reads : Reads) (e : Evaluation Outcome) (ask : Ask) → IsNeeded e ask → IsNeeded (behind s p ss reads e) ask
unfolding behind behind_first
needed_behind s p ss reads e ask n = (n.0 + 3 * length ss, n.1, ap (behind s p ss reads) n.2)

faulty_behind : (s : Setting) (p : Progress) (ss : List RowStatement) (reads : Reads) (e : Evaluation Outcome) (code : SqlState) → e ≡ faults code → behind s p ss reads e ≡ faults code
unfolding behind behind_first
faulty_behind s p ss reads e code f = ap (behind s p ss reads) f

module _ (s : Setting) (list : List RowStatement) (known : Reads) (p : Progress) (place : ℕ) (x : RowStatement)
    (at : place ≡ p.done) (lt : place < length list) (item : x ≡ get_or list place x) where
  rest : List RowStatement
  rest = drop (p.done + 1) list

  here : drop p.done list ≡ x ∷ rest
  unfolding rest
  here = subst (λ (k : ℕ). drop k list ≡ x ∷ drop (k + 1) list) at (drop_more list place x lt ∙ ap (λ y. y ∷ drop (place + 1) list) (sym item))

  left : (reads : Reads) → rest_in s list p reads ≡ behind s p rest reads (rest_of_statement s.layout s.region (reads_through p.own reads) x p.phase)
  left reads = next_left s list p x rest reads here

  statement_asks : (ask : Ask) (next : Phase) → IsTurn s.layout s.region (reads_through p.own known) x p.phase (turns.Asks ask next)
      → IsStatementStep s list known p (steps.Asks ask (record p { phase = next }))
  unfolding behind
  statement_asks ask next t =
      let q : Progress = record p { phase = next } in (
        subst (IsPhaseOfFirst s.layout.catalog next) (sym here) t.0,
        (λ reads part. left reads
            ∙ ap (behind s p rest reads) (t.1 (reads_through p.own reads) (through_part p.own known reads part))
            ∙ sym (next_left s list q x rest reads here)),
        subst (λ e. IsNeeded e ask) (sym (next_left s list q x rest known here))
            (needed_behind s p rest known (rest_of_statement s.layout s.region (reads_through p.own known) x next) ask t.2),
      )

  pub asks_next : (ask : Ask) (next : Phase) → IsTurn s.layout s.region (reads_through p.own known) x p.phase (turns.Asks ask next)
      → IsStatementStep s list known p (steps.Asks ask (record { done = place; own = p.own; answers = p.answers; phase = next }))
  asks_next ask next t =
      subst (λ (k : ℕ). IsStatementStep s list known p (steps.Asks ask (record { done = k; own = p.own; answers = p.answers; phase = next }))) (sym at) (statement_asks ask next t)

  pub has_fault : (code : SqlState) → IsTurn s.layout s.region (reads_through p.own known) x p.phase (turns.Faulty code) → rest_in s list p known ≡ faults code
  has_fault code t = left known ∙ faulty_behind s p rest known (rest_of_statement s.layout s.region (reads_through p.own known) x p.phase) code t

  ends_same : (o : Outcome) → IsTurn s.layout s.region (reads_through p.own known) x p.phase (turns.Ends o)
      → AreSame known (rest_in s list p) (rest_in s list (record { done = p.done + 1; own = with_writes p.own o.writes; answers = p.answers ++ o.answer ∷ []; phase = Ready }))
  unfolding rest
  ends_same o t reads part =
      left reads ∙ ap (behind s p rest reads) (t (reads_through p.own reads) (through_part p.own known reads part)) ∙ after_gives s p rest reads o

  pub ends_done : (o : Outcome) (q : Progress) → IsTurn s.layout s.region (reads_through p.own known) x p.phase (turns.Ends o)
      → q ≡ record { done = place + 1; own = with_writes p.own o.writes; answers = p.answers ++ o.answer ∷ []; phase = Ready } → IsStatementStep s list known p (steps.Done q)
  ends_done o q t e =
      let more : ℕ → Progress = λ k. record { done = k; own = with_writes p.own o.writes; answers = p.answers ++ o.answer ∷ []; phase = Ready } in
      subst (λ (r : Progress). IsStatementStep s list known p (steps.Done r)) (sym (e ∙ ap (λ k. more (k + 1)) at)) (refl, refl, ends_same o t)

-- ---- statement after statement

pub record IsGoing (s : Setting) (list : List RowStatement) (known : Reads) (first at : Progress) (i : ℕ) : Type 0 where
  pub place : i ≡ at.done
  pub phase : IsPhaseOfFirst s.layout.catalog at.phase (drop at.done list)
  pub same : AreSame known (rest_in s list first) (rest_in s list at)

is_part_itself : (known : Reads) → IsPartOf known known
is_part_itself known ask pairs e = e

module _ (s : Setting) (list : List RowStatement) (known : Reads) (first at : Progress) (place : ℕ) (g : IsGoing s list known first at place) where
  pub goes_on : (next : Progress) → IsStatementStep s list known at (steps.Done next) → IsGoing s list known first next (place + 1)
  goes_on next t =
      record {
        place = ap (λ k. k + 1) g.place ∙ sym t.0;
        phase = subst (λ ph. IsPhaseOfFirst s.layout.catalog ph (drop next.done list)) (sym t.1) (ready s.layout.catalog (drop next.done list));
        same = λ reads part. g.same reads part ∙ t.2 reads part;
      }

  pub stops_asking : (ask : Ask) (q : Progress) → IsStatementStep s list known at (steps.Asks ask q) → IsStepIn s list known first (steps.Asks ask q)
  stops_asking ask q t = (t.0, (λ reads part. g.same reads part ∙ t.1 reads part), t.2)

  pub stops_faulty : (code : SqlState) → IsStatementStep s list known at (steps.Faulty code) → IsStepIn s list known first (steps.Faulty code)
  stops_faulty code t = g.same known (is_part_itself known) ∙ t

  pub all_done : length list ≤ place → IsStepIn s list known first (steps.Done at)
  all_done h =
      g.same known (is_part_itself known)
      ∙ ap (λ l. answered at.answers (rest_of_list s.layout s.region known at.own at.phase l)) (drop_all at.done list (subst (λ (k : ℕ). length list ≤ k) g.place h))
      ∙ ap (λ l. gives (record { answers = l; own = at.own })) (append-nil at.answers)

-- ---- a list as it was read

step_by : (s : Setting) (known : Reads) (p : Progress) (list : List RowStatement) (step : ListStep) → s.list ≡ Ok list → IsStepIn s list known p step → IsListStep s known p step
step_by s known p list (steps.Asks ask q) e t = (
  (λ other f. let same : list ≡ other = same_list e f in subst (λ l. IsPhaseOfFirst s.layout.catalog q.phase (drop q.done l)) same t.0),
  (λ reads part. rest_is p reads ∙ t.1 reads part ∙ sym (rest_is q reads)),
  subst (λ x. IsNeeded x ask) (sym (rest_is q known)) t.2,
)
  where
    same_list : {other : List RowStatement} → s.list ≡ Ok list → s.list ≡ Ok other → list ≡ other
    same_list e f = cc

    rest_is : (r : Progress) (reads : Reads) → rest_of s r reads ≡ rest_in s list r reads
    rest_is r reads = ap (λ l. of_result l >>= λ xs. rest_in s xs r reads) e
step_by s known p list (steps.Faulty code) e t = ap (λ l. of_result l >>= λ xs. rest_in s xs p known) e ∙ t
step_by s known p list (steps.Done q) e t = ap (λ l. of_result l >>= λ xs. rest_in s xs p known) e ∙ t

pub list_step : (s : Setting) (known : Reads) (p : Progress) (list : List RowStatement) (r : Result ListStep Memory) → s.list ≡ Ok list → IfOk r (IsStepIn s list known p)
    → IfOk r (IsListStep s known p)
list_step s known p list (Ok step) e t = step_by s known p list step e t
list_step s known p list (Err m) e t = tt

pub list_fault : (s : Setting) (known : Reads) (p : Progress) (code : SqlState) → s.list ≡ Err code → rest_of s p known ≡ faults code
list_fault s known p code e = ap (λ l. of_result l >>= λ xs. rest_in s xs p known) e
