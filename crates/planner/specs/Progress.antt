-- What is left of a list at work, as an evaluation over what is known. (This project's profile.)
use Rattle.std.specs.Prelude.{◌≡◌, ℕ, ◌+◌, ◌*◌, ⊤, List, [], ◌∷◌, ◌++◌, drop, length, Ok}
use Rattle.mr_base.specs.declared.results.StatementResult.{StatementResult}
use Rattle.mr_base.specs.declared.script.Fed.{Fed}
use Rattle.region_sql.specs.declared.row_statements.RowStatement.{RowStatement}
use Rattle.descriptors.specs.Contents.{Contents}
use Rattle.row_locality.specs.Plain.{Layout}
use Rattle.sql_eval.specs.Evaluation.{ListOutcome, Setting, evaluation, list_outcome}
use Rattle.sql_eval.specs.OwnWrites.{OwnWrites, with_writes, reads_through, writes_of}
use Rattle.sql_eval.specs.Reads.{Reads, served_reads}
use Rattle.sql_eval.specs.Search.{Evaluation, gives, faults, ◌>>=◌, followed_by, of_result}
use Rattle.planner.specs.Phases.{rest_of_statement, IsPhaseOf}
use Rattle.planner.specs.Turns.{AreSame, IsNeeded}
use Rattle.planner.specs.declared.phases.Phase.{Phase}
use Rattle.planner.specs.declared.phases.Phase.TheVariants as phases
use Rattle.planner.specs.declared.progress.Progress.{Progress}
use Rattle.planner.specs.declared.progress.ListStep.{ListStep}
use Rattle.planner.specs.declared.progress.ListStep.TheVariants as steps
use Rattle.planner.specs.declared.plan.State.{State}
use Rattle.planner.specs.declared.plan.State.TheVariants as states

-- ---- lists

-- The answers of statements and those of later ones.
abbrev pub answered : List StatementResult → Evaluation ListOutcome → Evaluation ListOutcome
answered before e = e >>= λ y. gives (record { answers = before ++ y.answers; own = y.own })

-- The first of these statements is in this phase, and the others are still to come.
abbrev pub rest_of_list : Layout → List ℕ → Reads → OwnWrites → Phase → List RowStatement → Evaluation ListOutcome
rest_of_list l gateway reads own phase [] = gives (record { answers = []; own = own })
rest_of_list l gateway reads own phase (s ∷ ss) =
    followed_by (3 * length ss) (rest_of_statement l gateway (reads_through own reads) s phase) >>= λ x.
    list_outcome l gateway reads (with_writes own x.writes) ss >>= λ y.
    gives (record { answers = x.answer ∷ y.answers; own = y.own })

-- What is left of a list of which so much was done.
abbrev pub rest_in : Setting → List RowStatement → Progress → Reads → Evaluation ListOutcome
rest_in s list p reads = answered p.answers (rest_of_list s.layout s.region reads p.own p.phase (drop p.done list))

abbrev pub rest_of : Setting → Progress → Reads → Evaluation ListOutcome
rest_of s p reads = of_result s.list >>= λ list. rest_in s list p reads

-- The phase may be one of the first of these statements.
abbrev pub IsPhaseOfFirst : Contents → Phase → List RowStatement → Type 0
IsPhaseOfFirst c phase [] = ⊤
IsPhaseOfFirst c phase (s ∷ ss) = IsPhaseOf c s phase

abbrev pub IsSoundProgress : Setting → Progress → Type 0
IsSoundProgress s p =
    (list : List RowStatement) → s.list ≡ Ok list → IsPhaseOfFirst s.layout.catalog p.phase (drop p.done list)

-- The next statement of a list needs a span and goes on behind it, or ends with a fault or done.
abbrev pub IsStatementStep : Setting → List RowStatement → Reads → Progress → ListStep → Type 0
IsStatementStep s list known p (steps.Asks ask q) =
    IsPhaseOfFirst s.layout.catalog q.phase (drop q.done list)
    × AreSame known (rest_in s list p) (rest_in s list q)
    × IsNeeded (rest_in s list q known) ask
IsStatementStep s list known p (steps.Faulty code) = rest_in s list p known ≡ faults code
IsStatementStep s list known p (steps.Done q) =
    (q.done ≡ p.done + 1) × (q.phase ≡ phases.Ready) × AreSame known (rest_in s list p) (rest_in s list q)

-- Its statements go on, one after the other: to one that needs a span or has a fault, or with all done.
abbrev pub IsStepIn : Setting → List RowStatement → Reads → Progress → ListStep → Type 0
IsStepIn s list known p (steps.Asks ask q) =
    IsPhaseOfFirst s.layout.catalog q.phase (drop q.done list)
    × AreSame known (rest_in s list p) (rest_in s list q)
    × IsNeeded (rest_in s list q known) ask
IsStepIn s list known p (steps.Faulty code) = rest_in s list p known ≡ faults code
IsStepIn s list known p (steps.Done q) = rest_in s list p known ≡ gives (record { answers = q.answers; own = q.own })

-- A list needs a span and goes on behind it, or ends with a fault or with all done.
abbrev pub IsListStep : Setting → Reads → Progress → ListStep → Type 0
IsListStep s known p (steps.Asks ask q) =
    IsSoundProgress s q × AreSame known (rest_of s p) (rest_of s q) × IsNeeded (rest_of s q known) ask
IsListStep s known p (steps.Faulty code) = rest_of s p known ≡ faults code
IsListStep s known p (steps.Done q) = rest_of s p known ≡ gives (record { answers = q.answers; own = q.own })

-- ---- plans

-- What a plan keeps is what the list comes to over what was fed: of a list at work what is left of it, over
-- all that holds what was fed.
abbrev pub IsStateOf : Setting → List Fed → State → Type 0
IsStateOf s fed (states.Working p) =
    IsSoundProgress s p × AreSame (served_reads fed) (λ reads. evaluation s reads) (rest_of s p)
IsStateOf s fed (states.Faulty code) = evaluation s (served_reads fed) ≡ faults code
IsStateOf s fed (states.Done x) =
    (evaluation s (served_reads fed) ≡ gives (record { answers = x.answers; own = x.own }))
    × (x.writes ≡ writes_of x.own)
IsStateOf s fed states.Lost = ⊤
