-- What a list needs, writes and answers after spans were fed, as the program of a script. (This project's
-- profile.)
use Rattle.std.specs.Prelude.{ℕ, List, [], Option, Some, None}
use Rattle.mr_base.specs.Scripts.{Program}
use Rattle.mr_base.specs.declared.results.StatementResult.{StatementResult}
use Rattle.mr_base.specs.declared.script.Fed.{Fed}
use Rattle.mr_base.specs.declared.script.Need.{Need}
use Rattle.mr_base.specs.declared.script.Need.TheVariants.{Ask as AskFor, Done, Fault}
use Rattle.mr_base.specs.declared.spans.Ask.{Ask}
use Rattle.mr_base.specs.declared.spans.Write.{Write}
use Rattle.sql_eval.specs.Evaluation.{ListOutcome, Setting, evaluation}
use Rattle.sql_eval.specs.OwnWrites.{writes_of}
use Rattle.sql_eval.specs.Reads.{served_reads}
use Rattle.sql_eval.specs.Search.{Evaluation, gives, faults, needs}

abbrev pub need_of : Evaluation ListOutcome → Need
need_of (gives x) = Done
need_of (faults e) = Fault e
need_of (needs ask phases asks) = AskFor ask

-- Where a list has a fault, or needs a span, it writes and answers nothing.
abbrev pub writes_in : Evaluation ListOutcome → List Write
writes_in (gives x) = writes_of x.own
writes_in (faults e) = []
writes_in (needs ask phases asks) = []

abbrev pub answers_in : Evaluation ListOutcome → List StatementResult
answers_in (gives x) = x.answers
answers_in (faults e) = []
answers_in (needs ask phases asks) = []

abbrev pub phases_in : Evaluation ListOutcome → ℕ
phases_in (gives x) = 0
phases_in (faults e) = 0
phases_in (needs ask phases asks) = phases

abbrev pub asks_in : Evaluation ListOutcome → ℕ
asks_in (gives x) = 0
asks_in (faults e) = 0
asks_in (needs ask phases asks) = asks

abbrev pub next_in : Evaluation ListOutcome → Option Ask
next_in (gives x) = None
next_in (faults e) = None
next_in (needs ask phases asks) = Some ask

-- The program of a list in its setting.
abbrev pub program_of : Setting → Program
program_of s = record {
  need_after = λ fed. need_of (evaluation s (served_reads fed));
  writes_after = λ fed. writes_in (evaluation s (served_reads fed));
  answers_after = λ fed. answers_in (evaluation s (served_reads fed));
}

-- The span that a list reads next after these were served: the first of its look-ups that none of them
-- covers, if there is one.
abbrev pub next_span : Setting → List Fed → Option Ask
next_span s fed = next_in (evaluation s (served_reads fed))

-- How many searches may come after the present one, and how many spans the present one may still need.
abbrev pub phases_after : Setting → List Fed → ℕ
phases_after s fed = phases_in (evaluation s (served_reads fed))

abbrev pub asks_after : Setting → List Fed → ℕ
asks_after s fed = asks_in (evaluation s (served_reads fed))
