use Rattle.std.specs.Prelude.{◌≡◌, ⊤, Option, Some, None}
use Rattle.mr_base.specs.declared.script.Need.{Need}
use Rattle.mr_base.specs.declared.spans.Ask.{Ask}
use Rattle.mr_base.specs.declared.script.Need.TheVariants as need
use Rattle.txn_coord.specs.declared.progress.Course.{Course}
use Rattle.txn_coord.specs.declared.progress.Course.TheVariants as course

-- The script was run through.
abbrev pub HasRun : Course → Type 0
HasRun course.Reading = ⊥
HasRun _ = ⊤

-- A retry is due.
abbrev pub IsToRetry : Course → Type 0
IsToRetry (course.Retrying c) = ⊤
IsToRetry _ = ⊥

-- An answer, a fault or a refusal stands, and nothing is to go out before it.
abbrev pub IsConcluding : Course → Type 0
IsConcluding course.Answering = ⊤
IsConcluding (course.Faulting s) = ⊤
IsConcluding (course.Refused why abort) = abort ≡ None
IsConcluding _ = ⊥

-- The span that the script is found to need is one of a transaction that still reads; without one the script
-- was run through.
abbrev pub IsNeeded : Need → Course → Option Ask → Type 0
IsNeeded n c (Some a) = (n ≡ need.Ask a) × (c ≡ course.Reading)
IsNeeded n c None = HasRun c
