use Rattle.std.specs.Prelude.{ℕ, Option, Some, None}
use Rattle.mr_shell.specs.Exchange.{Exchange}
use Rattle.mr_shell.specs.GenEnded.{gen_meaning}
use Rattle.mr_shell.specs.Meaning.{Meaning}
use Rattle.mr_shell.specs.RunEnded.{run_meaning}
use Rattle.mr_shell.specs.UsageEnded.{usage_meaning}
use Rattle.mr_shell.specs.ZonesEnded.{zones_meaning}
use Rattle.mr_shell.specs.declared.outcome.Outcome.{Outcome}
use Rattle.mr_shell.specs.declared.tasks.Task.{Task}
use Rattle.mr_shell.specs.declared.tasks.Task.TheVariants as tasks

-- What the words ask for, and what that says of a run: a further command is one more case.
abbrev pub meaning_of : {S K : Type 0} → Option Task → Meaning S K
meaning_of None = usage_meaning
meaning_of (Some (tasks.Run mode)) = run_meaning mode
meaning_of (Some (tasks.Zones format)) = zones_meaning format
meaning_of (Some (tasks.Gen seed size)) = gen_meaning seed size

-- A run has ended as its task says, with this outcome.
abbrev pub Ended : {S K : Type 0} → Option Task → Outcome → Exchange S K → Type 0
Ended task o x = (meaning_of task).Ended o x

-- The task gives this status, where every call succeeds.
abbrev pub Gives : {S K : Type 0} → Option Task → Exchange S K → (status : ℕ) → Type 0
Gives task x status = (meaning_of task).Gives x status
