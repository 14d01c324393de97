use Rattle.std.specs.Prelude.{◌≡◌, if◌then◌else◌, List, Option, Some, option_map, String}
use Rattle.std.specs.declared.alloc.Global.{Global}
use Rattle.command_words.specs.Words.{command_of}
use Rattle.command_words.specs.declared.words.Command.{Command}
use Rattle.command_words.specs.declared.words.Command.TheVariants as commands
use Rattle.journal_text.specs.declared.modes.Mode.TheVariants.{Answers, Trace}
use Rattle.zone_report.specs.declared.report.Format.TheVariants.{Json, Text}
use Rattle.mr_shell.specs.declared.tasks.Task.{Task}
use Rattle.mr_shell.specs.declared.tasks.Task.TheVariants as tasks

-- A command's flags say what is shown: with `--trace` a run shows every entry, and with `--json` ranges are
-- written as JSON.
abbrev pub task_for : Command → Task
task_for (commands.Run trace) = tasks.Run (if trace then Trace else Answers)
task_for (commands.Zones json) = tasks.Zones (if json then Json else Text)
task_for (commands.Gen seed size) = tasks.Gen seed size

-- What the words ask for, if they are a command.
abbrev pub task_of : List (String Global) → Option Task
task_of words = option_map task_for (command_of words)

-- The words ask for this.
abbrev pub Ask : List (String Global) → Task → Type 0
Ask words task = task_of words ≡ Some task
