use Rattle.std.specs.Prelude.{◌≡◌, ◌⊎◌, ℕ, List, [], Option, codes}
use Rattle.mr_shell.specs.Exchange.{Exchange, start, written}
use Rattle.mr_shell.specs.Meaning.{Meaning}
use Rattle.mr_shell.specs.Texts.{Wrote, WrotePart}
use Rattle.mr_shell.specs.declared.outcome.Outcome.{Outcome}

-- Words that are no command.

-- The line that says what words may be. (This project's profile.)
abbrev pub usage_line : List ℕ
usage_line = codes "! usage: run [--trace | --summary] | zones [--json] | gen SEED SIZE | work SEED SIZE\n"

-- That line is written; only a part of it where a write fails, and none of it where there was no memory to read the
-- words.
abbrev pub UsageLineEnded : (status : ℕ) → (start written : Option (List ℕ)) → Type 0
UsageLineEnded status start written =
    ((status ≡ 2) × Wrote start written usage_line)
    ⊎ (((status ≡ 4) × WrotePart start written [] usage_line) ⊎ ((status ≡ 5) × (written ≡ start)))

-- Nothing is read or run, and that line alone is written.
pub record UsageEnded {S K : Type 0} (o : Outcome) (x : Exchange S K) : Type 0 where
  pub nothing_read : x.source.after ≡ x.source.before
  pub nothing_run : o.journal ≡ []
  pub line : UsageLineEnded o.status (start x) (written x)

abbrev pub usage_meaning : {S K : Type 0} → Meaning S K
usage_meaning = record { Ended = λ o x. UsageEnded o x; Gives = λ x status. status ≡ 2 }
