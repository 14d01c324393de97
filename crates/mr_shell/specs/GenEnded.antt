use Rattle.std.specs.Prelude.{◌≡◌, ◌⊎◌, ℕ, List, [], Option}
use Rattle.mr_io.specs.Pieces.{WrotePrefix}
use Rattle.workload.specs.Generated.{gen_text}
use Rattle.mr_shell.specs.Exchange.{Exchange, start, written}
use Rattle.mr_shell.specs.Meaning.{Meaning}
use Rattle.mr_shell.specs.Texts.{Wrote}
use Rattle.mr_shell.specs.declared.outcome.Outcome.{Outcome}

-- The command `gen`.

-- The scenario of this seed and this size is written; a first part of it, and not the whole, where a write fails or
-- memory runs out.
abbrev pub ScenarioEnded : (seed size status : ℕ) → (start written : Option (List ℕ)) → Type 0
ScenarioEnded seed size status start written =
    ((status ≡ 0) × Wrote start written (gen_text seed size))
    ⊎ (((status ≡ 4) ⊎ (status ≡ 5)) × WrotePrefix start written (gen_text seed size))

-- Nothing is read or run, and that scenario alone is written.
pub record GenEnded {S K : Type 0} (seed size : ℕ) (o : Outcome) (x : Exchange S K) : Type 0 where
  pub nothing_read : x.source.after ≡ x.source.before
  pub nothing_run : o.journal ≡ []
  pub text : ScenarioEnded seed size o.status (start x) (written x)

abbrev pub gen_meaning : {S K : Type 0} → (seed size : ℕ) → Meaning S K
gen_meaning seed size = record { Ended = λ o x. GenEnded seed size o x; Gives = λ x status. status ≡ 0 }
