use Rattle.std.specs.Prelude.{◌≡◌, ◌⊎◌, ℕ}
use Rattle.mr_shell.specs.Exchange.{Exchange, HasFailed}
use Rattle.mr_shell.specs.declared.outcome.Outcome.{Outcome}

-- What a command says of a run: how it has ended, and the status that it gives where every call succeeds.
pub record Meaning (S K : Type 0) : Type 1 where
  pub Ended : Outcome → Exchange S K → Type 0
  pub Gives : Exchange S K → (status : ℕ) → Type 0
