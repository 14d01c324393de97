-- Why a text was refused.
use Rattle.std.specs.Prelude.{ℕ, Result, Ok, Err}
use Rattle.region_sql.specs.declared.statements.ParseFault.{ParseFault}
use Rattle.region_sql.specs.declared.statements.ParseFault.TheVariants as faults

-- Where it was refused for its syntax, this holds of the place.
abbrev pub IfSyntax : {A : Type 0} → Result A ParseFault → (ℕ → Type 0) → Type 0
IfSyntax (Ok x) P = Unit {0}
IfSyntax (Err (faults.Syntax at)) P = P at
IfSyntax (Err faults.TooMany) P = Unit {0}
IfSyntax (Err faults.Memory) P = Unit {0}
