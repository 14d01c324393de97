-- Why a row isn't encoded. Source: this project's profile.
use Rattle.std.specs.Prelude.{◌≡◌, ⊤, IsFalse, List}
use Rattle.mr_base.specs.declared.rows.Datum.{Datum}
use Rattle.mr_base.specs.declared.rows.EvalFault.{EvalFault}
use Rattle.mr_base.specs.declared.rows.EvalFault.TheVariants.{State, Memory}
use Rattle.mr_base.specs.declared.states.SqlState.TheVariants.{S54000}
use Rattle.descriptors.specs.declared.table.Table.{Table}
use Rattle.row_locality.specs.Values.{is_small}

-- The row's value is too long, which is 54000, or memory ran out.
abbrev pub IsEncodeFault : Table → List Datum → EvalFault → Type 0
IsEncodeFault t row (State s) = (s ≡ S54000) × IsFalse (is_small t row)
IsEncodeFault t row Memory = ⊤
