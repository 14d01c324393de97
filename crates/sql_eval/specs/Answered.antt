-- What steps of an evaluation answer, against what is defined. (This project's profile.)
use Rattle.std.specs.Prelude.{◌≡◌, ⊤, if◌then◌else◌, Option, Some, None, Result, Ok, Err}
use Rattle.mr_base.specs.declared.rows.Datum.{Datum}
use Rattle.mr_base.specs.declared.rows.EvalFault.{EvalFault}
use Rattle.mr_base.specs.declared.rows.EvalFault.TheVariants as faults
use Rattle.mr_base.specs.declared.states.SqlState.{SqlState}
use Rattle.mr_base.specs.declared.states.SqlState.TheVariants.{S22003}
use Rattle.sql_eval.specs.declared.stop.Stop.{Stop}
use Rattle.sql_eval.specs.declared.stop.Stop.TheVariants as stops
use Rattle.sql_eval.specs.RowWords.{◌>>=◌, is_in_range}

-- A fault that is answered is the one that is defined, or want of memory.
abbrev pub IsFaultOf : {A : Type 0} → Result A SqlState → EvalFault → Type 0
IsFaultOf defined (faults.State state) = defined ≡ Err state
IsFaultOf defined faults.Memory = ⊤

-- A step answers what is defined, unless memory runs out.
abbrev pub Answers : {A : Type 0} → Result A SqlState → Result A Stop → Type 0
Answers defined (Ok x) = defined ≡ Ok x
Answers defined (Err (stops.State state)) = defined ≡ Err state
Answers defined (Err stops.Memory) = ⊤

-- Why a step ends early is the fault that is defined, or want of memory.
abbrev pub IsStopOf : {A : Type 0} → Result A SqlState → Stop → Type 0
IsStopOf defined (stops.State state) = defined ≡ Err state
IsStopOf defined stops.Memory = ⊤

-- A value, where it isn't an integer of more than 64 bits.
abbrev pub checked_value : Datum → Result Datum SqlState
checked_value v = if is_in_range v then Ok v else Err S22003

-- A value, if there is one.
abbrev pub checked_option : Option Datum → Result (Option Datum) SqlState
checked_option None = Ok None
checked_option (Some v) = checked_value v >>= λ x. Ok (Some x)

-- The same fault for a caller of this crate.
abbrev pub fault_of : Stop → EvalFault
fault_of (stops.State state) = faults.State state
fault_of stops.Memory = faults.Memory
