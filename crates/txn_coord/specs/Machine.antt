use Rattle.std.specs.Prelude.{ℕ, ◌+◌, ◌-◌, List, [], ◌∷◌, Option, Some, None, false, fold}
use Rattle.mr_base.specs.Scripts.{Program}
use Rattle.mr_base.specs.Timestamps.{later, of_reading}
use Rattle.mr_base.specs.declared.ids.AttemptId.{AttemptId}
use Rattle.mr_base.specs.declared.ids.RangeId.{RangeId}
use Rattle.mr_base.specs.declared.ids.TxnId.{TxnId}
use Rattle.mr_base.specs.declared.script.Fed.{Fed}
use Rattle.mr_base.specs.declared.script.Need.{Need}
use Rattle.mr_base.specs.declared.settings.Kind.{Kind}
use Rattle.mr_base.specs.declared.settings.Kind.TheVariants as kind
use Rattle.mr_base.specs.declared.settings.Settings.{Settings}
use Rattle.mr_base.specs.declared.spans.Write.{Write}
use Rattle.mr_base.specs.declared.timestamps.Reading.{Reading}
use Rattle.mr_base.specs.declared.timestamps.Ts.{Ts}
use Rattle.txn_coord.specs.declared.progress.Course.TheVariants as course
use Rattle.txn_coord.specs.declared.progress.Progress.{Progress}

-- What is seen of a transaction: its script, and how far it has come.
pub record Held (S : Type 0) : Type 0 where
  pub script : S
  pub progress : Progress

-- A transaction as its machine's record: what its script was made with and was fed, and how far it has come.
pub record Machine : Type 0 where
  pub program : Program
  pub fed : List Fed
  pub progress : Progress

abbrev pub machine_of : Program → List Fed → Progress → Machine
machine_of program fed t = record { program = program; fed = fed; progress = t }

abbrev pub machine_at : {S : Type 0} → (S → Program) → (S → List Fed) → S → Progress → Machine
machine_at program fed script t = machine_of (program script) (fed script) t

abbrev pub machine : {S : Type 0} → (S → Program) → (S → List Fed) → Held S → Machine
machine program fed t = machine_at program fed t.script t.progress

-- The same machine, as far as this.
abbrev pub with_progress : Machine → Progress → Machine
with_progress m t = record m { progress = t }

-- What the script needs next, and what it writes once it needs nothing.
abbrev pub need_of : Machine → Need
need_of m = m.program.need_after m.fed

abbrev pub writes_of : Machine → List Write
writes_of m = m.program.writes_after m.fed

-- The anchor, the range of an attempt's record: that of its first write. (This project's profile.)
abbrev pub anchor_of : List Write → Option RangeId
anchor_of [] = None
anchor_of (w ∷ ws) = Some w.range

-- The timestamp of an attempt's writes begins at its read timestamp, and a higher put raises it.
abbrev pub greatest : Ts → List Ts → Ts
greatest read laid = fold later read laid

-- The next logical part of the same wall.
abbrev pub next_above : Ts → AttemptId → Ts
next_above t a = record { wall = t.wall; logical = t.logical + 1; owner = a.0 }

-- A transaction of the present reads at its start, one of the past so many milliseconds before it, not below
-- wall 0. (This project's profile.)
abbrev pub first_read : Kind → Ts → Ts
first_read (kind.Ago ms) start = record { wall = start.wall - ms; logical = 0; owner = start.owner }
first_read _ start = start

-- A version at most the greatest offset of two clocks above the start is uncertain, over all retries; to a
-- read of the past none is. (Taft et al., SIGMOD 2020.)
abbrev pub limit_of : Kind → Ts → Settings → Option ℕ
limit_of (kind.Ago ms) start s = None
limit_of _ start s = Some (start.wall + s.max_offset)

-- When it reads is known at its start.
abbrev pub IsTimed : Kind → Type 0
IsTimed (kind.Within ms any) = ⊥
IsTimed _ = Unit {0}

-- A transaction begins: its start is owned by its first attempt.
abbrev pub begun : TxnId → AttemptId → Kind → Reading → Settings → Progress
begun id attempt kind reading s = let start = of_reading reading attempt.0 in record {
  id = id;
  attempt = attempt;
  kind = kind;
  start = start;
  limit = limit_of kind start s;
  read = first_read kind start;
  at = first_read kind start;
  retries = 0;
  fates = [];
  served = [];
  again = 0;
  anchor = None;
  laid = [];
  resolved = 0;
  put_out = false;
  asked = None;
  course = course.Reading;
}
