use Rattle.std.specs.List.{Contains, filter}
use Rattle.std.specs.Prelude.{Bool, Err, List, None, Ok, Result, Some, map, ◌&&◌, ◌≡◌, ◌⊎◌}
use Rattle.mr_base.specs.declared.ids.AttemptId.{AttemptId}
use Rattle.mr_base.specs.declared.results.StatementResult.{StatementResult}
use Rattle.mr_base.specs.declared.script.Fed.{Fed}
use Rattle.mr_base.specs.declared.spans.Write.{Write}
use Rattle.mr_base.specs.declared.states.SqlState.{SqlState}
use Rattle.mr_base.specs.declared.timestamps.Ts.{Ts}
use Rattle.row_locality.specs.Plain.{IsValid, PlainDatabase}
use Rattle.run_laws.specs.Lists.{AreFed, IsSettingOf, WasServedAt, is_at}
use Rattle.run_words.specs.Attempts.{Attempt, attempt_of}
use Rattle.run_words.specs.History.{History}
use Rattle.run_words.specs.Messages.{is_known}
use Rattle.run_words.specs.Puts.{PutMade, puts}
use Rattle.run_words.specs.Ranges.{layout_of}
use Rattle.run_words.specs.Serving.{ServedRead, serves}
use Rattle.run_words.specs.Setup.{Setup}
use Rattle.sql_eval.specs.Agreement.{Agrees, AreChanges}
use Rattle.sql_eval.specs.Evaluation.{Setting}
use Rattle.sql_eval.specs.Execution.{exec}
use Rattle.sql_eval.specs.NextSpan.{next_span}

-- When what a list answers is determined by what was served to an attempt. (This project's profile.)

abbrev pub is_heard_at : History → Ts → ServedRead → Bool
is_heard_at h ts served = is_at ts served && is_known h served.via

-- What was served to an attempt at a timestamp, and that the gateway knows of.
abbrev pub heard_at : Setup → History → AttemptId → Ts → List ServedRead
heard_at setup h a ts = filter (is_heard_at h ts) (serves setup h a)

-- What executing a list on a database gives.
abbrev pub Executed : Type 0
Executed = Result (List StatementResult × PlainDatabase) SqlState

-- The answer of an attempt's list at a timestamp is determined: all that was served to the attempt was served to it at
-- that timestamp too; what the gateway has heard of that leaves nothing to read; and on every valid database that
-- agrees with it the execution has the property.
pub record IsDetermined (setup : Setup) (h : History) (a : AttemptId) (ts : Ts) (P : PlainDatabase → Executed → Type 0) : Type 0 where
  pub again : (s : ServedRead) → Contains (serves setup h a) s → WasServedAt setup h a s.range s.read.span ts
  pub attempt : Attempt
  pub is_attempt : attempt_of h a ≡ Some attempt
  pub setting : Setting
  pub is_setting : IsSettingOf setup h attempt.txn setting
  pub fed : List Fed
  pub fed_is : AreFed (heard_at setup h a ts) fed
  pub nothing_next : next_span setting fed ≡ None
  pub every : (d : PlainDatabase) → IsValid setting.layout.catalog d → Agrees setting.layout d fed
      → P d (exec setting.layout.catalog setting.region setting.list d)

abbrev pub write_of : PutMade → Write
write_of put = record { range = put.range; key = put.key; value = put.value }

-- The changes from one database to another are exactly the puts of an attempt.
abbrev pub ArePuts : Setup → History → AttemptId → PlainDatabase → PlainDatabase → Type 0
ArePuts setup h a before after = AreChanges (layout_of setup h) before after (map write_of (puts h a))

-- The execution is no fault, and its changes are the attempt's puts.
abbrev pub GivesPuts : Setup → History → AttemptId → PlainDatabase → Executed → Type 0
GivesPuts setup h a d (Ok x) = ArePuts setup h a d x.1
GivesPuts setup h a d (Err state) = ⊥

-- The execution has these results, and its changes are the attempt's puts.
abbrev pub GivesResults : Setup → History → AttemptId → List StatementResult → PlainDatabase → Executed → Type 0
GivesResults setup h a results d (Ok x) = (x.0 ≡ results) × ArePuts setup h a d x.1
GivesResults setup h a results d (Err state) = ⊥

-- The execution is this fault.
abbrev pub GivesFault : SqlState → PlainDatabase → Executed → Type 0
GivesFault state d r = r ≡ Err state

-- The list of an attempt has some answer, or some fault, that is determined at a timestamp.
abbrev pub HasAnswer : Setup → History → AttemptId → Ts → Type 0
HasAnswer setup h a ts =
    ((results : List StatementResult) × IsDetermined setup h a ts (GivesResults setup h a results))
    ⊎ ((state : SqlState) × IsDetermined setup h a ts (GivesFault state))
