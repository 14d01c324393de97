use Rattle.std.specs.Prelude.{◌≡◌, ℕ, ◌+◌, ◌<◌, ◌≤◌, ⊤, List, [], ◌∷◌, Option, Some, None, length, nat_lt, if◌then◌else◌}
use Rattle.mr_base.specs.Timestamps.{ts_lt}
use Rattle.mr_base.specs.declared.ids.AttemptId.{AttemptId}
use Rattle.mr_base.specs.declared.messages.Request.{Request}
use Rattle.mr_base.specs.declared.messages.Request.TheVariants as request
use Rattle.mr_base.specs.declared.script.Need.{Need}
use Rattle.mr_base.specs.declared.script.Need.TheVariants as need
use Rattle.mr_base.specs.declared.spans.Write.{Write}
use Rattle.mr_base.specs.declared.timestamps.Reading.{Reading}
use Rattle.range_log.specs.declared.entries.RetryCause.{RetryCause}
use Rattle.txn_coord.specs.Asking.{asks, range_of, sends}
use Rattle.txn_coord.specs.Machine.{Machine, need_of, with_progress, writes_of}
use Rattle.txn_coord.specs.Refusing.{goes_to, retried}
use Rattle.txn_coord.specs.declared.moves.Move.{Move}
use Rattle.txn_coord.specs.declared.moves.Move.TheVariants as moves
use Rattle.txn_coord.specs.declared.progress.Course.{Course}
use Rattle.txn_coord.specs.declared.progress.Course.TheVariants as course
use Rattle.txn_coord.specs.declared.progress.Progress.{Progress}

-- A list without writes is answered at its read timestamp; one with writes lays them, and the first of them
-- names the anchor.
abbrev pub run_through : List Write → Progress → Progress
run_through [] t = record t { course = course.Answering }
run_through (w ∷ ws) t = record t { anchor = Some w.range; course = course.Laying }

-- Reading ends where the script needs nothing more. A fault is answered at the read timestamp.
abbrev pub run_on : Need → List Write → Progress → Progress
run_on (need.Ask a) ws t = t
run_on need.Done ws t = run_through ws t
run_on (need.Fault s) ws t = record t { course = course.Faulting s }

-- Refreshing ends where each span was refreshed, and then the attempt commits.
abbrev pub refresh_on : Progress → Progress
refresh_on t = if nat_lt t.again (length t.served) then record t { course = course.Refreshing } else record t { course = course.Committing }

-- Laying ends where each write was laid. Where a put was laid above the read timestamp, the spans are
-- refreshed next.
abbrev pub lay_through : Progress → Progress
lay_through t = if ts_lt t.read t.at then refresh_on t else record t { course = course.Committing }

abbrev pub lay_on : List Write → Progress → Progress
lay_on ws t = if nat_lt (length t.laid) (length ws) then t else lay_through t

-- What needs no reply is done at once.
abbrev pub go_on_by : Course → Need → List Write → Progress → Progress
go_on_by course.Reading n ws t = run_on n ws t
go_on_by course.Laying n ws t = lay_on ws t
go_on_by course.Refreshing n ws t = refresh_on t
go_on_by _ n ws t = t

abbrev pub gone_on : Machine → Machine
gone_on m = with_progress m (go_on_by m.progress.course (need_of m) (writes_of m) m.progress)

-- A request is outstanding, to this range.
abbrev pub awaits : Request → Machine → Machine
awaits q m = with_progress m (record m.progress { asked = Some (range_of q) })

-- How many keys a resolve has.
abbrev pub resolved_by : Request → ℕ
resolved_by (request.Resolve a r keys fate) = length keys
resolved_by _ = 0

-- What went out isn't sent again.
abbrev pub sent_course : Course → Course
sent_course (course.Refused why abort) = course.Refused why None
sent_course c = c

abbrev pub after_send : Request → Progress → Progress
after_send q t = record t { resolved = t.resolved + resolved_by q; course = sent_course t.course }

-- The wall for which a transaction waits whose answer or fault stands.
abbrev pub due_by : Course → Progress → Option ℕ
due_by course.Answering t = Some t.at.wall
due_by (course.Faulting s) t = Some t.read.wall
due_by _ t = None

abbrev pub due_of : Progress → Option ℕ
due_of t = due_by t.course t

-- A new attempt begins: its script begins anew.
abbrev pub restarted : RetryCause → AttemptId → Machine → Machine
restarted c fresh m = record { program = m.program; fed = []; progress = retried c m.progress fresh }

abbrev pub ends_as : Course → Machine → Machine
ends_as c m = with_progress m (goes_to c m.progress)

-- Nothing is left to send.
abbrev pub HasSent : Machine → Type 0
HasSent m = sends m ≡ None

-- The answer that stands is given once the clock has passed its timestamp, and waited for until then; a
-- refusal is given at once.
abbrev pub Concludes : Machine → Reading → Move → Machine → Type 0
Concludes m clock (moves.Wait until) new = (due_of m.progress ≡ Some until) × (clock.wall < until) × (new ≡ m)
Concludes m clock (moves.Ack ts) new =
    (m.progress.course ≡ course.Answering) × (ts ≡ m.progress.at) × (ts.wall ≤ clock.wall) × (new ≡ ends_as course.Acknowledged m)
Concludes m clock (moves.Fault ts state) new =
    (m.progress.course ≡ course.Faulting state) × (ts ≡ m.progress.read) × (ts.wall ≤ clock.wall) × (new ≡ ends_as course.Over m)
Concludes m clock (moves.Refuse why) new = (m.progress.course ≡ course.Refused why None) × (new ≡ ends_as course.Over m)
Concludes m clock _ new = ⊥

-- What a transaction does next, by a clock and with the number of a fresh attempt, and what it then is: what
-- isn't awaited goes out first; then a retry that is due; then what is asked; then the answer or the refusal.
abbrev pub Moves : Machine → Reading → AttemptId → Move → Machine → Type 0
Moves m clock fresh (moves.Send range q) new =
    (sends m ≡ Some q) × (range ≡ range_of q) × (new ≡ with_progress m (after_send q m.progress))
Moves m clock fresh (moves.Retried attempt c) new =
    HasSent m × (m.progress.course ≡ course.Retrying c) × (attempt ≡ fresh) × (new ≡ restarted c fresh m)
Moves m clock fresh (moves.Ask range q) new =
    HasSent m × (asks (gone_on m) ≡ Some q) × (range ≡ range_of q) × (new ≡ awaits q (gone_on m))
Moves m clock fresh move new = HasSent m × Concludes (gone_on m) clock move new

abbrev pub IsAck : Move → Type 0
IsAck (moves.Ack ts) = ⊤
IsAck _ = ⊥
