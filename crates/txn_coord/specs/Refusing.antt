use Rattle.std.specs.Prelude.{ℕ, ◌+◌, List, [], ◌∷◌, Option, None, Bool, true, false, ◌||◌, nat_lt, if◌then◌else◌}
use Rattle.mr_base.specs.Timestamps.{later}
use Rattle.mr_base.specs.declared.ids.AttemptId.{AttemptId}
use Rattle.mr_base.specs.declared.ids.MsgId.{MsgId}
use Rattle.mr_base.specs.declared.ids.RangeId.{RangeId}
use Rattle.mr_base.specs.declared.timestamps.Ts.{Ts}
use Rattle.range_log.specs.declared.entries.RetryCause.{RetryCause}
use Rattle.range_log.specs.declared.entries.RetryCause.TheVariants as cause
use Rattle.txn_coord.specs.Machine.{next_above}
use Rattle.txn_coord.specs.declared.moves.Refusal.{Refusal}
use Rattle.txn_coord.specs.declared.moves.Refusal.TheVariants as refusal
use Rattle.txn_coord.specs.declared.progress.Course.{Course}
use Rattle.txn_coord.specs.declared.progress.Course.TheVariants as course
use Rattle.txn_coord.specs.declared.progress.Progress.{Progress}

-- Nothing is outstanding any more, and the transaction is at this.
abbrev pub goes_to : Course → Progress → Progress
goes_to c t = record t { asked = None; course = c }

-- Of a transaction that ends refused one abort goes to the anchor where a put of the attempt was laid, or was
-- sent as a message. Nobody awaits it. (This project's profile.)
abbrev pub abort_due : Progress → Option RangeId
abort_due t = if t.put_out then t.anchor else None

-- A transaction ends refused, with that abort ..
abbrev pub refused : Refusal → Progress → Progress
refused why t = goes_to (course.Refused why (abort_due t)) t

-- .. or without it, where the attempt is aborted already, or may have committed.
abbrev pub refused_decided : Refusal → Progress → Progress
refused_decided why t = goes_to (course.Refused why None) t

-- A transaction is tried again at most 64 times. (This project's profile.)
abbrev pub retry_limit : ℕ
retry_limit = 64

abbrev pub is_empty : List Ts → Bool
is_empty [] = true
is_empty (p ∷ ps) = false

-- A transaction is to be tried again: where a put was laid, the abort of that attempt is awaited first.
abbrev pub retry_course : RetryCause → Progress → Course
retry_course c t = if is_empty t.laid then course.Retrying c else course.Aborting c

abbrev pub retry_due : RetryCause → Progress → Progress
retry_due c t = if nat_lt t.retries retry_limit then goes_to (retry_course c t) t else refused refusal.Retries t

-- The timestamp above which a transaction is tried again: the one that the cause names or, where a refresh
-- met a newer version, the write timestamp.
abbrev pub retried_above : RetryCause → Progress → Ts
retried_above (cause.Uncertain key ts) t = ts
retried_above (cause.NewerWrite ts) t = t.at
retried_above (cause.Pushed ts) t = ts

-- The new attempt reads above that timestamp and above the former read timestamp. The limit, the start and
-- the fates are kept.
abbrev pub retry_read : RetryCause → Progress → AttemptId → Ts
retry_read c t fresh = next_above (later (retried_above c t) t.read) fresh

abbrev pub retried : RetryCause → Progress → AttemptId → Progress
retried c t fresh = record t {
  attempt = fresh;
  read = retry_read c t fresh;
  at = retry_read c t fresh;
  retries = t.retries + 1;
  served = [];
  again = 0;
  anchor = None;
  laid = [];
  resolved = 0;
  put_out = false;
  asked = None;
  course = course.Reading;
}

-- A put that is outstanding went out as a message.
abbrev pub is_put : Course → Bool
is_put course.Laying = true
is_put _ = false

abbrev pub sent_out : Progress → Progress
sent_out t = record t { put_out = t.put_out || is_put t.course }

-- All replicas of the range were asked in vain.
abbrev pub exhausted_at : RangeId → Progress → Progress
exhausted_at range t = refused (refusal.NoLease range) t

-- No reply came in time. Of a commit nobody knows what became; every other request is given up.
abbrev pub timed_out_by : Course → MsgId → Progress → Progress
timed_out_by course.Committing request t = refused_decided (refusal.Ambiguous request) t
timed_out_by _ request t = refused (refusal.Timeout request) (sent_out t)

abbrev pub timed_out_at : MsgId → Progress → Progress
timed_out_at request t = timed_out_by t.course request t
