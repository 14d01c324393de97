use Rattle.std.specs.Prelude.{◌≡◌, ◌⊎◌, ◌<◌, ◌≤◌, ⊤, List, [], Option, Some, None, Bool, true, IsSome, length, map, option_map}
use Rattle.mr_base.specs.Scripts.{IsDone}
use Rattle.mr_base.specs.Timestamps.{IsBelow}
use Rattle.mr_base.specs.declared.ids.RangeId.{RangeId}
use Rattle.mr_base.specs.declared.script.Fed.{Fed}
use Rattle.mr_base.specs.declared.script.Need.TheVariants as need
use Rattle.mr_base.specs.declared.spans.Ask.{Ask}
use Rattle.mr_base.specs.declared.states.SqlState.{SqlState}
use Rattle.txn_coord.specs.Asking.{asks, range_of}
use Rattle.txn_coord.specs.Fates.{AreInOrder}
use Rattle.txn_coord.specs.Machine.{Machine, anchor_of, greatest, need_of, writes_of}
use Rattle.txn_coord.specs.Refusing.{retry_limit}
use Rattle.txn_coord.specs.declared.moves.Refusal.TheVariants as refusal
use Rattle.txn_coord.specs.declared.progress.Back.{Back}
use Rattle.txn_coord.specs.declared.progress.Back.TheVariants as back
use Rattle.txn_coord.specs.declared.progress.Course.{Course}
use Rattle.txn_coord.specs.declared.progress.Course.TheVariants as course
use Rattle.txn_coord.specs.declared.progress.Progress.{Progress}

-- The spans that were fed.
abbrev pub spans_of : List Fed → List Ask
spans_of fed = map (λ f. f.ask) fed

-- The attempt reads: nothing was laid or refreshed.
pub record IsReading (t : Progress) : Type 0 where
  pub laid : t.laid ≡ []
  pub again : t.again ≡ 0
  pub resolved : t.resolved ≡ 0

-- The script is done and writes something; the first of its writes, in their order, were laid, each once.
pub record IsWriting (is_done : Bool) (m : Machine) : Type 0 where
  pub done : is_done ≡ true
  pub needs : IsDone (need_of m)
  pub anchor : m.progress.anchor ≡ anchor_of (writes_of m)
  pub writes : IsSome m.progress.anchor
  pub laid : length m.progress.laid ≤ length (writes_of m)
  pub again : m.progress.again ≤ length m.progress.served

-- All that the script writes was laid.
abbrev pub IsLaid : Machine → Type 0
IsLaid m = length m.progress.laid ≡ length (writes_of m)

-- All was laid, somewhere above the read timestamp.
pub record IsRefreshing (is_done : Bool) (m : Machine) : Type 0 where
  pub writing : IsWriting is_done m
  pub all : IsLaid m
  pub above : IsBelow m.progress.read m.progress.at

-- Each span that was fed was answered at the write timestamp: no put is above the read timestamp, or each
-- span was refreshed.
abbrev pub IsAnsweredAtOne : Progress → Type 0
IsAnsweredAtOne t = (t.at ≡ t.read) ⊎ (t.again ≡ length t.served)

-- All was laid, and each span was answered at the write timestamp, so the attempt may commit there.
pub record IsDetermined (is_done : Bool) (m : Machine) : Type 0 where
  pub writing : IsWriting is_done m
  pub all : IsLaid m
  pub one : IsAnsweredAtOne m.progress

-- The script is done and writes nothing.
pub record IsReadOnly (is_done : Bool) (m : Machine) : Type 0 where
  pub done : is_done ≡ true
  pub needs : IsDone (need_of m)
  pub none : writes_of m ≡ []
  pub laid : m.progress.laid ≡ []

-- The attempt laid puts, and is to be tried again once more.
pub record IsAborting (is_done : Bool) (m : Machine) : Type 0 where
  pub retries : m.progress.retries < retry_limit
  pub writing : IsWriting is_done m

-- The attempt is to be tried again once more; what it laid, if anything, is to be resolved.
pub record IsRetrying (is_done : Bool) (m : Machine) : Type 0 where
  pub retries : m.progress.retries < retry_limit
  pub writing : (m.progress.laid ≡ []) ⊎ IsWriting is_done m

-- The script gave this fault.
pub record IsFaulting (s : SqlState) (m : Machine) : Type 0 where
  pub needs : need_of m ≡ need.Fault s
  pub laid : m.progress.laid ≡ []

-- An abort that another attempt made: what was laid is to be resolved, and no abort is due.
pub record IsAbortedBy (abort : Option RangeId) (is_done : Bool) (m : Machine) : Type 0 where
  pub writing : IsWriting is_done m
  pub none : abort ≡ None

-- What a request that met an obstacle goes back to.
abbrev pub IsSoundBack : Back → Bool → Machine → Type 0
IsSoundBack back.Read done m = IsReading m.progress
IsSoundBack back.Put done m = IsWriting done m
IsSoundBack back.Refresh done m = IsRefreshing done m

-- What is true in a course.
abbrev pub IsSoundIn : Course → Bool → Machine → Type 0
IsSoundIn course.Reading done m = IsReading m.progress
IsSoundIn course.Laying done m = IsWriting done m
IsSoundIn course.Refreshing done m = IsRefreshing done m
IsSoundIn (course.Pushing other b) done m = IsSoundBack b done m
IsSoundIn course.Committing done m = IsDetermined done m
IsSoundIn (course.Aborting c) done m = IsAborting done m
IsSoundIn (course.Retrying c) done m = IsRetrying done m
IsSoundIn course.Answering done m = IsDetermined done m ⊎ IsReadOnly done m
IsSoundIn (course.Faulting s) done m = IsFaulting s m
IsSoundIn (course.Refused (refusal.Aborted by) abort) done m = IsAbortedBy abort done m
IsSoundIn (course.Refused why abort) done m = ⊤
IsSoundIn course.Acknowledged done m = (done ≡ true) × IsDone (need_of m)
IsSoundIn course.Over done m = ⊤

-- A request that is outstanding is the one that is asked.
abbrev pub IsAwaited : Option RangeId → Machine → Type 0
IsAwaited None m = ⊤
IsAwaited (Some r) m = option_map range_of (asks m) ≡ Some r

-- What is true of a transaction at all times, where its script has answered so whether it is done: what was
-- served is what was fed; it was tried again at most 64 times; its write timestamp is the greatest of its
-- read timestamp and its puts; it knows one fate an attempt.
pub record IsSoundTxn (is_done : Bool) (m : Machine) : Type 0 where
  pub served : m.progress.served ≡ spans_of m.fed
  pub retries : m.progress.retries ≤ retry_limit
  pub at : m.progress.at ≡ greatest m.progress.read m.progress.laid
  pub fates : AreInOrder m.progress.fates
  pub going : IsSoundIn m.progress.course is_done m
  pub awaited : IsAwaited m.progress.asked m

-- No answer was given yet.
abbrev pub IsOpen : Course → Type 0
IsOpen course.Acknowledged = ⊥
IsOpen course.Over = ⊥
IsOpen _ = ⊤
