use Rattle.std.specs.Prelude.{◌+◌, ⊤, List, [], ◌∷◌, ◌++◌, Option, Some, None, true}
use Rattle.mr_base.specs.Scripts.{fed_with}
use Rattle.mr_base.specs.Timestamps.{later}
use Rattle.mr_base.specs.declared.ids.RangeId.{RangeId}
use Rattle.mr_base.specs.declared.messages.Fate.TheVariants as fate
use Rattle.mr_base.specs.declared.messages.Known.{Known}
use Rattle.mr_base.specs.declared.messages.Reply.{Reply}
use Rattle.mr_base.specs.declared.messages.Reply.TheVariants as reply
use Rattle.mr_base.specs.declared.script.Need.{Need}
use Rattle.mr_base.specs.declared.script.Need.TheVariants as need
use Rattle.mr_base.specs.declared.spans.Ask.{Ask}
use Rattle.mr_base.specs.declared.spans.Pair.{Pair}
use Rattle.mr_base.specs.declared.timestamps.Ts.{Ts}
use Rattle.range_log.specs.declared.entries.RetryCause.{RetryCause}
use Rattle.range_log.specs.declared.entries.RetryCause.TheVariants as cause
use Rattle.txn_coord.specs.Fates.{learned}
use Rattle.txn_coord.specs.Machine.{Machine, need_of, with_progress}
use Rattle.txn_coord.specs.Refusing.{goes_to, refused, refused_decided, retry_due}
use Rattle.txn_coord.specs.declared.moves.Refusal.TheVariants as refusal
use Rattle.txn_coord.specs.declared.progress.Back.{Back}
use Rattle.txn_coord.specs.declared.progress.Back.TheVariants as back
use Rattle.txn_coord.specs.declared.progress.Course.{Course}
use Rattle.txn_coord.specs.declared.progress.Course.TheVariants as course
use Rattle.txn_coord.specs.declared.progress.Obstacle.{Obstacle}
use Rattle.txn_coord.specs.declared.progress.Progress.{Progress}

-- The replies that a server gives to what is asked in a course, but for those on which the next replica is
-- asked.
abbrev pub Answers : Course → Reply → Type 0
Answers course.Reading (reply.Rows pairs) = ⊤
Answers course.Reading (reply.Uncertain key ts) = ⊤
Answers course.Reading (reply.Unknown key a start anchor) = ⊤
Answers course.Laying (reply.Laid ts) = ⊤
Answers course.Laying (reply.Intent key a start anchor) = ⊤
Answers course.Laying (reply.NoQuorum down) = ⊤
Answers course.Refreshing reply.Refreshed = ⊤
Answers course.Refreshing (reply.Newer ts) = ⊤
Answers course.Refreshing (reply.Unknown key a start anchor) = ⊤
Answers (course.Pushing other back) (reply.Fate a fate) = ⊤
Answers (course.Pushing other back.Put) (reply.Live a) = ⊤
Answers (course.Pushing other back) (reply.NoQuorum down) = ⊤
Answers course.Committing reply.Ended = ⊤
Answers course.Committing (reply.Aborted by) = ⊤
Answers course.Committing (reply.Pushed ts) = ⊤
Answers course.Committing (reply.NoQuorum down) = ⊤
Answers (course.Aborting c) reply.Ended = ⊤
Answers (course.Aborting c) (reply.NoQuorum down) = ⊤
Answers _ _ = ⊥

-- Another's intent stands in the way, so it is pushed.
abbrev pub pushes : Obstacle → Back → Progress → Progress
pushes o b t = goes_to (course.Pushing o b) t

-- The request that met an obstacle is made again.
abbrev pub course_back : Back → Course
course_back back.Read = course.Reading
course_back back.Put = course.Laying
course_back back.Refresh = course.Refreshing

abbrev pub learns : Known → Progress → Progress
learns k t = record t { fates = learned k t.fates }

-- Rows are fed to the script, and their span counts as served.
abbrev pub served_with : Ask → Progress → Progress
served_with a t = record (goes_to course.Reading t) { served = t.served ++ a ∷ [] }

abbrev pub fed_by : Need → List Pair → Machine → Machine
fed_by (need.Ask a) pairs m = record { program = m.program; fed = m.fed ++ fed_with a pairs ∷ []; progress = served_with a m.progress }
fed_by need.Done pairs m = m
fed_by (need.Fault s) pairs m = m

-- A put stands, and a higher timestamp raises the write timestamp.
abbrev pub laid_at : Ts → Progress → Progress
laid_at ts t = record (goes_to course.Laying t) { at = later t.at ts; laid = t.laid ++ ts ∷ []; put_out = true }

-- One more span reads at the write timestamp as it was read.
abbrev pub refreshed : Progress → Progress
refreshed t = record (goes_to course.Refreshing t) { again = t.again + 1 }

-- The attempt learned that its own abort stands.
abbrev pub own_abort : Progress → Known
own_abort t = record { attempt = t.attempt; fate = fate.Aborted }

-- What becomes of a transaction by the reply to a read ..
abbrev pub after_read : Reply → Machine → Machine
after_read (reply.Rows pairs) m = fed_by (need_of m) pairs m
after_read (reply.Uncertain key ts) m = with_progress m (retry_due (cause.Uncertain key ts) m.progress)
after_read (reply.Unknown key a start anchor) m =
    with_progress m (pushes (record { key = key; attempt = a; start = start; anchor = anchor }) back.Read m.progress)
after_read _ m = m

-- .. to a put ..
abbrev pub after_put : RangeId → Reply → Progress → Progress
after_put range (reply.Laid ts) t = laid_at ts t
after_put range (reply.Intent key a start anchor) t = pushes (record { key = key; attempt = a; start = start; anchor = anchor }) back.Put t
after_put range (reply.NoQuorum down) t = refused (refusal.NoQuorum range down) t
after_put range _ t = t

-- .. to a refresh ..
abbrev pub after_refresh : Reply → Progress → Progress
after_refresh reply.Refreshed t = refreshed t
after_refresh (reply.Newer ts) t = retry_due (cause.NewerWrite ts) t
after_refresh (reply.Unknown key a start anchor) t =
    pushes (record { key = key; attempt = a; start = start; anchor = anchor }) back.Refresh t
after_refresh _ t = t

-- .. to a push: the fate goes with the request that is made again; a writer gives way to an older attempt
-- that is alive ..
abbrev pub after_push : RangeId → Obstacle → Back → Reply → Progress → Progress
after_push anchor o b (reply.Fate a fate) t = learns (record { attempt = a; fate = fate }) (goes_to (course_back b) t)
after_push anchor o b (reply.Live a) t = refused (refusal.Conflict o.key a) t
after_push anchor o b (reply.NoQuorum down) t = refused (refusal.NoQuorum anchor down) t
after_push anchor o b _ t = t

-- .. to a commit ..
abbrev pub after_commit : RangeId → Reply → Progress → Progress
after_commit anchor reply.Ended t = goes_to course.Answering t
after_commit anchor (reply.Aborted by) t = refused_decided (refusal.Aborted by) t
after_commit anchor (reply.Pushed ts) t = retry_due (cause.Pushed ts) t
after_commit anchor (reply.NoQuorum down) t = refused (refusal.NoQuorum anchor down) t
after_commit anchor _ t = t

-- .. and to the abort that goes before a retry.
abbrev pub after_abort : RangeId → RetryCause → Reply → Progress → Progress
after_abort anchor c reply.Ended t = learns (own_abort t) (goes_to (course.Retrying c) t)
after_abort anchor c (reply.NoQuorum down) t = refused (refusal.NoQuorum anchor down) t
after_abort anchor c _ t = t

-- The reply to what was asked of this range in a course.
abbrev pub after_reply : RangeId → Course → Reply → Machine → Machine
after_reply range course.Reading q m = after_read q m
after_reply range course.Laying q m = with_progress m (after_put range q m.progress)
after_reply range course.Refreshing q m = with_progress m (after_refresh q m.progress)
after_reply range (course.Pushing o b) q m = with_progress m (after_push range o b q m.progress)
after_reply range course.Committing q m = with_progress m (after_commit range q m.progress)
after_reply range (course.Aborting c) q m = with_progress m (after_abort range c q m.progress)
after_reply range _ q m = m

abbrev pub after_asked : Option RangeId → Reply → Machine → Machine
after_asked (Some range) q m = after_reply range m.progress.course q m
after_asked None q m = m

-- The machine once it took a reply to what is outstanding.
abbrev pub after : Reply → Machine → Machine
after q m = after_asked m.progress.asked q m
