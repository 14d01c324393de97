use Rattle.std.specs.Prelude.{◌==◌, ℕ, List, [], ◌∷◌, Option, Some, None, Bool, length, map, take_while, slice_get, slice_range, option_map}
use Rattle.mr_base.specs.declared.ids.RangeId.{RangeId}
use Rattle.mr_base.specs.declared.messages.Fate.{Fate}
use Rattle.mr_base.specs.declared.messages.Fate.TheVariants as fate
use Rattle.mr_base.specs.declared.messages.Request.{Request}
use Rattle.mr_base.specs.declared.messages.Request.TheVariants as request
use Rattle.mr_base.specs.declared.script.Need.{Need}
use Rattle.mr_base.specs.declared.script.Need.TheVariants as need
use Rattle.mr_base.specs.declared.spans.Ask.{Ask}
use Rattle.mr_base.specs.declared.spans.Write.{Write}
use Rattle.txn_coord.specs.Machine.{Machine, need_of, writes_of}
use Rattle.txn_coord.specs.declared.moves.Refusal.TheVariants as refusal
use Rattle.txn_coord.specs.declared.progress.Back.{Back}
use Rattle.txn_coord.specs.declared.progress.Back.TheVariants as back
use Rattle.txn_coord.specs.declared.progress.Course.{Course}
use Rattle.txn_coord.specs.declared.progress.Course.TheVariants as course
use Rattle.txn_coord.specs.declared.progress.Obstacle.{Obstacle}
use Rattle.txn_coord.specs.declared.progress.Progress.{Progress}

-- The range to which a request goes.
abbrev pub range_of : Request → RangeId
range_of (request.Read a r span at limit fates) = r
range_of (request.Refresh a r span from at fates) = r
range_of (request.Put a r start anchor at key value fates) = r
range_of (request.PushReader a r other at) = r
range_of (request.PushWriter a r other start other_start) = r
range_of (request.Commit a r at) = r
range_of (request.Abort a r) = r
range_of (request.Resolve a r keys fate) = r

-- While it reads, a transaction asks the span that its script needs, at the read timestamp, with the limit
-- and all fates. (This project's profile, after VanBenschoten et al., SIGMOD 2022.)
abbrev pub read_of : Progress → Ask → Request
read_of t a = request.Read t.attempt a.range a.span t.read t.limit t.fates

abbrev pub needed_read : Progress → Need → Option Request
needed_read t (need.Ask a) = Some (read_of t a)
needed_read t need.Done = None
needed_read t (need.Fault s) = None

-- It lays its writes one after the other, the last value of each key, at the write timestamp, with the
-- transaction's start, the anchor and all fates. (This project's profile.)
abbrev pub put_of : Progress → Option RangeId → Option Write → Option Request
put_of t (Some anchor) (Some w) = Some (request.Put t.attempt w.range t.start anchor t.at w.key w.value t.fates)
put_of t _ _ = None

-- It refreshes what it was served, span by span, from the read timestamp to the write timestamp. (Taft et
-- al., SIGMOD 2020, in this project's profile.)
abbrev pub refresh_of : Progress → Ask → Request
refresh_of t a = request.Refresh t.attempt a.range a.span t.read t.at t.fates

-- A reader pushes the other attempt, at its anchor, above the timestamp at which it reads or refreshes. A
-- writer names its own start and the other's, so that the older of the two goes on. (This project's profile.)
abbrev pub push_of : Progress → Obstacle → Back → Request
push_of t o back.Read = request.PushReader t.attempt o.anchor o.attempt t.read
push_of t o back.Refresh = request.PushReader t.attempt o.anchor o.attempt t.at
push_of t o back.Put = request.PushWriter t.attempt o.anchor o.attempt t.start o.start

-- It ends at its anchor: it commits there at its write timestamp, or aborts there.
abbrev pub commit_of : Progress → RangeId → Request
commit_of t anchor = request.Commit t.attempt anchor t.at

abbrev pub abort_of : Progress → RangeId → Request
abort_of t anchor = request.Abort t.attempt anchor

-- The request that is asked in a course, where the script needs this and writes these.
abbrev pub asked_by : Course → Need → List Write → Progress → Option Request
asked_by course.Reading n ws t = needed_read t n
asked_by course.Laying n ws t = put_of t t.anchor (slice_get ws (length t.laid))
asked_by course.Refreshing n ws t = option_map (refresh_of t) (slice_get t.served t.again)
asked_by (course.Pushing other back) n ws t = Some (push_of t other back)
asked_by course.Committing n ws t = option_map (commit_of t) t.anchor
asked_by (course.Aborting cause) n ws t = option_map (abort_of t) t.anchor
asked_by _ n ws t = None

-- The request that is asked now.
abbrev pub asks : Machine → Option Request
asks m = asked_by m.progress.course (need_of m) (writes_of m) m.progress

-- Writes that follow one another in one range are resolved together.
abbrev pub is_in : RangeId → Write → Bool
is_in range w = w.range.0 == range.0

abbrev pub keys_in : RangeId → List Write → List (List ℕ)
keys_in range ws = map (λ w. w.key) (take_while (is_in range) ws)

abbrev pub resolve_of : Progress → Fate → List Write → Option Request
resolve_of t fate [] = None
resolve_of t fate (w ∷ ws) = Some (request.Resolve t.attempt w.range (keys_in w.range (w ∷ ws)) fate)

-- The writes that were laid and weren't sent to be resolved yet.
abbrev pub unresolved : Progress → List Write → List Write
unresolved t ws = slice_range ws t.resolved (length t.laid)

-- What goes out before all else, and isn't awaited: once an attempt committed, the resolves as committed;
-- once it aborted, those as aborted; and of a transaction that ends refused otherwise one abort.
abbrev pub sent_by : Course → List Write → Progress → Option Request
sent_by course.Answering ws t = resolve_of t (fate.Committed t.at) (unresolved t ws)
sent_by (course.Retrying cause) ws t = resolve_of t fate.Aborted (unresolved t ws)
sent_by (course.Refused (refusal.Aborted by) abort) ws t = resolve_of t fate.Aborted (unresolved t ws)
sent_by (course.Refused why abort) ws t = option_map (abort_of t) abort
sent_by _ ws t = None

abbrev pub sends : Machine → Option Request
sends m = sent_by m.progress.course (writes_of m) m.progress
