use Rattle.std.specs.Prelude.{◌≡◌, ℕ, List, Option, Some, None}
use Rattle.closed_ts.specs.Serving.{ServesByClosure, ServesByLease}
use Rattle.mr_base.specs.declared.ids.AttemptId.{AttemptId}
use Rattle.mr_base.specs.declared.messages.Known.{Known}
use Rattle.mr_base.specs.declared.messages.Reply.{Reply}
use Rattle.mr_base.specs.declared.messages.Reply.TheVariants as replies
use Rattle.mr_base.specs.declared.spans.Span.{Span}
use Rattle.mr_base.specs.declared.timestamps.Ts.{Ts}
use Rattle.mvcc_range.specs.Answer.{Read}
use Rattle.mvcc_range.specs.ReadAnswers.{IsReadAnswer, IsRefreshAnswer}
use Rattle.mvcc_range.specs.RefreshAnswer.{Refresh}
use Rattle.mvcc_range.specs.declared.answers.ReadAnswer.TheVariants as reads
use Rattle.mvcc_range.specs.declared.answers.RefreshAnswer.TheVariants as refreshes
use Rattle.range_log.specs.Facts.{closed_of, lease_of}
use Rattle.range_log.specs.declared.entries.Entry.{Entry}
use Rattle.range_log.specs.declared.entries.Lease.{Lease}
use Rattle.range_server.specs.Refusals.{not_holder}
use Rattle.range_server.specs.declared.reads.Right.{Right}
use Rattle.range_server.specs.declared.reads.Right.TheVariants as rights
use Rattle.range_server.specs.declared.standing.Standing.{Standing}
use Rattle.ts_cache.specs.Cached.{added}
use Rattle.ts_cache.specs.Value.{CacheValue}

-- What is answered to reads and refreshes, by the entries that a server has applied. (Leaseholders: Taft et al.,
-- SIGMOD 2020; follower reads: VanBenschoten et al., SIGMOD 2022; that the lease is tried first is this project's
-- profile.)

-- A read and a refresh as they are asked for.
abbrev pub read_of : AttemptId → Span → Ts → Option ℕ → List Known → Read
read_of attempt span at limit known = record { attempt = attempt; span = span; at = at; limit = limit; known = known }

abbrev pub refresh_of : AttemptId → Span → (from to : Ts) → List Known → Refresh
refresh_of attempt span from to known = record { attempt = attempt; span = span; from = from; to = to; known = known }

-- A server may serve at a timestamp with a limit, or none, by the last lease that it has applied.
abbrev pub MayByLease : Standing → List Entry → Ts → Option ℕ → Type 0
MayByLease server applied at limit =
    (lease : Lease) × (lease_of applied ≡ Some lease) × ServesByLease lease server.node server.boot at limit

-- It serves so by a right: by its lease, else by what was closed.
abbrev pub ServesBy : Standing → List Entry → Ts → Option ℕ → Right → Type 0
ServesBy server applied at limit rights.Lease = MayByLease server applied at limit
ServesBy server applied at limit rights.Closure =
    (¬ MayByLease server applied at limit) × ServesByClosure (closed_of applied) at limit

-- It serves so by neither.
abbrev pub ServesByNone : Standing → List Entry → Ts → Option ℕ → Type 0
ServesByNone server applied at limit =
    (¬ MayByLease server applied at limit) × (¬ ServesByClosure (closed_of applied) at limit)

-- The reply names the last lease that was applied.
abbrev pub NamesLast : List Entry → Reply → Type 0
NamesLast applied reply = (lease : Lease) × (lease_of applied ≡ Some lease) × (reply ≡ not_holder lease)

-- What a read is answered, and by what right it was served: what the entries say.
abbrev pub ReadGives : Standing → List Entry → Read → Reply → Option Right → Type 0
ReadGives server applied read (replies.Rows pairs) (Some right) =
    ServesBy server applied read.at read.limit right × IsReadAnswer applied read (reads.Rows pairs)
ReadGives server applied read (replies.Uncertain key ts) (Some right) =
    ServesBy server applied read.at read.limit right × IsReadAnswer applied read (reads.Uncertain key ts)
ReadGives server applied read (replies.Unknown key attempt start anchor) (Some right) =
    ServesBy server applied read.at read.limit right
    × IsReadAnswer applied read (reads.Unknown key attempt start anchor)
ReadGives server applied read (replies.NotHolder seq holder expiration) None =
    ServesByNone server applied read.at read.limit × NamesLast applied (replies.NotHolder seq holder expiration)
ReadGives server applied read reply by = ⊥

-- What a refresh is answered, likewise; it has no limit.
abbrev pub RefreshGives : Standing → List Entry → Refresh → Reply → Option Right → Type 0
RefreshGives server applied r replies.Refreshed (Some right) =
    ServesBy server applied r.to None right × IsRefreshAnswer applied r refreshes.Done
RefreshGives server applied r (replies.Newer ts) (Some right) =
    ServesBy server applied r.to None right × IsRefreshAnswer applied r (refreshes.NewerWrite ts)
RefreshGives server applied r (replies.Unknown key attempt start anchor) (Some right) =
    ServesBy server applied r.to None right × IsRefreshAnswer applied r (refreshes.Unknown key attempt start anchor)
RefreshGives server applied r (replies.NotHolder seq holder expiration) None =
    ServesByNone server applied r.to None × NamesLast applied (replies.NotHolder seq holder expiration)
RefreshGives server applied r reply by = ⊥

-- What was served by the lease counts as read from then on: the rows, and what was refreshed.
abbrev pub seen_by : Right → Span → Ts → CacheValue → CacheValue
seen_by rights.Lease span at seen = added seen span at
seen_by rights.Closure span at seen = seen

abbrev pub seen_with : Option Reply → Option Right → Span → Ts → CacheValue → CacheValue
seen_with (Some (replies.Rows pairs)) (Some right) span at seen = seen_by right span at seen
seen_with (Some replies.Refreshed) (Some right) span at seen = seen_by right span at seen
seen_with reply by span at seen = seen

-- The right by which a server serves, if by any.
abbrev pub IsRightAt : Standing → List Entry → Ts → Option ℕ → Option Right → Type 0
IsRightAt server applied at limit (Some right) = ServesBy server applied at limit right
IsRightAt server applied at limit None = ServesByNone server applied at limit

-- A reply is given, and this one.
abbrev pub IsReply : (Reply → Type 0) → Option Reply → Type 0
IsReply Gives None = ⊥
IsReply Gives (Some reply) = Gives reply
