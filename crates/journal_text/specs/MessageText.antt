-- Bodies of messages, as the trace shows them. (Source: this project's profile.)
use Rattle.std.specs.Prelude.{ℕ, List, ◌++◌, Option, codes, decimal}
use Rattle.mr_base.specs.Ids.{range_text, attempt_text}
use Rattle.mr_base.specs.Timestamps.{ts_text}
use Rattle.mr_base.specs.declared.ids.AttemptId.{AttemptId}
use Rattle.mr_base.specs.declared.ids.RangeId.{RangeId}
use Rattle.mr_base.specs.declared.messages.Fate.{Fate}
use Rattle.mr_base.specs.declared.messages.Known.{Known}
use Rattle.mr_base.specs.declared.messages.Reply.{Reply}
use Rattle.mr_base.specs.declared.messages.Reply.TheVariants as reply
use Rattle.mr_base.specs.declared.messages.Request.{Request}
use Rattle.mr_base.specs.declared.messages.Request.TheVariants as request
use Rattle.mr_base.specs.declared.spans.Span.{Span}
use Rattle.mr_base.specs.declared.timestamps.Ts.{Ts}
use Rattle.journal_text.specs.LogText.{fate_text, fates_text, hex_text, origin_text, span_text, uncertain_text, write_text}
use Rattle.journal_text.specs.StateText.{not_holder_text}
use Rattle.journal_text.specs.Text.{joined, no_quorum_text, number_or_dash}
use Rattle.journal.specs.declared.entries.Shown.{Shown}
use Rattle.journal.specs.declared.entries.Shown.TheVariants as shown

-- For which attempt a request is, and to which range it goes.
abbrev pub address_text : AttemptId → RangeId → List ℕ
address_text attempt range = attempt_text attempt ++ codes " " ++ range_text range

-- What stands behind the address: of a read, a refresh and a put; of the pushes of a reader at a timestamp and
-- of a writer, with the starts of its own transaction and of the other; and of a resolve.
abbrev pub read_text : Span → Ts → Option ℕ → List Known → List ℕ
read_text span at limit fates = codes " " ++ span_text span ++ codes " at " ++ ts_text at ++ codes " limit " ++ number_or_dash limit ++ codes " fates " ++ fates_text fates

abbrev pub refresh_text : Span → (from at : Ts) → List Known → List ℕ
refresh_text span from at fates = codes " " ++ span_text span ++ codes " from " ++ ts_text from ++ codes " at " ++ ts_text at ++ codes " fates " ++ fates_text fates

abbrev pub put_text : Ts → RangeId → Ts → (key : List ℕ) → Option (List ℕ) → List Known → List ℕ
put_text start anchor at key value fates = codes " " ++ origin_text start anchor ++ codes " " ++ write_text at key value ++ codes " fates " ++ fates_text fates

abbrev pub reader_text : AttemptId → Ts → List ℕ
reader_text other at = codes " other " ++ attempt_text other ++ codes " reader " ++ ts_text at

abbrev pub writer_text : AttemptId → (start other_start : Ts) → List ℕ
writer_text other start other_start = codes " other " ++ attempt_text other ++ codes " writer " ++ ts_text start ++ codes " start " ++ ts_text other_start

abbrev pub resolve_text : (keys : List (List ℕ)) → Fate → List ℕ
resolve_text keys fate = codes " keys " ++ joined hex_text (codes ",") keys ++ codes " " ++ fate_text fate

-- What a gateway asks.
abbrev pub request_text : Request → List ℕ
request_text (request.Read attempt range span at limit fates) = codes "read " ++ address_text attempt range ++ read_text span at limit fates
request_text (request.Refresh attempt range span from at fates) = codes "refresh " ++ address_text attempt range ++ refresh_text span from at fates
request_text (request.Put attempt range start anchor at key value fates) = codes "put " ++ address_text attempt range ++ put_text start anchor at key value fates
request_text (request.PushReader attempt range other at) = codes "push " ++ address_text attempt range ++ reader_text other at
request_text (request.PushWriter attempt range other start other_start) = codes "push " ++ address_text attempt range ++ writer_text other start other_start
request_text (request.Commit attempt range at) = codes "end " ++ address_text attempt range ++ codes " commit " ++ ts_text at
request_text (request.Abort attempt range) = codes "end " ++ address_text attempt range ++ codes " abort"
request_text (request.Resolve attempt range keys fate) = codes "resolve " ++ address_text attempt range ++ resolve_text keys fate

-- An intent that was met: its key and attempt, and where its record stands.
abbrev pub met_text : (key : List ℕ) → AttemptId → Ts → RangeId → List ℕ
met_text key attempt start anchor = hex_text key ++ codes " " ++ attempt_text attempt ++ codes " " ++ origin_text start anchor

-- The fate of an attempt.
abbrev pub fate_of_text : AttemptId → Fate → List ℕ
fate_of_text attempt fate = codes "fate " ++ attempt_text attempt ++ codes " " ++ fate_text fate

-- What the node of a replica answers.
abbrev pub reply_text : Reply → List ℕ
reply_text (reply.Rows pairs) = codes "rows"
reply_text (reply.Uncertain key ts) = uncertain_text key ts
reply_text (reply.Unknown key attempt start anchor) = codes "unknown " ++ met_text key attempt start anchor
reply_text (reply.Laid ts) = codes "laid " ++ ts_text ts
reply_text (reply.Intent key attempt start anchor) = codes "intent " ++ met_text key attempt start anchor
reply_text reply.Refreshed = codes "refreshed"
reply_text (reply.Newer ts) = codes "newer " ++ ts_text ts
reply_text (reply.Fate attempt fate) = fate_of_text attempt fate
reply_text (reply.Live attempt) = codes "live " ++ attempt_text attempt
reply_text reply.Ended = codes "ended"
reply_text (reply.Aborted by) = codes "aborted " ++ attempt_text by
reply_text (reply.Pushed ts) = codes "pushed " ++ ts_text ts
reply_text (reply.NotHolder seq holder expiration) = not_holder_text seq holder expiration
reply_text (reply.NoQuorum down) = no_quorum_text down
reply_text reply.Down = codes "down"

-- What the journal keeps of a body: of a reply of rows, their number.
abbrev pub body_text : Shown → List ℕ
body_text (shown.Request request) = request_text request
body_text (shown.Rows count) = codes "rows " ++ decimal count
body_text (shown.Reply reply) = reply_text reply
