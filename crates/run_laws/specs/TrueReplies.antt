use Rattle.std.specs.List.{Contains}
use Rattle.std.specs.Prelude.{List, Option, Some, length, ℕ, ◌≡◌, ◌≢◌}
use Rattle.journal.specs.declared.entries.Shown.TheVariants as shown
use Rattle.journal.specs.declared.entries.Shown.{Shown}
use Rattle.mr_base.specs.Timestamps.{IsBelow}
use Rattle.mr_base.specs.declared.ids.AttemptId.{AttemptId}
use Rattle.mr_base.specs.declared.ids.MsgId.{MsgId}
use Rattle.mr_base.specs.declared.ids.RangeId.{RangeId}
use Rattle.mr_base.specs.declared.messages.Fate.{Fate}
use Rattle.mr_base.specs.declared.messages.Known.{Known}
use Rattle.mr_base.specs.declared.messages.Reply.TheVariants as replies
use Rattle.mr_base.specs.declared.spans.Pair.{Pair}
use Rattle.mr_base.specs.declared.spans.Span.{Span}
use Rattle.mr_base.specs.declared.timestamps.Ts.{Ts}
use Rattle.mvcc_range.specs.Answer.{GivesUncertain, GivesUnknown, Read, TellsFate}
use Rattle.mvcc_range.specs.RefreshAnswer.{IsNewerWrite, Refresh, RefreshGivesNewer, RefreshGivesUnknown}
use Rattle.range_log.specs.Facts.{HasIntent, Laid}
use Rattle.range_log.specs.declared.entries.Entry.{Entry}
use Rattle.range_log.specs.declared.entries.TxnState.TheVariants as states
use Rattle.range_rules.specs.Records.{IsUndecided}
use Rattle.range_rules.specs.Resolves.{Decides}
use Rattle.run_laws.specs.Lists.{AreRowsServed}
use Rattle.run_laws.specs.Retries.{IsPending}
use Rattle.run_words.specs.Happened.{Happened}
use Rattle.run_words.specs.History.{History}
use Rattle.run_words.specs.Puts.{PutMade, fate_shown, puts, record_of}
use Rattle.run_words.specs.Serving.{ServedRead, serves}
use Rattle.run_words.specs.Setup.{Setup}

-- What the reply to each kind of request says, where it is sent. (What a server answers is this project's profile.)

-- The read of a request, and its refresh.
abbrev pub read_of : AttemptId → Span → Ts → Option ℕ → List Known → Read
read_of a span at limit known = record { attempt = a; span = span; at = at; limit = limit; known = known }

abbrev pub refresh_by : AttemptId → Span → (from at : Ts) → List Known → Refresh
refresh_by a span from at known = record { attempt = a; span = span; from = from; to = at; known = known }

-- A read or refresh was served where the request was taken.
abbrev pub WasServedBy : Setup → History → MsgId → AttemptId → (ServedRead → Type 0) → Type 0
WasServedBy setup h m a P = (s : ServedRead) × Contains (serves setup h a) s × (s.via ≡ Some m) × P s

-- It has so many rows.
abbrev pub HasRows : ℕ → ServedRead → Type 0
HasRows count s = (rows : List Pair) × AreRowsServed s rows × (length rows ≡ count)

-- Nothing newer was seen by it.
abbrev pub SawNothingNewer : Ts → ServedRead → Type 0
SawNothingNewer from s = (ts : Ts) → ¬ IsNewerWrite s.entries (refresh_by s.read.attempt s.read.span from s.read.at s.read.known) ts

-- An intent is that of an attempt with this start and anchor.
abbrev pub IsIntentOf : AttemptId → Ts → RangeId → Laid → Type 0
IsIntentOf b start anchor i = (i.attempt ≡ b) × (i.start ≡ start) × (i.anchor ≡ anchor)

-- Another's intent stands at a key, and no fate that is carried decides it.
abbrev pub IsInWay : List Entry → AttemptId → List Known → List ℕ → Laid → Type 0
IsInWay entries a known key i =
    HasIntent key i entries × (i.attempt ≢ a) × ((f : Fate) → TellsFate known i.attempt f → ¬ Decides f)

-- What the replies to a read say.
abbrev pub IsTrueOfRead : Setup → History → MsgId → List Entry → Read → Shown → Type 0
IsTrueOfRead setup h m entries read (shown.Rows count) = WasServedBy setup h m read.attempt (HasRows count)
IsTrueOfRead setup h m entries read (shown.Reply (replies.Uncertain key ts)) = GivesUncertain entries read key ts
IsTrueOfRead setup h m entries read (shown.Reply (replies.Unknown key b start anchor)) =
    (i : Laid) × GivesUnknown entries read key i × IsIntentOf b start anchor i
IsTrueOfRead setup h m entries read _ = ⊥

abbrev pub IsTrueOfRefresh : Setup → History → MsgId → List Entry → Refresh → Shown → Type 0
IsTrueOfRefresh setup h m entries r (shown.Reply replies.Refreshed) = WasServedBy setup h m r.attempt (SawNothingNewer r.from)
IsTrueOfRefresh setup h m entries r (shown.Reply (replies.Newer ts)) = RefreshGivesNewer entries r ts
IsTrueOfRefresh setup h m entries r (shown.Reply (replies.Unknown key b start anchor)) =
    (i : Laid) × RefreshGivesUnknown entries r key i × IsIntentOf b start anchor i
IsTrueOfRefresh setup h m entries r _ = ⊥

abbrev pub IsTrueOfPut : History → MsgId → List Entry → AttemptId → List ℕ → List Known → Shown → Type 0
IsTrueOfPut h m entries a key known (shown.Reply (replies.Laid ts)) =
    (put : PutMade) × Contains (puts h a) put × (put.via ≡ Some m) × (put.ts ≡ ts)
IsTrueOfPut h m entries a key known (shown.Reply (replies.Intent k b start anchor)) =
    (k ≡ key) × (i : Laid) × IsInWay entries a known key i × IsIntentOf b start anchor i
IsTrueOfPut h m entries a key known _ = ⊥

-- What the replies to a push of an attempt say of its record.
abbrev pub IsTrueOfPush : History → AttemptId → Shown → Type 0
IsTrueOfPush h other (shown.Reply (replies.Fate b fate)) = (b ≡ other) × (fate_shown h b ≡ Some fate)
IsTrueOfPush h other (shown.Reply (replies.Live b)) = (b ≡ other) × (ts : Ts) × (record_of h b ≡ Some (states.Pending ts))
IsTrueOfPush h other _ = ⊥

-- What the replies to the commit and the abort of an attempt say of its record. That it was pushed may be past.
abbrev pub IsTrueOfCommit : History → AttemptId → Ts → Shown → Type 0
IsTrueOfCommit h a at (shown.Reply replies.Ended) = record_of h a ≡ Some (states.Committed at)
IsTrueOfCommit h a at (shown.Reply (replies.Aborted by)) = record_of h a ≡ Some (states.Aborted by)
IsTrueOfCommit h a at (shown.Reply (replies.Pushed ts)) = Happened (IsPending a ts) h × (¬ IsBelow ts at)
IsTrueOfCommit h a at _ = ⊥

abbrev pub IsTrueOfAbort : History → AttemptId → Shown → Type 0
IsTrueOfAbort h a (shown.Reply replies.Ended) = ¬ IsUndecided (record_of h a)
IsTrueOfAbort h a _ = ⊥
