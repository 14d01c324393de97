use Rattle.std.specs.Prelude.{List, None, Some, ⊤, ◌≡◌}
use Rattle.journal.specs.declared.entries.JournalEntry.TheVariants as entry
use Rattle.journal.specs.declared.entries.Shown.TheVariants as shown
use Rattle.journal.specs.declared.entries.Shown.{Shown}
use Rattle.mr_base.specs.declared.ids.MsgId.{MsgId}
use Rattle.mr_base.specs.declared.ids.NodeId.{NodeId}
use Rattle.mr_base.specs.declared.messages.Reply.TheVariants as replies
use Rattle.mr_base.specs.declared.messages.Request.TheVariants as requests
use Rattle.mr_base.specs.declared.messages.Request.{Request}
use Rattle.range_log.specs.Facts.{lease_of}
use Rattle.range_log.specs.declared.entries.Entry.{Entry}
use Rattle.range_log.specs.declared.entries.Lease.{Lease}
use Rattle.run_laws.specs.NoQuorum.{LacksQuorum}
use Rattle.run_laws.specs.NoServer.{CannotDo}
use Rattle.run_laws.specs.Places.{IsTaking}
use Rattle.run_laws.specs.TrueReplies.{IsTrueOfAbort, IsTrueOfCommit, IsTrueOfPush, IsTrueOfPut, IsTrueOfRead, IsTrueOfRefresh, read_of, refresh_by}
use Rattle.run_words.specs.Askers.{range_asked, request_of}
use Rattle.run_words.specs.Happened.{Always}
use Rattle.run_words.specs.History.{History, Item, Made}
use Rattle.run_words.specs.Logs.{prefix}
use Rattle.run_words.specs.Setup.{Setup}
use Rattle.run_words.specs.Steps.{step_of, taken_in}

-- Truthful: each reply says what was so where it was sent. The laws don't ask it, since what a transaction does is judged
-- by what stands; causes follow from it. (What a server answers is this project's profile.)

abbrev pub IsTrueOf : Setup → History → MsgId → List Entry → Request → Shown → Type 0
IsTrueOf setup h m entries (requests.Read a j span at limit known) body = IsTrueOfRead setup h m entries (read_of a span at limit known) body
IsTrueOf setup h m entries (requests.Refresh a j span from at known) body =
    IsTrueOfRefresh setup h m entries (refresh_by a span from at known) body
IsTrueOf setup h m entries (requests.Put a j start anchor at key value known) body = IsTrueOfPut h m entries a key known body
IsTrueOf setup h m entries (requests.PushReader a j other at) body = IsTrueOfPush h other body
IsTrueOf setup h m entries (requests.PushWriter a j other start other_start) body = IsTrueOfPush h other body
IsTrueOf setup h m entries (requests.Commit a j at) body = IsTrueOfCommit h a at body
IsTrueOf setup h m entries (requests.Abort a j) body = IsTrueOfAbort h a body
IsTrueOf setup h m entries (requests.Resolve a j keys fate) body = ⊥

-- Whatever was asked, a node may say that it isn't the holder, with the last lease that it applied, or that no majority
-- runs.
abbrev pub IsTrueReply : Setup → History → MsgId → NodeId → Request → Shown → Type 0
IsTrueReply setup h m n q (shown.Reply (replies.NotHolder seq holder expiration)) =
    CannotDo setup h n q × (lease : Lease) × (lease_of (prefix setup h n (range_asked q)) ≡ Some lease)
    × (lease.seq ≡ seq) × (lease.holder ≡ holder) × (lease.expiration ≡ expiration)
IsTrueReply setup h m n q (shown.Reply (replies.NoQuorum down)) = LacksQuorum setup h (range_asked q) down
IsTrueReply setup h m n q body = IsTrueOf setup h m (prefix setup h n (range_asked q)) q body

-- A reply that is sent where a request is taken.
abbrev pub Truthful : Setup → Item → History → Type 0
Truthful setup (Made (entry.Sent sent from to clock body)) h =
    (m : MsgId) (q : Request) → taken_in (step_of h) ≡ Some m → IsTaking h q → request_of body ≡ None → IsTrueReply setup h m from q body
Truthful setup _ h = ⊤

abbrev pub IsTruthful : Setup → History → Type 0
IsTruthful setup h = Always (Truthful setup) h
