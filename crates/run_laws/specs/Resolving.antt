use Rattle.std.specs.List.{Contains}
use Rattle.std.specs.Prelude.{List, Some, true, ℕ, ⊤, ◌↔◌, ◌≡◌, ◌⊎◌}
use Rattle.journal.specs.declared.entries.JournalEntry.TheVariants as entry
use Rattle.journal.specs.declared.entries.Shown.TheVariants as shown
use Rattle.mr_base.specs.declared.ids.AttemptId.{AttemptId}
use Rattle.mr_base.specs.declared.ids.NodeId.{NodeId}
use Rattle.mr_base.specs.declared.ids.RangeId.{RangeId}
use Rattle.mr_base.specs.declared.ids.TxnId.{TxnId}
use Rattle.mr_base.specs.declared.messages.Fate.TheVariants as fates
use Rattle.mr_base.specs.declared.messages.Request.TheVariants as requests
use Rattle.mr_base.specs.declared.timestamps.Ts.{Ts}
use Rattle.range_rules.specs.Resolves.{HasIntentOf}
use Rattle.run_words.specs.Askers.{gateway_of, own_txn}
use Rattle.run_words.specs.Happened.{Happened}
use Rattle.run_words.specs.History.{History, Item, Made, Ran, Ticked}
use Rattle.run_words.specs.Logs.{log_of}
use Rattle.run_words.specs.Messages.{is_known}
use Rattle.run_words.specs.Puts.{CommitMade, PutMade, commit, puts}
use Rattle.run_words.specs.Ranges.{HasQuorum, HoldsReplica}
use Rattle.run_words.specs.Serving.{IsHolder}
use Rattle.run_words.specs.Setup.{Setup}
use Rattle.run_words.specs.Transactions.{last_attempt}

-- What is done about the intents of an attempt once its gateway learns that it committed. (Taft et al., SIGMOD 2020, on
-- intent resolution, in this project's profile.)

-- The keys of an attempt's puts in a range are these.
abbrev pub AreKeysIn : History → AttemptId → RangeId → List (List ℕ) → Type 0
AreKeysIn h a j keys = (key : List ℕ) → Contains keys key ↔ ((put : PutMade) × Contains (puts h a) put × (put.range ≡ j) × (put.key ≡ key))

abbrev pub IsResolveSent : History → AttemptId → RangeId → Ts → Item → History → Type 0
IsResolveSent now a j c (Made (entry.Sent m from to clock (shown.Request (requests.Resolve b r keys fate)))) h =
    (b ≡ a) × (r ≡ j) × AreKeysIn now a j keys × (fate ≡ fates.Committed c)
IsResolveSent now a j c _ h = ⊥

-- A resolve of the attempt with its keys in a range was sent; or the gateway's node holds a replica there and isn't the
-- holder, or no majority runs, or no intent of the attempt is left.
abbrev pub IsSeenTo : Setup → History → AttemptId → NodeId → RangeId → Ts → Type 0
IsSeenTo setup h a gateway j c =
    Happened (IsResolveSent h a j c) h
    ⊎ ((HoldsReplica setup h gateway j × (¬ IsHolder setup h gateway j))
    ⊎ ((¬ HasQuorum setup h j)
    ⊎ ((key : List ℕ) → ¬ HasIntentOf a key (log_of setup h j))))

-- At the end of an own step of a transaction, each range with a put of its last attempt is seen to, if the gateway knows
-- that the attempt committed.
abbrev pub HasResolved : Setup → History → Type 0
HasResolved setup h =
    (t : TxnId) (a : AttemptId) (made : CommitMade) (gateway : NodeId) (put : PutMade) → own_txn h ≡ Some t → last_attempt h t ≡ Some a
    → commit h a ≡ Some made → is_known h made.via ≡ true → gateway_of h t ≡ Some gateway → Contains (puts h a) put
    → IsSeenTo setup h a gateway put.range made.ts

-- An item ends the step before it: a line, the tick inside a `settle` line, a message that comes, entries that are
-- applied.
abbrev pub EndsStep : Item → Type 0
EndsStep (Ran line event) = ⊤
EndsStep (Ticked ms) = ⊤
EndsStep (Made (entry.Taken m)) = ⊤
EndsStep (Made (entry.Bounced m)) = ⊤
EndsStep (Made (entry.Apply n j count)) = ⊤
EndsStep _ = ⊥
