use Rattle.std.specs.Prelude.{ℕ, ◌-◌, ◌==◌, ◌&&◌, Bool, false, if◌then◌else◌, [], ◌∷◌, nat_lt, slice_get, take, Option, Some, None, is_some, unwrap_or}
use Rattle.std.specs.Option.{option_and_then, option_map}
use Rattle.mr_base.specs.declared.ids.MsgId.{MsgId}
use Rattle.mr_base.specs.declared.ids.NodeId.{NodeId}
use Rattle.mr_base.specs.declared.ids.RangeId.{RangeId}
use Rattle.mr_base.specs.declared.messages.Reply.TheVariants as replies
use Rattle.range_log.specs.declared.entries.Lease.{Lease}
use Rattle.range_log.specs.Facts.{lease_of}
use Rattle.journal.specs.declared.entries.JournalEntry.TheVariants as entry
use Rattle.journal.specs.declared.entries.Shown.{Shown}
use Rattle.journal.specs.declared.entries.Shown.TheVariants as shown
use Rattle.journal.specs.declared.events.Event.TheVariants as events
use Rattle.run_words.specs.Askers.{range_asked, replied_to, request_of}
use Rattle.run_words.specs.History.{Item, Ran, Made, History}
use Rattle.run_words.specs.Logs.{applied, prefix}
use Rattle.run_words.specs.Messages.{Mail, answered_by, mail}
use Rattle.run_words.specs.Ranges.{voters_of}
use Rattle.run_words.specs.Setup.{Setup}

-- Where a node believes the leaseholders to be. (CockroachDB's documentation of range caches, in this project's
-- profile.)

-- The sequence of a lease and the node that it names.
pub record Hint : Type 0 where
  pub seq : ℕ
  pub holder : NodeId

-- At first the first voter.
abbrev pub first_hint : Setup → History → RangeId → Hint
first_hint setup h j = record { seq = 1; holder = unwrap_or (slice_get (voters_of setup h j) 0) (record { 0 = 0 }) }

abbrev pub hint_by : Option Lease → Hint → Hint
hint_by None old = old
hint_by (Some lease) old = record { seq = lease.seq; holder = lease.holder }

abbrev pub newer_hint : Option Hint → Hint → Hint
newer_hint None old = old
newer_hint (Some told) old = if nat_lt old.seq told.seq then told else old

abbrev pub hint_in : Shown → Option Hint
hint_in (shown.Reply (replies.NotHolder seq holder expiration)) = Some (record { seq = seq; holder = holder })
hint_in _ = None

-- The range of the request that a message answers.
abbrev pub range_answered : History → MsgId → Option RangeId
range_answered h m =
    option_map range_asked (option_and_then (λ sent. request_of sent.body) (option_and_then (mail h) (answered_by h m)))

abbrev pub is_range : Option RangeId → RangeId → Bool
is_range None j = false
is_range (Some r) j = r.0 == j.0

abbrev pub is_told : History → MsgId → NodeId → RangeId → Mail → Bool
is_told h m n j sent = (sent.to.0 == n.0) && (is_range (range_answered h m) j && is_some (replied_to h m))

-- What a reply to a transaction that is open tells its gateway of a range's lease.
abbrev pub told_hint : History → MsgId → NodeId → RangeId → Option Hint
told_hint h m n j = option_and_then (λ sent. if is_told h m n j sent then hint_in sent.body else None) (mail h m)

abbrev pub hint_after : Item → (MsgId → Option Hint) → (first : Hint) → (kept news : Option Lease) → NodeId → Hint → Hint
hint_after (Ran line (events.Start m)) told first kept news n old = if m.0 == n.0 then hint_by kept first else old
hint_after (Made (entry.Taken m)) told first kept news n old = newer_hint (told m) old
hint_after _ told first kept news n old = hint_by news old

-- The last lease among the entries of a range that a node applied just now.
abbrev pub lease_applied : Setup → Item → History → NodeId → RangeId → Option Lease
lease_applied setup x h n j =
    lease_of (take (applied setup (x ∷ h) n j - applied setup h n j) (prefix setup (x ∷ h) n j))

-- The hint of a node: the last lease that its own replica applied, or that such a reply told with a higher sequence; a
-- node that starts begins with what its replica has.
abbrev pub hint : Setup → History → NodeId → RangeId → Hint
hint setup [] n j = first_hint setup [] j
hint setup (x ∷ h) n j =
    hint_after x (λ m. told_hint h m n j) (first_hint setup h j) (lease_of (prefix setup h n j)) (lease_applied setup x h n j) n
    (hint setup h n j)
