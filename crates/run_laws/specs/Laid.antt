use Rattle.std.specs.List.{Contains, filter}
use Rattle.std.specs.Prelude.{Bool, List, None, Option, Some, false, length, ℕ, ⊤, ◌+◌, ◌<◌, ◌==◌, ◌≡◌, ◌≢◌, ◌⊎◌}
use Rattle.journal.specs.declared.entries.How.TheVariants as how
use Rattle.journal.specs.declared.entries.JournalEntry.TheVariants as entry
use Rattle.mr_base.specs.Spans.{InSpan}
use Rattle.mr_base.specs.Timestamps.{IsBelow}
use Rattle.mr_base.specs.declared.ids.AttemptId.{AttemptId}
use Rattle.mr_base.specs.declared.ids.NodeId.{NodeId}
use Rattle.mr_base.specs.declared.ids.RangeId.{RangeId}
use Rattle.mr_base.specs.declared.messages.Request.TheVariants as requests
use Rattle.mr_base.specs.declared.messages.Request.{Request}
use Rattle.mr_base.specs.declared.timestamps.Ts.{Ts}
use Rattle.range_log.specs.Facts.{lease_of}
use Rattle.range_log.specs.declared.entries.Entry.TheVariants as log
use Rattle.range_log.specs.declared.entries.Lease.{Lease}
use Rattle.range_rules.specs.Puts.{IsAbove, IsPlaced}
use Rattle.run_laws.specs.Lists.{IsAnchor}
use Rattle.run_laws.specs.Places.{IsHandling, stepping}
use Rattle.run_words.specs.Attempts.{Attempt, attempt_of, greatest_put}
use Rattle.run_words.specs.Clocks.{reading}
use Rattle.run_words.specs.History.{History, Item, Made}
use Rattle.run_words.specs.Logs.{log_of}
use Rattle.run_words.specs.Puts.{PutMade, commit, puts}
use Rattle.run_words.specs.Ranges.{is_global}
use Rattle.run_words.specs.Relations.{WasServed}
use Rattle.run_words.specs.Serving.{ServedRead}
use Rattle.run_words.specs.Setup.{Setup}
use Rattle.run_words.specs.Transactions.{Beginning, beginning}

-- Laid: at what timestamp a put is laid. (The timestamp cache, closed timestamps and global tables: Taft et al., SIGMOD
-- 2020, and VanBenschoten et al., SIGMOD 2022; the amount by which a put is moved is this project's profile.)

-- A request is for this put.
abbrev pub IsForPut : AttemptId → RangeId → Ts → RangeId → Ts → List ℕ → Option (List ℕ) → Request → Type 0
IsForPut a j start anchor asked key value (requests.Put b r s c at k v known) =
    (b ≡ a) × (r ≡ j) × (s ≡ start) × (c ≡ anchor) × (at ≡ asked) × (k ≡ key) × (v ≡ value)
IsForPut a j start anchor asked key value _ = ⊥

abbrev pub is_by_lease_at : RangeId → Item → Bool
is_by_lease_at j (Made (entry.Serve a n r span at limit count how.Lease known)) = r.0 == j.0
is_by_lease_at j _ = false

-- How many reads were served by lease in a range.
abbrev pub served_by_lease : RangeId → History → ℕ
served_by_lease j h = length (filter (is_by_lease_at j) h)

-- How many spans the timestamp cache of a range's holder keeps.
abbrev pub cache_capacity : ℕ
cache_capacity = 1024

-- A timestamp counts as one at which a key of a range was read: a span with the key was served at it; or it is the low
-- water of a lease; or so many reads were served by lease that the cache forgot some, and one of them was at it.
abbrev pub CountsAsRead : Setup → History → RangeId → List ℕ → Ts → Type 0
CountsAsRead setup h j key ts =
    ((s : ServedRead) × WasServed setup s h × (s.range ≡ j) × InSpan s.read.span key × (s.read.at ≡ ts))
    ⊎ (((lease : Lease) × Contains (log_of setup h j) (log.Lease lease) × (lease.low ≡ ts))
    ⊎ ((cache_capacity < served_by_lease j h)
    × (s : ServedRead) × WasServed setup s h × (s.range ≡ j) × (s.by ≡ how.Lease) × (s.read.at ≡ ts)))

-- A put: where it stands, above what stands in the way, and the first of its attempt at its key. Its start is its
-- transaction's, its anchor its attempt's, and it was asked at the greatest of the attempt's read timestamp and its
-- earlier puts. Its attempt hasn't committed.
pub record IsPutLaid (setup : Setup) (h : History) (a : AttemptId) (j : RangeId) (start : Ts) (anchor : RangeId) (p : Ts) (key : List ℕ) (value : Option (List ℕ)) : Type 0 where
  pub attempt : Attempt
  pub is_attempt : attempt_of h a ≡ Some attempt
  pub place : IsHandling h a (IsForPut a j start anchor (greatest_put h a attempt.read_at) key value)
  pub begun : Beginning
  pub is_begun : beginning h attempt.txn ≡ Some begun
  pub start_is : start ≡ begun.start
  pub anchor_is : IsAnchor setup h a anchor
  pub first : (put : PutMade) → Contains (puts h a) put → put.range ≡ j → put.key ≢ key
  pub undecided : commit h a ≡ None
  pub reads : (s : ServedRead) → WasServed setup s h → s.range ≡ j → s.read.attempt ≢ a → InSpan s.read.span key → IsBelow s.read.at p
  pub above_all : IsAbove (log_of setup h j) key p
  pub low : (lease : Lease) → lease_of (log_of setup h j) ≡ Some lease → ¬ IsBelow p lease.low
  pub node : NodeId
  pub actor_is : stepping h ≡ Some node
  pub placed : IsPlaced (CountsAsRead setup h j key) (log_of setup h j) (is_global setup h j)
      ((reading setup h node).wall + setup.settings.lead) (greatest_put h a attempt.read_at) key
      (record { attempt = a; start = start; anchor = anchor; ts = p; value = value })

abbrev pub Laid : Setup → History → Item → Type 0
Laid setup h (Made (entry.Append j index (log.Put a start anchor ts key value))) = IsPutLaid setup h a j start anchor ts key value
Laid setup h _ = ⊤
