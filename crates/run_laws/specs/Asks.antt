use Rattle.std.specs.List.{Contains}
use Rattle.std.specs.Prelude.{Option, Some, ℕ, ⊤, ◌≡◌, ◌⊎◌}
use Rattle.mr_base.specs.Timestamps.{IsBelow}
use Rattle.mr_base.specs.declared.ids.AttemptId.{AttemptId}
use Rattle.mr_base.specs.declared.ids.RangeId.{RangeId}
use Rattle.mr_base.specs.declared.messages.Request.TheVariants as requests
use Rattle.mr_base.specs.declared.messages.Request.{Request}
use Rattle.mr_base.specs.declared.spans.Span.{Span}
use Rattle.mr_base.specs.declared.timestamps.Ts.{Ts}
use Rattle.run_laws.specs.Lists.{AsksNext, ReadsKey, WasServedAt, WritesKey, WritesTo}
use Rattle.run_words.specs.Attempts.{Attempt, attempt_of, greatest_put}
use Rattle.run_words.specs.History.{History}
use Rattle.run_words.specs.Puts.{PutMade, puts}
use Rattle.run_words.specs.Setup.{Setup}
use Rattle.run_words.specs.Transactions.{Beginning, beginning}

-- What a request that is sent asks. (VanBenschoten et al., SIGMOD 2022, and Taft et al., SIGMOD 2020, on reads,
-- refreshes, pushes and records; which span, timestamp and limit is this project's profile.)

-- A read asks for the span that the attempt's list reads next, at its read timestamp and with its transaction's limit.
pub record AsksRead (setup : Setup) (h : History) (a : AttemptId) (j : RangeId) (span : Span) (at : Ts) (limit : Option ℕ) : Type 0 where
  pub attempt : Attempt
  pub is_attempt : attempt_of h a ≡ Some attempt
  pub at_is : at ≡ attempt.read_at
  pub begun : Beginning
  pub is_begun : beginning h attempt.txn ≡ Some begun
  pub limit_is : limit ≡ begun.limit
  pub next : AsksNext setup h a (record { range = j; span = span })

-- A refresh asks for a span that the attempt was served at its read timestamp, from that on, at its greatest put, which
-- is above it.
pub record AsksRefresh (setup : Setup) (h : History) (a : AttemptId) (j : RangeId) (span : Span) (from at : Ts) : Type 0 where
  pub attempt : Attempt
  pub is_attempt : attempt_of h a ≡ Some attempt
  pub from_is : from ≡ attempt.read_at
  pub at_is : at ≡ greatest_put h a attempt.read_at
  pub above_it : IsBelow attempt.read_at at
  pub served : WasServedAt setup h a j span attempt.read_at

-- An attempt meets another: it reads, refreshes or writes a key that the other has put.
abbrev pub Meets : Setup → History → AttemptId → AttemptId → Type 0
Meets setup h a other =
    (put : PutMade) × Contains (puts h other) put
    × (ReadsKey setup h a put.range put.key ⊎ WritesKey setup h a put.range put.key)

-- A request may be sent so. Pushes are of attempts that are met; commits, aborts and resolves say nothing that isn't
-- judged where they are handled.
abbrev pub Asks : Setup → History → Request → Type 0
Asks setup h (requests.Read a j span at limit known) = AsksRead setup h a j span at limit
Asks setup h (requests.Refresh a j span from at known) = AsksRefresh setup h a j span from at
Asks setup h (requests.Put a j start anchor at key value known) = WritesTo setup h a j key value
Asks setup h (requests.PushReader a j other at) = Meets setup h a other
Asks setup h (requests.PushWriter a j other start other_start) = Meets setup h a other
Asks setup h (requests.Commit a j at) = ⊤
Asks setup h (requests.Abort a j) = ⊤
Asks setup h (requests.Resolve a j keys fate) = ⊤
