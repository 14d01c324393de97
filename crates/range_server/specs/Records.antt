use Rattle.std.specs.Prelude.{◌≡◌, ◌⊎◌, ℕ, ◌+◌, ◌||◌, nat_lt, if◌then◌else◌, Bool, List, [], ◌∷◌, Option, Some, None, IsSome, MatchOption}
use Rattle.mr_base.specs.Timestamps.{later, ts_lt}
use Rattle.mr_base.specs.declared.ids.AttemptId.{AttemptId}
use Rattle.mr_base.specs.declared.messages.Fate.TheVariants as fates
use Rattle.mr_base.specs.declared.messages.Reply.{Reply}
use Rattle.mr_base.specs.declared.messages.Reply.TheVariants as replies
use Rattle.mr_base.specs.declared.timestamps.Ts.{Ts}
use Rattle.closed_ts.specs.Targets.{at_wall}
use Rattle.mvcc_range.specs.Lookups.{IsStateOf}
use Rattle.range_log.specs.Facts.{lease_of}
use Rattle.range_log.specs.declared.entries.Entry.{Entry}
use Rattle.range_log.specs.declared.entries.Entry.TheVariants as log
use Rattle.range_log.specs.declared.entries.Lease.{Lease}
use Rattle.range_log.specs.declared.entries.TxnState.{TxnState}
use Rattle.range_log.specs.declared.entries.TxnState.TheVariants.{Pending, Committed, Aborted}
use Rattle.range_rules.specs.Holding.{Names}
use Rattle.range_rules.specs.Records.{Goes, IsAbortedBy, IsLeft}
use Rattle.range_server.specs.Refusals.{CanAppend, IsNotHolder, IsWithoutQuorum}
use Rattle.range_server.specs.Scene.{Scene, applied_in}
use Rattle.range_server.specs.declared.records.Outcome.{Outcome}
use Rattle.range_server.specs.declared.standing.Moment.{Moment}

-- What becomes of an attempt by pushes, commits and aborts. (Transaction records and pushes: Taft et al., SIGMOD
-- 2020, in this project's profile.)

abbrev pub told : Reply → Outcome
told reply = record { state = None; reply = reply }

abbrev pub written : TxnState → Reply → Outcome
written state reply = record { state = Some state; reply = reply }

-- A reader at a timestamp pushes the other attempt: decided it stays, else it is pending above that too.
abbrev pub pushed_by_reader : (other : AttemptId) → Ts → Option TxnState → Outcome
pushed_by_reader other at (Some (Committed ts)) = told (replies.Fate other (fates.Committed ts))
pushed_by_reader other at (Some (Aborted by)) = told (replies.Fate other fates.Aborted)
pushed_by_reader other at (Some (Pending ts)) = written (Pending (later at ts)) (replies.Fate other (fates.Pushed (later at ts)))
pushed_by_reader other at None = written (Pending (later at (at_wall 0))) (replies.Fate other (fates.Pushed (later at (at_wall 0))))

-- A writer meets an undecided attempt: it aborts it where it may, else that lives on.
abbrev pub met_by_writer : (attempt other : AttemptId) → Bool → Ts → Outcome
met_by_writer attempt other may_abort ts =
    if may_abort
    then written (Aborted attempt) (replies.Fate other fates.Aborted)
    else written (Pending ts) (replies.Live other)

-- A writer pushes the other attempt.
abbrev pub pushed_by_writer : (attempt other : AttemptId) → Bool → Option TxnState → Outcome
pushed_by_writer attempt other may_abort (Some (Committed ts)) = told (replies.Fate other (fates.Committed ts))
pushed_by_writer attempt other may_abort (Some (Aborted by)) = told (replies.Fate other fates.Aborted)
pushed_by_writer attempt other may_abort (Some (Pending ts)) = met_by_writer attempt other may_abort ts
pushed_by_writer attempt other may_abort None = met_by_writer attempt other may_abort (at_wall 0)

-- A writer may abort an attempt that began later, or is expired by what the clock shows, as a test.
abbrev pub may_abort : (start other_start : Ts) → (wall expire : ℕ) → Bool
may_abort start other_start wall expire = ts_lt start other_start || nat_lt (other_start.wall + expire) wall

abbrev pub may_abort_at : Moment → (start other_start : Ts) → Bool
may_abort_at now start other_start = may_abort start other_start now.clock.wall now.settings.expire

-- The attempt commits, above what it was pending above.
abbrev pub committed_at : Ts → Option TxnState → Outcome
committed_at at (Some (Committed ts)) = told replies.Ended
committed_at at (Some (Aborted by)) = told (replies.Aborted by)
committed_at at (Some (Pending ts)) = if ts_lt ts at then written (Committed at) replies.Ended else told (replies.Pushed ts)
committed_at at None = written (Committed at) replies.Ended

-- The attempt aborts itself.
abbrev pub given_up : AttemptId → Option TxnState → Outcome
given_up attempt (Some (Committed ts)) = told replies.Ended
given_up attempt (Some (Aborted by)) = told replies.Ended
given_up attempt _ = written (Aborted attempt) replies.Ended

-- The outcome is given: its reply, and its state, if any, as the record, which the server can append.
pub record IsSettled (sc : Scene) (attempt : AttemptId) (outcome : Outcome) (reply : Reply) (added : List Entry) : Type 0 where
  pub lease : Lease
  pub has : lease_of (applied_in sc) ≡ Some lease
  pub names : Names lease sc.server.node sc.server.boot
  pub tells : reply ≡ outcome.reply
  pub writes : MatchOption outcome.state (added ≡ []) (λ state. CanAppend sc × (added ≡ log.State attempt state ∷ []))

-- What is answered where this is the outcome: that the server isn't holder, that no majority runs, or the outcome.
abbrev pub Settles : Scene → AttemptId → Outcome → Reply → List Entry → Type 0
Settles sc attempt outcome reply added =
    IsNotHolder sc (IsSome outcome.state) reply added
    ⊎ (IsWithoutQuorum sc (IsSome outcome.state) reply added
    ⊎ IsSettled sc attempt outcome reply added)

-- What is answered to a request that changes a record: what the record as far as it was applied says of it.
abbrev pub SettlesBy : Scene → AttemptId → (Option TxnState → Outcome) → Reply → List Entry → Type 0
SettlesBy sc attempt course reply added =
    (was : Option TxnState) × IsStateOf (applied_in sc) attempt was × Settles sc attempt (course was) reply added

-- An entry changes the record of an attempt by a rule, and as records go.
abbrev pub Changes : AttemptId → (Option TxnState → TxnState → Type 0) → Entry → List Entry → Type 0
Changes attempt IsChange (log.State a state) before =
    (a ≡ attempt) × ((was : Option TxnState) × IsStateOf before attempt was × Goes was state × IsChange was state)
Changes attempt IsChange e before = ⊥

-- How a writer's push changes the other's record.
abbrev pub IsMet : Moment → AttemptId → (start other_start : Ts) → Option TxnState → TxnState → Type 0
IsMet now attempt start other_start was state =
    IsAbortedBy attempt was start other_start now.clock.wall now.settings.expire state
    ⊎ IsLeft was start other_start now.clock.wall now.settings.expire state
