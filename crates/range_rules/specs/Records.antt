use Rattle.std.specs.Prelude.{◌≡◌, ◌⊎◌, ⊤, ℕ, ◌+◌, ◌<◌, Option, None, Some}
use Rattle.mr_base.specs.Timestamps.{IsBelow, later}
use Rattle.mr_base.specs.declared.ids.AttemptId.{AttemptId}
use Rattle.mr_base.specs.declared.messages.Fate.{Fate}
use Rattle.mr_base.specs.declared.messages.Fate.TheVariants as fates
use Rattle.mr_base.specs.declared.timestamps.Ts.{Ts}
use Rattle.closed_ts.specs.Targets.{at_wall}
use Rattle.range_log.specs.declared.entries.TxnState.{TxnState}
use Rattle.range_log.specs.declared.entries.TxnState.TheVariants.{Pending, Committed, Aborted}

-- How the record of an attempt changes. An attempt without a record is undecided. (Transaction records and pushes:
-- Taft et al., SIGMOD 2020; who aborts whom is this project's profile.)

-- An attempt is undecided.
abbrev pub IsUndecided : Option TxnState → Type 0
IsUndecided None = ⊤
IsUndecided (Some (Pending ts)) = ⊤
IsUndecided (Some (Committed ts)) = ⊥
IsUndecided (Some (Aborted by)) = ⊥

-- What it was pending above: the least timestamp where it has no record.
abbrev pub pending_above : Option TxnState → Ts
pending_above (Some (Pending ts)) = ts
pending_above _ = at_wall 0

-- A record goes from none or pending to pending no lower, to committed or to aborted, and then stays.
abbrev pub Goes : Option TxnState → TxnState → Type 0
Goes None new = ⊤
Goes (Some (Pending ts)) (Pending above) = ¬ IsBelow above ts
Goes (Some (Pending ts)) (Committed at) = ⊤
Goes (Some (Pending ts)) (Aborted by) = ⊤
Goes (Some (Committed ts)) new = ⊥
Goes (Some (Aborted by)) new = ⊥

-- A timestamp is above what a record was pending above.
abbrev pub IsAbovePending : Option TxnState → Ts → Type 0
IsAbovePending (Some (Pending ts)) at = IsBelow ts at
IsAbovePending _ at = ⊤

-- What a record says of its attempt's writes.
abbrev pub shown_fate : TxnState → Fate
shown_fate (Pending ts) = fates.Pushed ts
shown_fate (Committed ts) = fates.Committed ts
shown_fate (Aborted by) = fates.Aborted

-- A writer may abort the other attempt, which began later than its own transaction, or is expired by the wall of
-- the holder's clock.
abbrev pub MayAbort : (start other_start : Ts) → (wall expire : ℕ) → Type 0
MayAbort start other_start wall expire = IsBelow start other_start ⊎ (other_start.wall + expire < wall)

-- A reader at a timestamp pushes the attempt: if it ever commits, then above that too.
pub record IsPushed (old : Option TxnState) (at : Ts) (new : TxnState) : Type 0 where
  pub undecided : IsUndecided old
  pub exact : new ≡ Pending (later at (pending_above old))

-- A writer may not abort the attempt, whose record stays as it was, or is pending above the least timestamp.
pub record IsLeft (old : Option TxnState) (start other_start : Ts) (wall expire : ℕ) (new : TxnState) : Type 0 where
  pub undecided : IsUndecided old
  pub exact : new ≡ Pending (pending_above old)
  pub live : ¬ MayAbort start other_start wall expire

-- A writer aborts the attempt.
pub record IsAbortedBy (by : AttemptId) (old : Option TxnState) (start other_start : Ts) (wall expire : ℕ) (new : TxnState) : Type 0 where
  pub undecided : IsUndecided old
  pub exact : new ≡ Aborted by
  pub older_or_expired : MayAbort start other_start wall expire

-- The attempt commits, above all that it was pending above.
pub record IsCommitted (old : Option TxnState) (at : Ts) (new : TxnState) : Type 0 where
  pub undecided : IsUndecided old
  pub exact : new ≡ Committed at
  pub above : IsAbovePending old at

-- The attempt aborts itself.
pub record IsGivenUp (a : AttemptId) (old : Option TxnState) (new : TxnState) : Type 0 where
  pub undecided : IsUndecided old
  pub exact : new ≡ Aborted a
