use Rattle.std.specs.Prelude.{◌≡◌, ◌⊎◌, ℕ, ◌+◌, ◌≤◌, Bool, true, List}
use Rattle.mr_base.specs.Timestamps.{IsBelow}
use Rattle.mr_base.specs.declared.ids.AttemptId.{AttemptId}
use Rattle.mr_base.specs.declared.timestamps.Ts.{Ts}
use Rattle.closed_ts.specs.Targets.{at_wall}
use Rattle.mvcc_range.specs.Lookups.{IsVersionTs}
use Rattle.range_log.specs.Facts.{HasIntent, Laid, closed_of}
use Rattle.range_log.specs.declared.entries.Entry.{Entry}

-- Where an intent is laid. (Writes above reads and above closed timestamps: Taft et al., SIGMOD 2020, and
-- VanBenschoten et al., SIGMOD 2022; how far above is this project's profile.)

-- The next timestamp of the same wall, owned by an attempt.
abbrev pub just_above : Ts → AttemptId → Ts
just_above ts a = record { wall = ts.wall; logical = ts.logical + 1; owner = a.0 }

-- A timestamp stands in the way of a put at a key: at it the key was read, or may have been; or it was closed, or
-- is that of a version of the key; or, in a global range, it is the wall of the holder's clock and the lead.
abbrev pub IsInTheWay : (IsRead : Ts → Type 0) → List Entry → List ℕ → Bool → (ahead : ℕ) → Ts → Type 0
IsInTheWay IsRead before key is_global ahead f =
    IsRead f
    ⊎ ((f ≡ closed_of before)
    ⊎ (IsVersionTs before key f
    ⊎ ((is_global ≡ true) × (f ≡ at_wall ahead))))

-- A put is placed: no other attempt's intent is at its key, it stands where it was asked or just above what stood
-- in the way and was above that, and in a global range it leads the holder's clock.
pub record IsPlaced (IsRead : Ts → Type 0) (before : List Entry) (is_global : Bool) (ahead : ℕ) (asked : Ts) (key : List ℕ) (put : Laid) : Type 0 where
  pub alone : (i : Laid) → HasIntent key i before → i.attempt ≡ put.attempt
  pub at : (put.ts ≡ asked)
      ⊎ ((f : Ts) × IsInTheWay IsRead before key is_global ahead f × IsBelow asked f × (put.ts ≡ just_above f put.attempt))
  pub lead : is_global ≡ true → ahead ≤ put.ts.wall

-- A put is below nothing that stands in the way. Where owners tell timestamps apart, it is above.
pub record IsNotBelow (before : List Entry) (key : List ℕ) (ts : Ts) : Type 0 where
  pub closed : ¬ IsBelow ts (closed_of before)
  pub versions : (version : Ts) → IsVersionTs before key version → ¬ IsBelow ts version

-- A put is above all that was closed and above each version of its key.
pub record IsAbove (before : List Entry) (key : List ℕ) (ts : Ts) : Type 0 where
  pub closed : IsBelow (closed_of before) ts
  pub versions : (version : Ts) → IsVersionTs before key version → IsBelow version ts
