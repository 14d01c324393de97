use Rattle.std.specs.List.{Contains}
use Rattle.std.specs.Prelude.{List, Option, Some, ℕ, ◌≡◌, ◌⊎◌}
use Rattle.mr_base.specs.Timestamps.{IsBelow}
use Rattle.mr_base.specs.declared.ids.AttemptId.{AttemptId}
use Rattle.mr_base.specs.declared.ids.RangeId.{RangeId}
use Rattle.mr_base.specs.declared.timestamps.Ts.{Ts}
use Rattle.range_log.specs.declared.entries.Entry.TheVariants as log
use Rattle.run_words.specs.History.{History}
use Rattle.run_words.specs.Logs.{log_of}
use Rattle.run_words.specs.Puts.{CommitMade, PutMade, commit, puts}
use Rattle.run_words.specs.Setup.{Setup}

-- What the ranges hold by what is committed. (This project's profile.)

-- A range has this value of a key from a timestamp on: it was loaded, or an attempt that committed then has put it. No
-- value is a deletion.
abbrev pub IsWritten : Setup → History → RangeId → List ℕ → Ts → Option (List ℕ) → Type 0
IsWritten setup h j key ts value =
    ((loaded : List ℕ) × Contains (log_of setup h j) (log.Load ts key loaded) × (value ≡ Some loaded))
    ⊎ ((a : AttemptId) × (made : CommitMade) × (put : PutMade) × (commit h a ≡ Some made) × (made.ts ≡ ts)
    × Contains (puts h a) put × (put.range ≡ j) × (put.key ≡ key) × (put.value ≡ value))

-- A range holds a value of a key below a timestamp: the last one that was written below it.
pub record IsHeld (setup : Setup) (h : History) (j : RangeId) (below : Ts) (key value : List ℕ) : Type 0 where
  pub ts : Ts
  pub written : IsWritten setup h j key ts (Some value)
  pub is_below : IsBelow ts below
  pub last : (other : Ts) (v : Option (List ℕ)) → IsWritten setup h j key other v → IsBelow other below → ¬ IsBelow ts other
