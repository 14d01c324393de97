use Rattle.std.specs.Prelude.{ℕ, List, Option}
use Rattle.mr_io.specs.Faults.{CountsFault}

-- A source or a sink before and after a run, the bytes that it has, where they are told, and the count of its calls
-- that failed, which stays at its last value.
pub record Side (T : Type 0) : Type 0 where
  pub before : T
  pub after : T
  pub bytes : T → Option (List ℕ)
  pub faults : T → ℕ
  pub most_faults : ℕ

abbrev pub side : {T : Type 0} → (before after : T) → (bytes : T → Option (List ℕ)) → (faults : T → ℕ) → (most_faults : ℕ) → Side T
side before after bytes faults most_faults =
    record { before = before; after = after; bytes = bytes; faults = faults; most_faults = most_faults }

-- What a run took from its source and gave to its sink.
pub record Exchange (S K : Type 0) : Type 0 where
  pub source : Side S
  pub sink : Side K

abbrev pub exchange : {S K : Type 0} → Side S → Side K → Exchange S K
exchange source sink = record { source = source; sink = sink }

-- What the source held and has left.
abbrev pub held : {S K : Type 0} → Exchange S K → Option (List ℕ)
held x = x.source.bytes x.source.before

abbrev pub left : {S K : Type 0} → Exchange S K → Option (List ℕ)
left x = x.source.bytes x.source.after

-- What the sink had been given at the start and has been given now.
abbrev pub start : {S K : Type 0} → Exchange S K → Option (List ℕ)
start x = x.sink.bytes x.sink.before

abbrev pub written : {S K : Type 0} → Exchange S K → Option (List ℕ)
written x = x.sink.bytes x.sink.after

-- A read or a write failed.
abbrev pub HasFailed : {T : Type 0} → Side T → Type 0
HasFailed s = CountsFault (s.faults s.before) (s.faults s.after) s.most_faults
