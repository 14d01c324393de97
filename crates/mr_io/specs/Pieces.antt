use Rattle.std.specs.Prelude.{◌≡◌, ℕ, ◌<◌, List, length, take, Option}
use Rattle.std.specs.Io.KnownBytes.{append_known}

-- A write that stopped too early: where what was written is told, it grew by the first n of the bytes, and at least one
-- of them was left to write.
abbrev pub WrotePrefix : (old new : Option (List ℕ)) → List ℕ → Type 0
WrotePrefix old new bytes = (n : ℕ) × (n < length bytes) × (new ≡ append_known old (take n bytes))
