use Rattle.std.specs.Prelude.{◌≡◌, ℕ, ◌+◌, ◌-◌, ◌^◌, ◌<◌, ◌⊎◌, min}

-- The last value of a fault counter of 64 bits, at which it stays.
abbrev pub last_count : ℕ
last_count = 2 ^ 64 - 1

-- One more fault or call, where the counter isn't at its last value.
abbrev pub next_count : ℕ → ℕ
next_count count = min (count + 1) last_count

-- A failed call shows in the count of faults: it rose, or stands at its last value.
abbrev pub CountsFault : (old new most : ℕ) → Type 0
CountsFault old new most = (old < new) ⊎ (new ≡ most)
