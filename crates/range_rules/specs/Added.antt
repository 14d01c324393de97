use Rattle.std.specs.Prelude.{◌-◌, ◌++◌, ⊤, List, [], ◌∷◌, length, take}
use Rattle.range_log.specs.declared.entries.Entry.{Entry}

-- What a log grew by. Logs are lists of entries, the newest first.

-- The entries of a log that an older one doesn't have.
abbrev pub added_to : (old new : List Entry) → List Entry
added_to old new = take (length new - length old) new

-- Each of the entries that were added is licensed, by a rule, given those that stood before it.
abbrev pub AreLicensed : (Entry → List Entry → Type 0) → (added before : List Entry) → Type 0
AreLicensed IsLicensed [] before = ⊤
AreLicensed IsLicensed (e ∷ added) before = IsLicensed e (added ++ before) × AreLicensed IsLicensed added before
