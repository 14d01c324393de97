use Rattle.std.specs.Prelude.{◌≡◌, ⊤, ℕ, ◌<◌, ◌⊎◌}
use Rattle.mr_shell.specs.declared.outcome.End.{End}
use Rattle.mr_shell.specs.declared.outcome.End.TheVariants as ends

-- What may end the lines of a piece: a fault of a line, want of memory or a failed write.
abbrev pub EndsLines : End → Type 0
EndsLines (ends.Fault fault number) = ⊤
EndsLines ends.Memory = ⊤
EndsLines ends.Write = ⊤
EndsLines _ = ⊥

-- What may end the pieces of a source before its end.
abbrev pub EndsPieces : End → Type 0
EndsPieces (ends.Fault fault number) = ⊤
EndsPieces ends.Whole = ⊥
EndsPieces ends.Usage = ⊥
EndsPieces _ = ⊤

-- The status of the process at each end.
abbrev pub status_of : End → ℕ
status_of ends.Whole = 0
status_of (ends.Fault fault number) = 1
status_of ends.Usage = 2
status_of ends.Read = 3
status_of ends.Write = 4
status_of ends.Memory = 5
status_of ends.Size = 7

-- The statuses of the process.
abbrev pub IsStatus : ℕ → Type 0
IsStatus status = (status < 6) ⊎ (status ≡ 7)
