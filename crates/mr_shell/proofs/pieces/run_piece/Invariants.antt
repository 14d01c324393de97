use Rattle.std.proofs.Common.{◌≤◌, ◌++◌, ℕ, List, take}
use Rattle.mr_shell.specs.Pieces.{HasTaken}
use Rattle.mr_shell.specs.Texts.{Report}
use Rattle.mr_shell.proofs.pieces.run_piece.Given as goal

abbrev pub invariant-loop-byte : goal.invariant-loop-byte
invariant-loop-byte g l =
    record {
      ready : g.R.Runner.is_ready l.runner;
      runs : (report : Report) (taken : List ℕ) → HasTaken (g.R.Runner.has_run report) taken l.initial.runner l.initial.pending.items (g.K.Sink.written l.initial.sink) → HasTaken (g.R.Runner.has_run report) (taken ++ take l.byte-index l.piece) l.runner l.pending.items (g.K.Sink.written l.sink);
      never_falls : g.K.Sink.faults l.initial.sink ≤ g.K.Sink.faults l.sink;
    }
