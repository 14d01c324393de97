use Rattle.std.proofs.Common.{◌≤◌, ◌-◌, ◌≡◌, ℕ, List, [], length}
use Rattle.std.specs.Io.KnownBytes.{prepend_known}
use Rattle.mr_shell.specs.Pieces.{HasTaken}
use Rattle.mr_shell.specs.Texts.{Report}
use Rattle.mr_shell.proofs.pieces.run_pieces.Given as goal

abbrev pub invariant-pieces : goal.invariant-pieces
invariant-pieces g l =
    record {
      ready : g.R.Runner.is_ready l.runner;
      reads : g.S.Source.faults l.initial.source ≤ g.S.Source.faults l.source;
      writes : g.K.Sink.faults l.initial.sink ≤ g.K.Sink.faults l.sink;
      bounded : l.taken ≤ 16777216;
      so_far : (report : Report) → g.R.Runner.has_run report [] l.initial.runner (g.K.Sink.written l.initial.sink) → (bytes : List ℕ) × (g.S.Source.left l.initial.source ≡ prepend_known bytes (g.S.Source.left l.source)) × (length bytes ≡ l.taken) × HasTaken (g.R.Runner.has_run report) bytes l.runner l.pending.items (g.K.Sink.written l.sink);
    }

abbrev pub decreases-pieces : goal.decreases-pieces
decreases-pieces g l = 16777217 - l.taken
