use Rattle.std.proofs.Common.{◌≤◌, take}
use Rattle.mr_shell.specs.Texts.{Wrote, texts}
use Rattle.mr_shell.proofs.report.write_entries.Given as goal

abbrev pub invariant-loop-entry : goal.invariant-loop-entry
invariant-loop-entry g l =
    record {
      written : Wrote (g.K.Sink.written l.initial.sink) (g.K.Sink.written l.sink) (texts l.mode l.names (take l.entry-index l.entries));
      never_falls : g.K.Sink.faults l.initial.sink ≤ g.K.Sink.faults l.sink;
    }
