use Rattle.std.specs.Prelude.{◌≡◌, ◌↔◌}
use Rattle.std.specs.List.{Contains}
use Rattle.mr_base.specs.declared.ids.AttemptId.{AttemptId}
use Rattle.range_log.specs.declared.entries.Entry.TheVariants as log
use Rattle.run_words.specs.History.{History}
use Rattle.run_words.specs.Logs.{log_of}
use Rattle.run_words.specs.Puts.{PutMade, puts}
use Rattle.run_words.specs.Relations.{WasServed, WasPut}
use Rattle.run_words.specs.Serving.{ServedRead, serves}
use Rattle.run_words.specs.Setup.{Setup}

-- How the words that look at one attempt and those that look at all go together.

-- What was served to an attempt is what was served in its name.
abbrev pub ServesAreServed : Type 0
ServesAreServed =
    (setup : Setup) (h : History) (a : AttemptId) (s : ServedRead)
    → Contains (serves setup h a) s ↔ (WasServed setup s h × (s.read.attempt ≡ a))

-- The puts of an attempt are those that were made in its name.
abbrev pub PutsArePut : Type 0
PutsArePut = (h : History) (a : AttemptId) (p : PutMade) → Contains (puts h a) p ↔ WasPut a p h

-- A put that was made stands in the log of its range.
abbrev pub PutsStandInLogs : Type 0
PutsStandInLogs =
    (setup : Setup) (h : History) (a : AttemptId) (p : PutMade) → WasPut a p h
    → Contains (log_of setup h p.range) (log.Put a p.start p.anchor p.ts p.key p.value)
