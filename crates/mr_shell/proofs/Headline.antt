-- What holds of a journal, whatever it is a run of.
use Rattle.std.proofs.Common.{List, [], ◌<◌, refl}
use Rattle.journal.specs.declared.entries.JournalEntry.{JournalEntry}
use Rattle.one_node_laws.specs.Answered.{AreAnswered}
use Rattle.one_node_laws.specs.Laws.{LawfulIsSerial, LawfulIsVisible}
use Rattle.one_node_laws.specs.Runs.{IsRun}
use Rattle.one_node_laws.specs.Serial.{IsSerial}
use Rattle.one_node_laws.specs.Visible.{IsVisible}
use Rattle.mr_shell.specs.Story.{Story, no_story}

pub serial_run : LawfulIsSerial → (journal : List JournalEntry) (story : Story) → IsRun story.run journal → IsSerial story.run journal
serial_run law journal story r = law story.run journal (r.lawful [])

pub visible_run : LawfulIsVisible → (journal : List JournalEntry) (story : Story) → IsRun story.run journal → IsVisible journal
visible_run law journal story r = law story.run journal (r.lawful [])

pub answered_run : (journal : List JournalEntry) (story : Story) → IsRun story.run journal → story.run.settings.max_offset < story.run.settings.lease → AreAnswered journal
answered_run journal story r long = r.answered long

-- no line was run
pub no_line_run : IsRun no_story.run []
no_line_run =
    record {
      lawful = λ later. tt;
      caused = λ later. tt;
      whole = record { lines = refl; made = tt };
      settled = record { answered = λ b h. absurd h; resolved = λ a c h key i q. absurd q; within = tt };
      answered = λ w b h. absurd h;
      names = tt;
    }
