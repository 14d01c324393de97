-- The walk of the reader between two words, and what its rows hold.
use Rattle.std.proofs.Common.{true, false, Bool, List, [], ◌∷◌, Option, Some, None, codes}
use Rattle.clap.specs.Words.{Row, Rule, Text}
use Rattle.clap.specs.Simple.{Shape, built}
use Rattle.clap.specs.Walk.{Walk, Waiting, idle, positional, with_values, without}
use Rattle.clap.specs.declared.builder.value_parser.Reading.TheVariants.{AsWritten}
use Rattle.clap.specs.declared.parser.matches.ValueSource.TheVariants.{CommandLine}
use Rattle.command_words.specs.Reader.{reader_app}

abbrev pub reader_shape : Shape
reader_shape = (built reader_app).top

abbrev pub reader_rules : List Rule
reader_rules = reader_shape.rules

-- a name that is held until the next word
abbrev pub held_name : Option Text → Option (Text × List Text)
held_name None = None
held_name (Some word) = Some (codes "names", word ∷ [])

abbrev pub held_names : Option Text → List Text
held_names None = []
held_names (Some word) = word ∷ []

-- behind a name or not
abbrev pub waiting_at : Bool → Waiting
waiting_at true = positional
waiting_at false = idle

-- the walk stands so between two words
abbrev pub standing : Bool → Bool → List Row → Option Text → Walk
standing trailing behind rows name = record {
  held = record { rows = rows; pending = held_name name; skip = 0 };
  waiting = waiting_at behind;
  position = 1;
  is_trailing = trailing;
  stopped = None;
}

-- the rows after a name, and after a flag
abbrev pub with_name_row : Text → List Row → List Row
with_name_row word rows = with_values (codes "names") AsWritten CommandLine (word ∷ []) rows

abbrev pub with_flag_row : Text → List Row → List Row
with_flag_row id rows = with_values id AsWritten CommandLine (codes "true" ∷ []) (without id rows)

-- the rows with the name that is held
abbrev pub with_held : Option Text → List Row → List Row
with_held None rows = rows
with_held (Some word) rows = with_name_row word rows
