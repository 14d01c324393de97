use Rattle.std.specs.Prelude.{◌≡◌, true, List, [], Some, unwrap_or, codes}
use Rattle.clap.specs.Words.{App, Row, Rule, Text, all_of, new_app, new_rule, one_of, with_rule}
use Rattle.clap.specs.Simple.{on_top}
use Rattle.clap.specs.Values.{bool_text}
use Rattle.clap.specs.declared.builder.ArgAction.TheVariants.{Append, SetTrue}
use Rattle.command_words.specs.Words.{Sorted}

-- What reads the words, as `clap` sees it.

-- A flag that may be given once.
abbrev pub flag_rule : Text → Rule
flag_rule name = record (new_rule name) { long = Some name; action = Some SetTrue }

-- Names, in any number.
abbrev pub names_rule : Rule
names_rule = record (new_rule (codes "names")) { action = Some Append }

-- A command with no help and no version, whose words begin behind the program's name.
abbrev pub bare_app : App
bare_app = on_top (λ s. record s {
  no_binary_name = true;
  disable_help_flag = true;
  disable_version_flag = true;
}) (new_app (codes "mr"))

-- That command with two flags, and names.
abbrev pub reader_app : App
reader_app =
    with_rule (with_rule (with_rule bare_app (flag_rule (codes "trace"))) (flag_rule (codes "json")))
    names_rule

-- The rows of a parse say this of flags and names.
pub record HoldSorted (rows : List Row) (s : Sorted) : Type 0 where
  pub trace : one_of (codes "trace") rows ≡ Some (bool_text s.trace)
  pub json : one_of (codes "json") rows ≡ Some (bool_text s.json)
  pub names : unwrap_or (all_of (codes "names") rows) [] ≡ s.names
