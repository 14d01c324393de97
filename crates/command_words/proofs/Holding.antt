-- What flags and names the rows of a walk hold.
use Rattle.std.proofs.Common.{◌≡◌, ◌∙◌, ◌++◌, ap, append-nil, refl, subst, sym, true, false, Bool, List, [], ◌∷◌, Option, Some, None, codes, is_some}
use Rattle.std.specs.Str.{bytes_eq}
use Rattle.clap.specs.Walk.{Row, Text, has_row, with_values}
use Rattle.clap.specs.declared.builder.value_parser.Reading.TheVariants.{AsWritten}
use Rattle.clap.specs.declared.parser.matches.ValueSource.TheVariants.{CommandLine}
use Rattle.command_words.proofs.Reader.{held_names, with_flag_row, with_held, with_name_row}
use Rattle.command_words.proofs.RowLemmas.{has_row-named, row_named, row_named-other, row_named-used, used_row, without-absent}

-- the row of a flag that was given or not
abbrev pub flag_row : Text → Bool → Option Row
flag_row id true = Some (used_row id AsWritten CommandLine (codes "true" ∷ []) None)
flag_row id false = None

abbrev pub values_in : Option Row → List Text
values_in None = []
values_in (Some r) = r.values

pub record Holds (rows : List Row) (trace json : Bool) (names : List Text) : Type 0 where
  pub trace_row : row_named (codes "trace") rows ≡ flag_row (codes "trace") trace
  pub json_row : row_named (codes "json") rows ≡ flag_row (codes "json") json
  pub name_row : values_in (row_named (codes "names") rows) ≡ names

pub holds_nothing : Holds [] false false []
holds_nothing = record { trace_row = refl; json_row = refl; name_row = refl }

-- a name is one name more
pub holds_name : (word : Text) (rows : List Row) (trace json : Bool) (names : List Text) → Holds rows trace json names
    → Holds (with_name_row word rows) trace json (names ++ word ∷ [])
holds_name word rows trace json names h = record {
  trace_row = row_named-other (codes "trace") (codes "names") AsWritten CommandLine (word ∷ []) rows refl ∙ h.trace_row;
  json_row = row_named-other (codes "json") (codes "names") AsWritten CommandLine (word ∷ []) rows refl ∙ h.json_row;
  name_row = ap values_in (row_named-used (codes "names") AsWritten CommandLine (word ∷ []) rows)
      ∙ (more (row_named (codes "names") rows) ∙ ap (λ l. l ++ word ∷ []) h.name_row);
}
  where
    more : (o : Option Row) → values_in (Some (used_row (codes "names") AsWritten CommandLine (word ∷ []) o)) ≡ values_in o ++ word ∷ []
    more None = refl
    more (Some r) = refl

-- and so is a name that is held
pub holds_held : (name : Option Text) (rows : List Row) (trace json : Bool) (names : List Text) → Holds rows trace json names
    → Holds (with_held name rows) trace json (names ++ held_names name)
holds_held None rows trace json names h = subst (Holds rows trace json) (sym (append-nil names)) h
holds_held (Some word) rows trace json names h = holds_name word rows trace json names h

used_flag : (id : Text) (rows : List Row) → row_named id rows ≡ None → with_flag_row id rows ≡ with_values id AsWritten CommandLine (codes "true" ∷ []) rows
used_flag id rows none = ap (with_values id AsWritten CommandLine (codes "true" ∷ [])) (without-absent id rows none)

flag_given : (id : Text) (rows : List Row) → row_named id rows ≡ None → row_named id (with_flag_row id rows) ≡ flag_row id true
flag_given id rows none =
    ap (row_named id) (used_flag id rows none)
    ∙ (row_named-used id AsWritten CommandLine (codes "true" ∷ []) rows ∙ ap (λ o. Some (used_row id AsWritten CommandLine (codes "true" ∷ []) o)) none)

other_given : (id other : Text) (rows : List Row) → bytes_eq id other ≡ false → row_named id rows ≡ None → row_named other (with_flag_row id rows) ≡ row_named other rows
other_given id other rows apart none =
    ap (row_named other) (used_flag id rows none) ∙ row_named-other other id AsWritten CommandLine (codes "true" ∷ []) rows apart

pub holds_trace : (rows : List Row) (json : Bool) (names : List Text) → Holds rows false json names → Holds (with_flag_row (codes "trace") rows) true json names
holds_trace rows json names h = record {
  trace_row = flag_given (codes "trace") rows h.trace_row;
  json_row = other_given (codes "trace") (codes "json") rows refl h.trace_row ∙ h.json_row;
  name_row = ap values_in (other_given (codes "trace") (codes "names") rows refl h.trace_row) ∙ h.name_row;
}

pub holds_json : (rows : List Row) (trace : Bool) (names : List Text) → Holds rows trace false names → Holds (with_flag_row (codes "json") rows) trace true names
holds_json rows trace names h = record {
  trace_row = other_given (codes "json") (codes "trace") rows refl h.json_row ∙ h.trace_row;
  json_row = flag_given (codes "json") rows h.json_row;
  name_row = ap values_in (other_given (codes "json") (codes "names") rows refl h.json_row) ∙ h.name_row;
}

given_flag : (id : Text) (b : Bool) → is_some (flag_row id b) ≡ b
given_flag id true = refl
given_flag id false = refl

-- a flag has a row where it was given
pub has_flag : (id : Text) (rows : List Row) (b : Bool) → row_named id rows ≡ flag_row id b → has_row id rows ≡ b
has_flag id rows b h = has_row-named id rows ∙ (ap is_some h ∙ given_flag id b)
