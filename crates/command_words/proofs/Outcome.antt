-- What a parse comes to, beside the grammar.
use Rattle.std.proofs.Common.{◌≡◌, ◌∙◌, ◌++◌, ◌||◌, ap, cond, refl, subst, sym, true, false, Bool, List, [], ◌∷◌, map, Option, Some, None, codes, is_some}
use Rattle.std.specs.Prelude.{String, if◌then◌else◌, option_and_then, string_bytes, unwrap_or}
use Rattle.std.specs.List.{fold}
use Rattle.std.specs.Str.{bytes_eq}
use Rattle.std.specs.declared.alloc.Global.{Global}
use Rattle.clap.specs.Faults.{check_fault, defaults_fault, entered_fault, fault_of, settle_fault}
use Rattle.clap.specs.Kinds.{Kinds, or_else}
use Rattle.clap.specs.Simple.{built, entered, matches_of}
use Rattle.clap.specs.Values.{bool_text}
use Rattle.clap.specs.Walk.{Row, Text, Walk, finished, has_row, one_of, row_text, settled, with_values}
use Rattle.clap.specs.declared.builder.value_parser.Reading.TheVariants.{AsWritten}
use Rattle.clap.specs.declared.parser.matches.ValueSource.TheVariants.{DefaultValue}
use Rattle.command_words.specs.Reader.{HoldSorted, reader_app}
use Rattle.command_words.specs.Words.{Sorted, sorted}
use Rattle.command_words.proofs.AllWords.{Comes, faults_from, reads, walk_on}
use Rattle.command_words.proofs.Holding.{Holds, flag_row, has_flag, holds_held, holds_nothing, values_in}
use Rattle.command_words.proofs.Joined.{joined-start}
use Rattle.command_words.proofs.Reader.{held_names, reader_rules, reader_shape, standing, with_held}
use Rattle.command_words.proofs.RowLemmas.{row_named, row_named-other, row_named-used, used_row}

-- what may fail once the words are read
abbrev later_fault : Walk → Kinds
later_fault end = or_else (entered_fault (built reader_app) end.stopped) (or_else (settle_fault reader_rules false end.held)
    (or_else (defaults_fault (settled reader_rules end.held).rows reader_rules)
    (check_fault reader_shape (finished reader_rules end.held) (is_some (entered (built reader_app) end.stopped)))))

either_way : {X : Type 0} (b : Bool) (x : X) → cond b x x ≡ x
either_way true x = refl
either_way false x = refl

-- the rows with the default of a flag
abbrev defaulted : Text → List Row → List Row
defaulted id rows = if has_row id rows then rows else with_values id AsWritten DefaultValue (codes "false" ∷ []) rows

-- a default passes
default_passes : (a b c : Bool) → or_else (cond (a || false) [] []) (or_else (cond (b || false) [] []) (or_else (cond (c || true) [] []) [])) ≡ []
default_passes true true true = refl
default_passes true true false = refl
default_passes true false true = refl
default_passes true false false = refl
default_passes false true true = refl
default_passes false true false = refl
default_passes false false true = refl
default_passes false false false = refl

defaults_pass : (rows : List Row) → defaults_fault rows reader_rules ≡ []
unfolding defaults_fault
defaults_pass rows =
    default_passes (has_row (codes "trace") rows) (has_row (codes "json") (defaulted (codes "trace") rows))
    (has_row (codes "names") (defaulted (codes "json") (defaulted (codes "trace") rows)))

-- nothing does
nothing_later : (trailing behind : Bool) (rows : List Row) (name : Option Text) → later_fault (standing trailing behind rows name) ≡ []
nothing_later trailing behind rows None = ap (λ k. or_else k []) (defaults_pass rows)
nothing_later trailing behind rows (Some word) = ap (λ k. or_else k []) (defaults_pass (with_held (Some word) rows))

-- ---- the rows at the end

defaulted_own : (id : Text) (rows : List Row) (b : Bool) → row_named id rows ≡ flag_row id b → one_of id (defaulted id rows) ≡ Some (bool_text b)
defaulted_own id rows true h =
    ap (λ given. one_of id (cond given rows (with_values id AsWritten DefaultValue (codes "false" ∷ []) rows))) (has_flag id rows true h) ∙ ap (option_and_then row_text) h
defaulted_own id rows false h =
    ap (λ given. one_of id (cond given rows (with_values id AsWritten DefaultValue (codes "false" ∷ []) rows))) (has_flag id rows false h)
    ∙ (ap (option_and_then row_text) (row_named-used id AsWritten DefaultValue (codes "false" ∷ []) rows)
    ∙ ap (λ o. row_text (used_row id AsWritten DefaultValue (codes "false" ∷ []) o)) h)

defaulted_other : (id other : Text) (rows : List Row) → bytes_eq id other ≡ false → row_named other (defaulted id rows) ≡ row_named other rows
defaulted_other id other rows apart = go (has_row id rows)
  where
    go : (b : Bool) → row_named other (cond b rows (with_values id AsWritten DefaultValue (codes "false" ∷ []) rows)) ≡ row_named other rows
    go true = refl
    go false = row_named-other other id AsWritten DefaultValue (codes "false" ∷ []) rows apart

finished-rows : (trailing behind : Bool) (rows : List Row) (name : Option Text)
    → finished reader_rules (standing trailing behind rows name).held ≡ defaulted (codes "json") (defaulted (codes "trace") (with_held name rows))
finished-rows trailing behind rows None = either_way _ _
finished-rows trailing behind rows (Some word) = either_way _ _

names_of : (o : Option Row) → unwrap_or (Rattle.std.specs.Option.option_map (λ (r : Row). r.values) o) [] ≡ values_in o
names_of None = refl
names_of (Some r) = refl

holds_sorted : (trailing behind : Bool) (rows : List Row) (name : Option Text) (names : List Text) (s : Sorted) → Holds rows s.trace s.json names
    → names ++ held_names name ≡ s.names → HoldSorted (finished reader_rules (standing trailing behind rows name).held) s
holds_sorted trailing behind rows name names s h all =
    let now = with_held name rows in
    let held = holds_held name rows s.trace s.json names h in
    let traced = defaulted (codes "trace") now in
    subst (λ rs. HoldSorted rs s) (sym (finished-rows trailing behind rows name)) (record {
      trace = ap (option_and_then row_text) (defaulted_other (codes "json") (codes "trace") traced refl) ∙ defaulted_own (codes "trace") now s.trace held.trace_row;
      json = defaulted_own (codes "json") traced s.json (defaulted_other (codes "trace") (codes "json") now refl ∙ held.json_row);
      names = names_of (row_named (codes "names") (defaulted (codes "json") traced))
          ∙ (ap values_in (defaulted_other (codes "json") (codes "names") traced refl ∙ defaulted_other (codes "trace") (codes "names") now refl)
          ∙ (held.name_row ∙ all));
    })

-- ---- the whole

-- a parse is refused where the grammar gives nothing, and else holds what it gives
abbrev pub ComesTo : List Text → Option Sorted → Type 0
ComesTo words None = fault_of reader_app words ≡ [] → ⊥
ComesTo words (Some s) = (fault_of reader_app words ≡ []) × HoldSorted (matches_of reader_app words) s

comes_to : (words : List Text) (o : Option Sorted) → Comes (faults_from (standing false false [] None) words) (walk_on (standing false false [] None) words) o → ComesTo words o
comes_to words None comes = go (faults_from (standing false false [] None) words) comes
  where
    go : (a : Kinds) → (a ≡ [] → ⊥) → or_else a (later_fault (walk_on (standing false false [] None) words)) ≡ [] → ⊥
    go [] comes e = comes refl
    go (k ∷ ks) comes e = cc
comes_to words (Some s) comes =
    let end = comes.1 in (
      ap (λ k. or_else k (later_fault (walk_on (standing false false [] None) words))) comes.0
          ∙ (ap later_fault end.is ∙ nothing_later end.is_trailing end.is_behind end.rows end.name),
      subst (λ (w : Walk). HoldSorted (finished reader_rules w.held) s) (sym end.is)
          (holds_sorted end.is_trailing end.is_behind end.rows end.name end.names s end.holds end.all),
    )

pub outcome : (words : List (String Global)) → ComesTo (map string_bytes words) (sorted (map string_bytes words))
outcome words =
    comes_to (map string_bytes words) (sorted (map string_bytes words))
    (subst (Comes (faults_from (standing false false [] None) (map string_bytes words)) (walk_on (standing false false [] None) (map string_bytes words)))
    (joined-start (sorted (map string_bytes words))) (reads words false [] None false false [] holds_nothing))
