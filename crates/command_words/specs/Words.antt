use Rattle.std.specs.Prelude.{Bool, true, false, if◌then◌else◌, ◌==◌, ◌&&◌, ◌||◌, ◌-◌, ◌^◌, nat_le, length, List, ℕ, [], ◌∷◌, map, Option, Some, None, option_and_then, option_map, bytes_eq, codes, String, string_bytes}
use Rattle.std.specs.List.{list_all}
use Rattle.std.specs.Char.{is_ascii_digit}
use Rattle.std.specs.Str.Parse.{digits_value}
use Rattle.std.specs.declared.alloc.Global.{Global}
use Rattle.command_words.specs.declared.words.Command.{Command}
use Rattle.command_words.specs.declared.words.Command.TheVariants.{Gen, Run, Zones}

-- The grammar of words.

-- What words give: which flags, and the names in their order. (This project's profile.)
pub record Sorted : Type 0 where
  pub trace : Bool
  pub json : Bool
  pub names : List (List ℕ)

-- Names with no flag. (This project's profile.)
abbrev pub only_names : List (List ℕ) → Sorted
only_names names = record { trace = false; json = false; names = names }

-- One more name, before the others. (This project's profile.)
abbrev pub with_name : List ℕ → Sorted → Sorted
with_name word s = record s { names = word ∷ s.names }

-- The flag `--trace`, which is given once. (This project's profile.)
abbrev pub with_trace : Sorted → Option Sorted
with_trace s = if s.trace then None else Some (record s { trace = true })

-- The flag `--json`, which is given once. (This project's profile.)
abbrev pub with_json : Sorted → Option Sorted
with_json s = if s.json then None else Some (record s { json = true })

-- A word that begins with `-`, and is longer. (This project's profile.)
abbrev pub is_dashed : List ℕ → Bool
is_dashed (first ∷ second ∷ rest) = first == 45
is_dashed _ = false

-- Words before the first `--` are flags or names, and no other word there is dashed; each word behind it is
-- a name. (This project's profile.)
abbrev pub sorted : List (List ℕ) → Option Sorted
sorted [] = Some (only_names [])
sorted (word ∷ words) =
    if bytes_eq word (codes "--") then Some (only_names words)
    else if bytes_eq word (codes "--trace") then option_and_then with_trace (sorted words)
    else if bytes_eq word (codes "--json") then option_and_then with_json (sorted words)
    else if is_dashed word then None
    else option_map (with_name word) (sorted words)

-- The flag `--trace` belongs to `run`, and `--json` to `zones`. (This project's profile.)
abbrev pub command_named : List ℕ → (trace json : Bool) → Option Command
command_named name trace json =
    if bytes_eq name (codes "run") then (if json then None else Some (Run trace))
    else if bytes_eq name (codes "zones") then (if trace then None else Some (Zones json))
    else None

-- A number is 1 to 20 decimal digits, leading zeros too. (This project's profile.)
abbrev pub is_number : List ℕ → Bool
is_number word = nat_le 1 (length word) && nat_le (length word) 20 && list_all is_ascii_digit word

-- What a number stands for, where that isn't more than the most. (This project's profile.)
abbrev pub number_up_to : (most : ℕ) → List ℕ → Option ℕ
number_up_to most word =
    if is_number word then (if nat_le (digits_value 10 word) most then Some (digits_value 10 word) else None) else None

-- A seed of 64 bits, and a size of at most 20,000 transactions. (This project's profile.)
abbrev pub gen_of : (seed size : List ℕ) → Option Command
gen_of seed size =
    option_and_then (λ n. option_map (λ m. Gen n m) (number_up_to 20000 size)) (number_up_to (2 ^ 64 - 1) seed)

-- `gen` has two numbers behind it, and no flag. (This project's profile.)
abbrev pub command_drawn : (name seed size : List ℕ) → (trace json : Bool) → Option Command
command_drawn name seed size trace json =
    if bytes_eq name (codes "gen") then (if trace || json then None else gen_of seed size) else None

-- A command has one name, or a name and two numbers. (This project's profile.)
abbrev pub command_with : List (List ℕ) → (trace json : Bool) → Option Command
command_with (name ∷ []) trace json = command_named name trace json
command_with (name ∷ seed ∷ size ∷ []) trace json = command_drawn name seed size trace json
command_with _ trace json = None

-- The command that flags and names are. (This project's profile.)
abbrev pub command_from : Sorted → Option Command
command_from s = command_with s.names s.trace s.json

-- The command that the words are, if they are one. (This project's profile.)
abbrev pub command_of : List (String Global) → Option Command
command_of words = option_and_then command_from (sorted (map string_bytes words))
