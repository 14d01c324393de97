-- The command of the words, by what the parse of them comes to.
use Rattle.std.proofs.Common.{◌≡◌, inl, inr, refl, true, List, [], ◌∷◌, map, Option, Some, None}
use Rattle.std.specs.Prelude.{String, option_and_then, string_bytes}
use Rattle.std.specs.declared.alloc.Global.{Global}
use Rattle.clap.specs.Faults.{fault_of, is_simple_and_free}
use Rattle.clap.specs.Kinds.{HasKind, IsAmong, Kinds}
use Rattle.clap.specs.Simple.{is_simple, matches_of}
use Rattle.clap.specs.Values.{kind_of}
use Rattle.clap.specs.declared.error.Error.{Error}
use Rattle.clap.specs.declared.error.kind.ErrorKind.{ErrorKind}
use Rattle.clap.specs.declared.error.kind.ErrorKind.TheVariants as kind
use Rattle.command_words.specs.declared.words.Command.{Command}
use Rattle.command_words.specs.Reader.{HoldSorted, reader_app}
use Rattle.command_words.specs.Words.{Sorted, command_from, command_of, sorted}
use Rattle.command_words.proofs.Outcome.{ComesTo, outcome}

-- `clap` says of the reader what it takes and why it refuses
pub reader_is_simple : is_simple reader_app ≡ true
reader_is_simple = refl

pub reader_is_free : is_simple_and_free reader_app ≡ true
reader_is_free = refl

-- a parse that passes gives the command
pub taken : (words : List (String Global)) (answer : Option Command) → fault_of reader_app (map string_bytes words) ≡ []
    → ((s : Sorted) → HoldSorted (matches_of reader_app (map string_bytes words)) s → answer ≡ command_from s) → answer ≡ command_of words
taken words answer none read = go (sorted (map string_bytes words)) (outcome words)
  where
    go : (o : Option Sorted) → ComesTo (map string_bytes words) o → answer ≡ option_and_then command_from o
    go None comes = absurd (comes none)
    go (Some s) comes = read s comes.1

among_some : (k : ErrorKind) (kinds : Kinds) → IsAmong k kinds → kinds ≡ [] → ⊥
among_some k [] among none = among
among_some k (x ∷ xs) among none = cc

-- a parse that fails while there is memory has no command
pub refused : (words : List (String Global)) (e : Error) → HasKind (fault_of reader_app (map string_bytes words)) e → (kind_of e ≡ kind.OutOfMemory → ⊥)
    → None ≡ command_of words
refused words e has memory = go (sorted (map string_bytes words)) (outcome words)
  where
    go : (o : Option Sorted) → ComesTo (map string_bytes words) o → None ≡ option_and_then command_from o
    go None comes = refl
    go (Some s) comes = elim has [
      | inl out ↦ absurd (memory out)
      | inr among ↦ absurd (among_some (kind_of e) _ among comes.0)
    ]
