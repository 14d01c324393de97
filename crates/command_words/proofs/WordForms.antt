-- Words that are dashed and words that are not, as `clap` looks at them.
use Rattle.std.proofs.Common.{◌≡◌, ◌==◌, refl, true, false, Bool, [], ◌∷◌, None, codes}
use Rattle.std.specs.Str.{bytes_eq}
use Rattle.clap.specs.Lexer.{long_of, short_of}
use Rattle.clap.specs.Walk.{Text}
use Rattle.command_words.specs.Words.{is_dashed}

-- the word is no `--`, and has the form of no flag
pub record IsPlain (word : Text) : Type 0 where
  pub end : bytes_eq word (codes "--") ≡ false
  pub long : long_of word ≡ None
  pub short : short_of word ≡ None

-- a word that is not dashed has no such form
pub plain_word : (word : Text) → is_dashed word ≡ false → IsPlain word
plain_word [] e = record { end = refl; long = refl; short = refl }
plain_word (x ∷ []) e = go (x == 45) refl
  where
    go : (b : Bool) → (x == 45) ≡ b → IsPlain (x ∷ [])
    go true is = record { end = rw is refl; long = rw is refl; short = rw is refl }
    go false is = record { end = rw is refl; long = rw is refl; short = rw is refl }
plain_word (x ∷ y ∷ rest) e = record { end = rw e refl; long = rw e refl; short = rw e refl }
