use Rattle.run_laws.specs.Appended.{Appended}
use Rattle.run_laws.specs.Begun.{Begun}
use Rattle.run_laws.specs.Laid.{Laid}
use Rattle.run_laws.specs.Order.{Order}
use Rattle.run_laws.specs.Records.{Records}
use Rattle.run_laws.specs.Served.{Served}
use Rattle.run_words.specs.Happened.{Always}
use Rattle.run_words.specs.History.{History, Item}
use Rattle.run_words.specs.Setup.{Setup}

-- The laws on which reads rest. What is said in messages, what lists come to and how long answers wait isn't among
-- them: whatever is asked, what is served is held. (This project's profile.)

-- An item is permitted by what happened before it, as these laws say.
pub record IsKeptForReads (setup : Setup) (h : History) (x : Item) : Type 0 where
  pub order : Order setup h x
  pub served : Served setup h x
  pub appended : Appended setup h x
  pub laid : Laid setup h x
  pub records : Records setup h x
  pub begun : Begun setup h x

-- Each item of a history is permitted so.
abbrev pub KeepsReads : Setup → History → Type 0
KeepsReads setup h = Always (λ x older. IsKeptForReads setup older x) h
