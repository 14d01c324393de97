use Rattle.run_laws.specs.Appended.{Appended}
use Rattle.run_laws.specs.Begun.{Begun}
use Rattle.run_laws.specs.Determined.{Determined}
use Rattle.run_laws.specs.Laid.{Laid}
use Rattle.run_laws.specs.Messages.{Messages}
use Rattle.run_laws.specs.Order.{Order}
use Rattle.run_laws.specs.Records.{Records}
use Rattle.run_laws.specs.Served.{Served}
use Rattle.run_laws.specs.Waited.{Waited}
use Rattle.run_words.specs.Happened.{Always}
use Rattle.run_words.specs.History.{History, Item}
use Rattle.run_words.specs.Setup.{Setup}

-- An item is permitted by what happened before it, as each of the laws says.
pub record IsPermitted (setup : Setup) (h : History) (x : Item) : Type 0 where
  pub order : Order setup h x
  pub messages : Messages setup h x
  pub served : Served setup h x
  pub appended : Appended setup h x
  pub laid : Laid setup h x
  pub records : Records setup h x
  pub determined : Determined setup h x
  pub waited : Waited setup h x
  pub begun : Begun setup h x

-- A history is lawful: each item is permitted by what happened before it. So what happened until any moment is lawful
-- too. (This project's profile.)
abbrev pub IsLawful : Setup → History → Type 0
IsLawful setup h = Always (λ x older. IsPermitted setup older x) h
