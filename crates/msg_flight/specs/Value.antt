use Rattle.std.specs.Prelude.{ℕ, List}
use Rattle.mr_base.specs.declared.messages.Message.{Message}

-- What contracts see of the messages in flight: the messages by their numbers, and how many places were made for
-- messages.
pub record FlightValue : Type 0 where
  pub messages : List Message
  pub places : ℕ
