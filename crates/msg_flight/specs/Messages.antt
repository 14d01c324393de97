use Rattle.std.specs.Prelude.{ℕ, ◌==◌, ◌<◌, Bool, List, [], ◌∷◌, Option, Some, None, IsTrue, nat_lt}
use Rattle.std.specs.List.{list_any}
use Rattle.mr_base.specs.declared.ids.MsgId.{MsgId}
use Rattle.mr_base.specs.declared.messages.Message.{Message}

-- Whether a message has this number.
abbrev pub has_number : MsgId → Message → Bool
has_number m message = message.id.0 == m.0

-- Whether a message has a number above this one.
abbrev pub follows : MsgId → Message → Bool
follows m message = nat_lt m.0 message.id.0

-- A message of this number is among them.
abbrev pub IsInFlight : MsgId → List Message → Type 0
IsInFlight m messages = IsTrue (list_any (has_number m) messages)

-- A message's number is below this one.
abbrev pub HasNumberBelow : MsgId → Message → Type 0
HasNumberBelow m message = message.id.0 < m.0

-- A message's number is below another's.
abbrev pub Precedes : Message → Message → Type 0
Precedes a b = a.id.0 < b.id.0

-- The number of the first, if there is one.
abbrev pub first_number : List Message → Option MsgId
first_number [] = None
first_number (message ∷ later) = Some message.id
