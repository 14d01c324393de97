use Rattle.std.specs.Prelude.{◌≡◌, ◌≢◌, ℕ, ◌+◌, ◌<◌, ◌≤◌, ⊤, List, [], ◌∷◌, length, map, Option, Some, None, slice_index_or}
use Rattle.std.specs.List.{AllByRecursion, filter_map}
use Rattle.std.specs.List.Sorted.{IsStrictlySortedBy}
use Rattle.std.specs.Map.{keys_of}
use Rattle.std.specs.Option.{option_map}
use Rattle.std.specs.Ordering.{nat_cmp}
use Rattle.mr_base.specs.declared.ids.MsgId.{MsgId}
use Rattle.mr_base.specs.declared.messages.Message.{Message}

-- How the places, the free ones among them and the table of numbers and places stand together. No public clause
-- cites this.

-- the message at a place
abbrev pub message_at : List (Option Message) → ℕ → Option Message
message_at places place = slice_index_or places place None

-- the messages of a table, which gives a place to each number
abbrev pub messages_of : List (Option Message) → List (ℕ × ℕ) → List Message
messages_of places table = filter_map (λ e. message_at places e.1) table

-- at the place stands a message of the number
abbrev pub IsFiled : List (Option Message) → ℕ × ℕ → Type 0
IsFiled places e = option_map (λ m. m.id.0) (message_at places e.1) ≡ Some e.0

-- these places are free, and none of them is named twice
abbrev pub AreFree : List (Option Message) → List ℕ → Type 0
AreFree places [] = ⊤
AreFree places (place ∷ rest) =
    (place < length places) × (message_at places place ≡ None) × AllByRecursion (λ q. q ≢ place) rest
    × AreFree places rest

-- the numbers of the table rise, and each place is filed in it or free, and there is room to note each of them as free
pub record IsSound (places : List (Option Message)) (free : List ℕ) (room : ℕ) (table : List (ℕ × ℕ))
    : Type 0 where
  pub sorted : IsStrictlySortedBy nat_cmp (keys_of table)
  pub filed : AllByRecursion (IsFiled places) table
  pub free_places : AreFree places free
  pub counted : length table + length free ≡ length places
  pub noted : length places ≤ room

-- the numbers of a table
abbrev pub numbers_of : List (ℕ × ℕ) → List MsgId
numbers_of table = map (λ e. record { 0 = e.0 }) table
