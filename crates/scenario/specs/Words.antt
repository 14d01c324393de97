-- Words of a line and what they stand for. A line is its name and then parts, each behind one blank. (This
-- project's profile.)
use Rattle.std.specs.Prelude.{◌≡◌, ◌-◌, ◌+◌, ◌*◌, ℕ, Bool, not, ◌&&◌, ◌||◌, ◌==◌, nat_le, min, if◌then◌else◌, List, [], ◌∷◌, length, take, drop, slice_index, fold, bytes_eq, codes, Option, Some, None, Result, Ok, Err}
use Rattle.std.specs.List.{list_all, prefix_len}
use Rattle.std.specs.Char.{is_ascii_digit}
use Rattle.mr_base.specs.declared.ids.MsgId.{MsgId}
use Rattle.mr_base.specs.declared.ids.NodeId.{NodeId}
use Rattle.mr_base.specs.declared.ids.RangeId.{RangeId}
use Rattle.scenario.specs.declared.lines.LineFault.{LineFault}
use Rattle.scenario.specs.declared.lines.LineFault.TheVariants as faults

infixl 10 ◌>>=◌
abbrev pub ◌>>=◌ : {A B : Type 0} → Option A → (A → Option B) → Option B
(Some x) >>= f = f x
None >>= f = None

-- What a reader answered, seen by view, is what the grammar gives. Where it gives nothing the fault is S2,
-- and want of memory may come anywhere.
abbrev pub Gives : {X Y : Type 0} → (X → Y) → Result X LineFault → Option Y → Type 0
Gives view (Ok x) read = read ≡ Some (view x)
Gives view (Err (faults.S k)) read = (k ≡ 2) × (read ≡ None)
Gives view (Err faults.Memory) read = Unit {0}

abbrev pub is_inside_word : ℕ → Bool
is_inside_word b = not (b == 32)

-- How many bytes stand before the first blank.
abbrev pub word_len : List ℕ → ℕ
word_len text = prefix_len is_inside_word text

-- The bytes before the first blank, and what follows them.
abbrev pub first_word : List ℕ → List ℕ
first_word text = take (word_len text) text

abbrev pub after_word : List ℕ → List ℕ
after_word text = drop (word_len text) text

-- All that follows the one blank.
abbrev pub text_at : List ℕ → Option (List ℕ)
text_at [] = None
text_at (b ∷ text) = if b == 32 then Some text else None

-- The word behind the one blank, and what follows it.
unfoldable pub word_at : List ℕ → Option (List ℕ × List ℕ)
word_at rest = do
  text ← text_at rest
  Some (first_word text, after_word text)

-- The line ends here.
abbrev pub whole : {A : Type 0} → List ℕ → A → Option A
whole [] x = Some x
whole (b ∷ rest) x = None

-- What digits stand for, the first the most significant.
abbrev pub value_of : List ℕ → ℕ
value_of digits = fold (λ n d. 10 * n + (d - 48)) 0 digits

-- A number is 1 to 16 decimal digits without leading zeros.
unfoldable pub is_number : List ℕ → Bool
is_number word = nat_le 1 (length word) && nat_le (length word) 16 && list_all is_ascii_digit word
    && (length word == 1 || not (slice_index word 0 == 48))

unfoldable pub number_in : List ℕ → Option ℕ
number_in word = if is_number word then Some (value_of word) else None

unfoldable pub number_at : List ℕ → Option (ℕ × List ℕ)
number_at rest = do
  word ← word_at rest
  n ← number_in word.0
  Some (n, word.1)

-- A letter and, right behind it, a number.
abbrev pub lettered_in : ℕ → List ℕ → Option ℕ
lettered_in letter [] = None
lettered_in letter (b ∷ digits) = if b == letter then number_in digits else None

unfoldable pub lettered_at : ℕ → List ℕ → Option (ℕ × List ℕ)
lettered_at letter rest = do
  word ← word_at rest
  n ← lettered_in letter word.0
  Some (n, word.1)

-- No node and no range has the greatest u32 as its number. It stands for all that are above it.
abbrev pub no_id : ℕ
no_id = 4294967295

abbrev pub node_of : ℕ → NodeId
node_of n = record { 0 = min n no_id }

abbrev pub range_of : ℕ → RangeId
range_of n = record { 0 = min n no_id }

-- n1, n2, ..
unfoldable pub node_at : List ℕ → Option (NodeId × List ℕ)
node_at rest = do
  n ← lettered_at 110 rest
  Some (node_of n.0, n.1)

-- r1, r2, ..
unfoldable pub range_at : List ℕ → Option (RangeId × List ℕ)
range_at rest = do
  n ← lettered_at 114 rest
  Some (range_of n.0, n.1)

-- m1, m2, ..
unfoldable pub message_at : List ℕ → Option (MsgId × List ℕ)
message_at rest = do
  n ← lettered_at 109 rest
  Some (record { 0 = n.0 }, n.1)

abbrev pub is_letter : ℕ → Bool
is_letter b = nat_le 97 b && nat_le b 122

-- A name has 1 to 32 characters of a-z, 0-9 and one sign more, and begins with a letter.
abbrev pub is_name_byte : ℕ → ℕ → Bool
is_name_byte sign b = is_letter b || is_ascii_digit b || b == sign

unfoldable pub is_name : ℕ → List ℕ → Bool
is_name sign word = is_letter (slice_index word 0) && nat_le (length word) 32 && list_all (is_name_byte sign) word

unfoldable pub name_at : ℕ → List ℕ → Option (List ℕ × List ℕ)
name_at sign rest = do
  word ← word_at rest
  if is_name sign word.0 then Some word else None

-- Regions and zones have names with -, transactions have names with _
abbrev pub place_at : List ℕ → Option (List ℕ × List ℕ)
place_at rest = name_at 45 rest

abbrev pub txn_name_at : List ℕ → Option (List ℕ × List ℕ)
txn_name_at rest = name_at 95 rest

-- One of the ids or the word `all`.
unfoldable pub or_all_at : {A : Type 0} → (List ℕ → Option (A × List ℕ)) → List ℕ → Option (Option A × List ℕ)
or_all_at one_at rest = do
  word ← word_at rest
  if bytes_eq word.0 (codes "all") then Some (None, word.1) else one_at rest >>= λ x. Some (Some x.0, x.1)
