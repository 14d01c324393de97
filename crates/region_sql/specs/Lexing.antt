-- Which tokens a text splits into: from the left, at each place the longest that fits.
-- Source: this project's profile of the SQL of CockroachDB's documentation.
use Rattle.std.specs.Prelude.{◌≡◌, ℕ, ◌+◌, ◌-◌, ◌*◌, ◌==◌, Bool, true, false, not, ◌&&◌, ◌||◌, List, [], ◌∷◌, length, take, drop, map, min, fold, codes, Option, Some, None, if◌then◌else◌, pos, neg_ℤ, option_map, bytes_eq, ℤ}
use Rattle.std.specs.List.{prefix_len}
use Rattle.std.specs.Map.{lookup}
use Rattle.std.specs.Char.{is_ascii_alphabetic, is_ascii_alphanumeric, is_ascii_digit, to_ascii_lowercase}
use Rattle.std.specs.Str.{is_utf8}
use Rattle.region_sql.specs.declared.byte_classes.ByteClass.{ByteClass}
use Rattle.region_sql.specs.declared.byte_classes.ByteClass.TheVariants as classes
use Rattle.region_sql.specs.declared.region_statements.ColumnType.{ColumnType}
use Rattle.region_sql.specs.declared.region_statements.ColumnType.TheVariants as types
use Rattle.region_sql.specs.declared.row_statements.Comparison.TheVariants as comparisons
use Rattle.region_sql.specs.declared.tokens.Key.{Key}
use Rattle.region_sql.specs.declared.tokens.Key.TheVariants as key
use Rattle.region_sql.specs.declared.tokens.Soft.{Soft}
use Rattle.region_sql.specs.declared.tokens.Soft.TheVariants as soft
use Rattle.region_sql.specs.declared.tokens.Sign.TheVariants as sign
use Rattle.region_sql.specs.declared.tokens.Token.{Token}
use Rattle.region_sql.specs.declared.tokens.Token.TheVariants as token

-- ---- bytes

-- A space or a tab.
abbrev pub is_blank : ℕ → Bool
is_blank b = b == 32 || b == 9

-- A letter or _
abbrev pub is_word_start : ℕ → Bool
is_word_start b = is_ascii_alphabetic b || b == 95

-- A letter, a digit or _
abbrev pub is_word_byte : ℕ → Bool
is_word_byte b = is_ascii_alphanumeric b || b == 95

-- Anything but "
abbrev pub is_in_quotes : ℕ → Bool
is_in_quotes b = not (b == 34)

abbrev pub is_in_class : ByteClass → ℕ → Bool
is_in_class classes.Blank b = is_blank b
is_in_class classes.Word b = is_word_byte b
is_in_class classes.Digit b = is_ascii_digit b
is_in_class classes.Quoted b = is_in_quotes b

unfoldable pub after_blanks : List ℕ → List ℕ
after_blanks bytes = drop (prefix_len is_blank bytes) bytes

abbrev pub starts_with : (ℕ → Bool) → List ℕ → Bool
starts_with p [] = false
starts_with p (b ∷ bytes) = p b

-- ---- words

-- The words that are key words wherever they stand.
abbrev pub key_words : List (List ℕ × Key)
key_words =
    (codes "add", key.Add)
    ∷ (codes "alter", key.Alter)
    ∷ (codes "and", key.And)
    ∷ (codes "by", key.By)
    ∷ (codes "create", key.Create)
    ∷ (codes "database", key.Database)
    ∷ (codes "delete", key.Delete)
    ∷ (codes "drop", key.Drop)
    ∷ (codes "failure", key.Failure)
    ∷ (codes "from", key.From)
    ∷ (codes "global", key.Global)
    ∷ (codes "in", key.In)
    ∷ (codes "insert", key.Insert)
    ∷ (codes "into", key.Into)
    ∷ (codes "key", key.Key)
    ∷ (codes "locality", key.Locality)
    ∷ (codes "not", key.Not)
    ∷ (codes "null", key.Null)
    ∷ (codes "primary", key.Primary)
    ∷ (codes "region", key.Region)
    ∷ (codes "regional", key.Regional)
    ∷ (codes "regions", key.Regions)
    ∷ (codes "row", key.Row)
    ∷ (codes "select", key.Select)
    ∷ (codes "set", key.Set)
    ∷ (codes "survive", key.Survive)
    ∷ (codes "table", key.Table)
    ∷ (codes "unique", key.Unique)
    ∷ (codes "update", key.Update)
    ∷ (codes "use", key.Use)
    ∷ (codes "values", key.Values)
    ∷ (codes "where", key.Where)
    ∷ (codes "zone", key.Zone)
    ∷ []

-- The words for the types of columns.
abbrev pub type_words : List (List ℕ × ColumnType)
type_words =
    (codes "int", types.Int)
    ∷ (codes "int8", types.Int)
    ∷ (codes "bigint", types.Int)
    ∷ (codes "string", types.String)
    ∷ (codes "text", types.String)
    ∷ (codes "bool", types.Bool)
    ∷ []

unfoldable pub key_of : List ℕ → Option Key
key_of w = lookup (bytes_eq w) key_words

unfoldable pub type_of : List ℕ → Option ColumnType
type_of w = lookup (bytes_eq w) type_words

unfoldable pub bool_of : List ℕ → Option Bool
bool_of w = lookup (bytes_eq w) ((codes "true", true) ∷ (codes "false", false) ∷ [])

unfoldable pub soft_of : List ℕ → Option Soft
soft_of w = lookup (bytes_eq w) ((codes "default", soft.Default) ∷ (codes "placement", soft.Placement) ∷ (codes "restricted", soft.Restricted) ∷ [])

-- `count` is a key word where the next token is `(`.
unfoldable pub count_or_name : List ℕ → List ℕ → Token
count_or_name w rest = if bytes_eq w (codes "count") && starts_with (λ b. b == 40) (after_blanks rest) then token.Key key.Count else token.Name w

abbrev pub else_take : Option Token → Token → Token
else_take (Some t) other = t
else_take None other = other

-- The token of a word in lower case, before what follows it.
unfoldable pub word_token : List ℕ → List ℕ → Token
word_token w rest = else_take (option_map (λ k. token.Key k) (key_of w)) (else_take (option_map (λ t. token.Type t) (type_of w))
    (else_take (option_map (λ b. token.Bool b) (bool_of w)) (else_take (option_map (λ s. token.Soft s) (soft_of w)) (count_or_name w rest))))

-- A word is as long as it can be, and is compared in lower case.
unfoldable pub word_at : List ℕ → Token × List ℕ
word_at bytes = (word_token (map to_ascii_lowercase (take (prefix_len is_word_byte bytes) bytes)) (drop (prefix_len is_word_byte bytes) bytes), drop (prefix_len is_word_byte bytes) bytes)

-- ---- integers

-- What digits stand for, the first the most significant.
abbrev pub number_of : List ℕ → ℕ
number_of digits = fold (λ n d. 10 * n + (d - 48)) 0 digits

-- How many digits the integer at the front has: all that there are, but at most 30.
abbrev pub digit_count : List ℕ → ℕ
digit_count bytes = min 30 (prefix_len is_ascii_digit bytes)

unfoldable pub digits_at : List ℕ → ℤ × List ℕ
digits_at bytes = (pos (number_of (take (digit_count bytes) bytes)), drop (digit_count bytes) bytes)

-- ---- quoted names and texts

-- The bytes after the first ": one or more up to the next.
unfoldable pub quoted_at : List ℕ → Option (Token × List ℕ)
quoted_at bytes = let n = prefix_len is_in_quotes bytes in
    if n == 0 || n == length bytes || not (is_utf8 (take n bytes)) then None else Some (token.Name (take n bytes), drop (n + 1) bytes)

abbrev pub with_byte : ℕ → Option (List ℕ × List ℕ) → Option (List ℕ × List ℕ)
with_byte b None = None
with_byte b (Some x) = Some (b ∷ x.0, x.1)

-- The bytes after the first ', up to one that isn't doubled, and what follows it.
unfoldable pub unquoted_at : List ℕ → Option (List ℕ × List ℕ)
unquoted_at [] = None
unquoted_at (b ∷ []) = if b == 39 then Some ([], []) else None
unquoted_at (b ∷ c ∷ bytes) = if b == 39 then (if c == 39 then with_byte 39 (unquoted_at bytes) else Some ([], c ∷ bytes)) else with_byte b (unquoted_at (c ∷ bytes))

-- A byte or the end of what stands in quotes, and what is read after it.
abbrev pub read_on : Option ℕ → List ℕ → Option (List ℕ × List ℕ)
read_on None bytes = Some ([], bytes)
read_on (Some b) bytes = with_byte b (unquoted_at bytes)

abbrev pub as_text : Option (List ℕ × List ℕ) → Option (Token × List ℕ)
as_text None = None
as_text (Some x) = if is_utf8 x.0 then Some (token.Text x.0, x.1) else None

unfoldable pub text_at : List ℕ → Option (Token × List ℕ)
text_at bytes = as_text (unquoted_at bytes)

-- ---- signs

-- After <
abbrev pub less_at : List ℕ → Token × List ℕ
less_at [] = (token.Compare comparisons.Lt, [])
less_at (c ∷ rest) = if c == 61 then (token.Compare comparisons.Le, rest) else (if c == 62 then (token.Compare comparisons.Ne, rest) else (token.Compare comparisons.Lt, c ∷ rest))

-- After >
abbrev pub greater_at : List ℕ → Token × List ℕ
greater_at [] = (token.Compare comparisons.Gt, [])
greater_at (c ∷ rest) = if c == 61 then (token.Compare comparisons.Ge, rest) else (token.Compare comparisons.Gt, c ∷ rest)

-- After -: digits that follow directly belong to it.
unfoldable pub minus_at : List ℕ → Token × List ℕ
minus_at rest = if starts_with is_ascii_digit rest then (token.Negative (neg_ℤ (digits_at rest).0) (digits_at rest).0, (digits_at rest).1) else (token.Sign sign.Minus, rest)

-- ( ) * + , ; < = >
unfoldable pub sign_at : ℕ → List ℕ → Option (Token × List ℕ)
sign_at b rest =
    if b == 40 then Some (token.Sign sign.Open, rest) else (if b == 41 then Some (token.Sign sign.Close, rest) else (if b == 42 then Some (token.Sign sign.Star, rest)
    else (if b == 43 then Some (token.Sign sign.Plus, rest) else (if b == 44 then Some (token.Sign sign.Comma, rest) else (if b == 59 then Some (token.Sign sign.Semicolon, rest)
    else (if b == 60 then Some (less_at rest) else (if b == 61 then Some (token.Compare comparisons.Eq, rest) else (if b == 62 then Some (greater_at rest) else None))))))))

-- ---- tokens

-- The token at the front of a text that doesn't begin with a blank, and what follows it.
unfoldable pub token_at : List ℕ → Option (Token × List ℕ)
token_at [] = None
token_at (b ∷ rest) = if is_word_start b then Some (word_at (b ∷ rest)) else (if is_ascii_digit b then Some (token.Integer (digits_at (b ∷ rest)).0, (digits_at (b ∷ rest)).1)
    else (if b == 34 then quoted_at rest else (if b == 39 then text_at rest else (if b == 45 then Some (minus_at rest) else sign_at b rest))))

-- The text begins with these tokens, and then comes the rest.
abbrev pub Splits : List ℕ → List Token → List ℕ → Type 0
Splits text [] rest = text ≡ rest
Splits text (t ∷ ts) rest = (after : List ℕ) × (token_at (after_blanks text) ≡ Some (t, after)) × Splits after ts rest

-- The text is these tokens, with blanks before, between and after them.
abbrev pub IsSplit : List ℕ → List Token → Type 0
IsSplit text ts = (rest : List ℕ) × Splits text ts rest × (after_blanks rest ≡ [])

-- The same, with the place in a text of so many bytes just after each token.
abbrev pub Lexes : ℕ → List ℕ → List Token → List ℕ → List ℕ → Type 0
Lexes total text [] [] rest = text ≡ rest
Lexes total text (t ∷ ts) (e ∷ ends) rest = (after : List ℕ) × (token_at (after_blanks text) ≡ Some (t, after)) × (e + length after ≡ total) × Lexes total after ts ends rest
Lexes total text _ _ rest = ⊥

-- Either nothing but blanks is left, or no token fits.
abbrev pub Ends : Bool → List ℕ → Type 0
Ends true rest = after_blanks rest ≡ []
Ends false rest = (after_blanks rest ≡ [] → ⊥) × (token_at (after_blanks rest) ≡ None)
