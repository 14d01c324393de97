-- The text literals among the tokens of a text are UTF-8.
use Rattle.std.proofs.Common.{◌≡◌, ℕ, ◌+◌, ◌&&◌, codes, drop, length, Bool, true, false, cond, not, ◌||◌, List, [], ◌∷◌, ◌++◌, take, Option, None, Some, refl, subst, IsUtf8}
use Rattle.std.specs.Char.{is_ascii_digit}
use Rattle.std.specs.List.{prefix_len}
use Rattle.std.specs.Option.{option_map}
use Rattle.std.specs.Prelude.{◌==◌, neg_ℤ}
use Rattle.std.specs.Str.{bytes_eq, is_utf8}
use Rattle.std.proofs.lemmas.Str.{IsUtf8-from_is_utf8}
use Rattle.region_sql.specs.declared.row_statements.Comparison.TheVariants as comparisons
use Rattle.region_sql.specs.declared.tokens.Key.TheVariants as key
use Rattle.region_sql.specs.declared.tokens.Sign.TheVariants as sign
use Rattle.region_sql.specs.declared.tokens.Token.{Token}
use Rattle.region_sql.specs.declared.tokens.Token.TheVariants as token
use Rattle.region_sql.specs.Lexing.{IsSplit, Splits, after_blanks, as_text, bool_of, count_or_name, digits_at, else_take, greater_at, is_in_quotes, is_word_start, key_of, less_at, minus_at, quoted_at, sign_at, soft_of, starts_with, text_at, token_at, type_of, unquoted_at, word_at, word_token}

-- A token that is a text literal is UTF-8.
abbrev pub IsUtf8Token : Token → Type 0
IsUtf8Token (token.Text s) = IsUtf8 s
IsUtf8Token _ = Unit {0}

abbrev pub AreUtf8Tokens : List Token → Type 0
AreUtf8Tokens [] = Unit {0}
AreUtf8Tokens (t ∷ ts) = IsUtf8Token t × AreUtf8Tokens ts

abbrev IsUtf8First : Option (Token × List ℕ) → Type 0
IsUtf8First None = Unit {0}
IsUtf8First (Some x) = IsUtf8Token x.0

-- ---- choices

choose : (t : Bool) (x y : Option (Token × List ℕ)) → IsUtf8First x → IsUtf8First y → IsUtf8First (cond t x y)
choose true x y h k = h
choose false x y h k = k

pick : (t : Bool) (x y : Token × List ℕ) → IsUtf8Token x.0 → IsUtf8Token y.0 → IsUtf8Token (cond {A = Token × List ℕ} t x y).0
pick true x y h k = h
pick false x y h k = k

one_token : (t : Bool) (x y : Token) → IsUtf8Token x → IsUtf8Token y → IsUtf8Token (cond t x y)
one_token true x y h k = h
one_token false x y h k = k

else_token : {X : Type 0} (o : Option X) (f : X → Token) (other : Token) → ((x : X) → IsUtf8Token (f x)) → IsUtf8Token other → IsUtf8Token (else_take (option_map f o) other)
else_token None f other each h = h
else_token (Some x) f other each h = each x

-- ---- tokens that are no texts

count_utf8 : (w rest : List ℕ) → IsUtf8Token (count_or_name w rest)
unfolding count_or_name
count_utf8 w rest = one_token (bytes_eq w (codes "count") && starts_with (λ b. b == 40) (after_blanks rest)) (token.Key key.Count) (token.Name w) tt tt

word_token_utf8 : (w rest : List ℕ) → IsUtf8Token (word_token w rest)
unfolding word_token
word_token_utf8 w rest =
    else_token (key_of w) (λ k. token.Key k) _ (λ k. tt)
    (else_token (type_of w) (λ t. token.Type t) _ (λ t. tt)
    (else_token (bool_of w) (λ b. token.Bool b) _ (λ b. tt)
    (else_token (soft_of w) (λ s. token.Soft s) (count_or_name w rest) (λ s. tt) (count_utf8 w rest))))

word_utf8 : (bs : List ℕ) → IsUtf8Token (word_at bs).0
unfolding word_at
word_utf8 bs = word_token_utf8 _ _

quoted_utf8 : (bs : List ℕ) → IsUtf8First (quoted_at bs)
unfolding quoted_at
quoted_utf8 bs =
    let n = prefix_len is_in_quotes bs in
    choose (n == 0 || n == length bs || not (is_utf8 (take n bs))) None (Some (token.Name (take n bs), drop (n + 1) bs)) tt tt

minus_utf8 : (bs : List ℕ) → IsUtf8Token (minus_at bs).0
unfolding minus_at
minus_utf8 bs = pick (starts_with is_ascii_digit bs) (token.Negative (neg_ℤ (digits_at bs).0) (digits_at bs).0, (digits_at bs).1) (token.Sign sign.Minus, bs) tt tt

less_utf8 : (bs : List ℕ) → IsUtf8Token (less_at bs).0
less_utf8 [] = tt
less_utf8 (c ∷ bs) =
    pick (c == 61) (token.Compare comparisons.Le, bs) (cond {A = Token × List ℕ} (c == 62) (token.Compare comparisons.Ne, bs) (token.Compare comparisons.Lt, c ∷ bs)) tt
    (pick (c == 62) (token.Compare comparisons.Ne, bs) (token.Compare comparisons.Lt, c ∷ bs) tt tt)

greater_utf8 : (bs : List ℕ) → IsUtf8Token (greater_at bs).0
greater_utf8 [] = tt
greater_utf8 (c ∷ bs) = pick (c == 61) (token.Compare comparisons.Ge, bs) (token.Compare comparisons.Gt, c ∷ bs) tt tt

three : (p q r : Bool) (x y z w : Option (Token × List ℕ)) → IsUtf8First x → IsUtf8First y → IsUtf8First z → IsUtf8First w → IsUtf8First (cond p x (cond q y (cond r z w)))
three p q r x y z w hx hy hz hw = choose p x (cond q y (cond r z w)) hx (choose q y (cond r z w) hy (choose r z w hz hw))

sign_utf8 : (b : ℕ) (bs : List ℕ) → IsUtf8First (sign_at b bs)
unfolding sign_at
sign_utf8 b bs =
    let last : Option (Token × List ℕ) = cond (b == 60) (Some (less_at bs)) (cond (b == 61) (Some (token.Compare comparisons.Eq, bs)) (cond (b == 62) (Some (greater_at bs)) None)) in
    let middle : Option (Token × List ℕ) = cond (b == 43) (Some (token.Sign sign.Plus, bs)) (cond (b == 44) (Some (token.Sign sign.Comma, bs)) (cond (b == 59) (Some (token.Sign sign.Semicolon, bs)) last)) in
    three (b == 40) (b == 41) (b == 42) (Some (token.Sign sign.Open, bs)) (Some (token.Sign sign.Close, bs)) (Some (token.Sign sign.Star, bs)) middle tt tt tt
    (three (b == 43) (b == 44) (b == 59) (Some (token.Sign sign.Plus, bs)) (Some (token.Sign sign.Comma, bs)) (Some (token.Sign sign.Semicolon, bs)) last tt tt tt
    (three (b == 60) (b == 61) (b == 62) (Some (less_at bs)) (Some (token.Compare comparisons.Eq, bs)) (Some (greater_at bs)) None (less_utf8 bs) tt (greater_utf8 bs) tt))

-- ---- texts

as_text_utf8 : (o : Option (List ℕ × List ℕ)) → IsUtf8First (as_text o)
as_text_utf8 None = tt
as_text_utf8 (Some x) = by (is_utf8 x.0) (λ e. IsUtf8-from_is_utf8 x.0 e)
  where
    by : (t : Bool) → (t ≡ true → IsUtf8 x.0) → IsUtf8First (cond t (Some (token.Text x.0, x.1)) None)
    by true h = h refl
    by false h = tt

text_utf8 : (bs : List ℕ) → IsUtf8First (text_at bs)
unfolding text_at
text_utf8 bs = as_text_utf8 (unquoted_at bs)

-- ---- lists of tokens

token_utf8 : (bs : List ℕ) → IsUtf8First (token_at bs)
unfolding token_at
token_utf8 [] = tt
token_utf8 (b ∷ bs) =
    let last : Option (Token × List ℕ) = cond (b == 39) (text_at bs) (cond (b == 45) (Some (minus_at bs)) (sign_at b bs)) in
    three (is_word_start b) (is_ascii_digit b) (b == 34) (Some (word_at (b ∷ bs))) (Some (token.Integer (digits_at (b ∷ bs)).0, (digits_at (b ∷ bs)).1)) (quoted_at bs) last
    (word_utf8 (b ∷ bs)) tt (quoted_utf8 bs)
    (choose (b == 39) (text_at bs) (cond (b == 45) (Some (minus_at bs)) (sign_at b bs)) (text_utf8 bs) (choose (b == 45) (Some (minus_at bs)) (sign_at b bs) (minus_utf8 bs) (sign_utf8 b bs)))

split_utf8 : (text : List ℕ) (ts : List Token) (rest : List ℕ) → Splits text ts rest → AreUtf8Tokens ts
split_utf8 text [] rest h = tt
split_utf8 text (t ∷ ts) rest h = (subst IsUtf8First h.1 (token_utf8 (after_blanks text)), split_utf8 h.0 ts rest h.2)

pub utf8_of_split : (text : List ℕ) (ts : List Token) → IsSplit text ts → AreUtf8Tokens ts
utf8_of_split text ts h = split_utf8 text ts h.0 h.1

pub utf8_front : (xs ys : List Token) → AreUtf8Tokens (xs ++ ys) → AreUtf8Tokens xs
utf8_front [] ys h = tt
utf8_front (x ∷ xs) ys h = (h.0, utf8_front xs ys h.1)

pub utf8_back : (xs ys : List Token) → AreUtf8Tokens (xs ++ ys) → AreUtf8Tokens ys
utf8_back [] ys h = h
utf8_back (x ∷ xs) ys h = utf8_back xs ys h.1
