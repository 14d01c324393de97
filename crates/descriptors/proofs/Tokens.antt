-- The names among the tokens of a text are texts.
use Rattle.std.proofs.Common.{◌≡◌, ℕ, zero, suc, ◌+◌, ◌<◌, ◌&&◌, codes, drop, length, Bool, true, false, cond, not, ◌||◌, List, [], ◌∷◌, ◌++◌, take, Option, None, Some, refl, sym, ap, ◌∙◌, subst, arith, IsUtf8}
use Rattle.std.specs.Char.{to_ascii_lowercase, is_ascii_digit}
use Rattle.std.specs.List.{prefix_len}
use Rattle.std.specs.Option.{option_map}
use Rattle.std.specs.Prelude.{◌==◌, neg_ℤ}
use Rattle.std.specs.Str.{IsAscii, bytes_eq, is_utf8}
use Rattle.std.proofs.lemmas.Bool.Decides.{nat_tests}
use Rattle.std.proofs.lemmas.Str.{IsUtf8-from_ascii, IsUtf8-from_is_utf8}
use Rattle.std.proofs.lemmas.Str.Ascii.{IsAscii-map, IsAscii-nil, lowercase_ascii}
use Rattle.region_sql.specs.declared.row_statements.Comparison.TheVariants as comparisons
use Rattle.region_sql.specs.declared.tokens.Key.TheVariants as key
use Rattle.region_sql.specs.declared.tokens.Sign.TheVariants as sign
use Rattle.region_sql.specs.declared.tokens.Token.{Token}
use Rattle.region_sql.specs.declared.tokens.Token.TheVariants as token
use Rattle.region_sql.specs.Lexing.{IsSplit, Splits, after_blanks, as_text, bool_of, count_or_name, digits_at, else_take, greater_at, is_in_quotes, is_word_byte, is_word_start, key_of, less_at, minus_at, quoted_at, sign_at, soft_of, starts_with, text_at, token_at, type_of, unquoted_at, word_at, word_token}

abbrev pub IsText : Token → Type 0
IsText (token.Name n) = IsUtf8 n
IsText _ = Unit {0}

abbrev pub AreTexts : List Token → Type 0
AreTexts [] = Unit {0}
AreTexts (t ∷ ts) = IsText t × AreTexts ts

abbrev OfText : Option (Token × List ℕ) → Type 0
OfText None = Unit {0}
OfText (Some x) = IsText x.0

-- ---- words

word_byte : (b : ℕ) → is_word_byte b ≡ true → b < 128
word_byte b e = grind (arith, nat_tests)

ascii_cons : (b : ℕ) (bs : List ℕ) → b < 128 → IsAscii bs → IsAscii (b ∷ bs)
ascii_cons b bs h rest zero = h
ascii_cons b bs h rest (suc i) = rest i

word_ascii : (bs : List ℕ) → IsAscii (take (prefix_len is_word_byte bs) bs)
word_ascii [] = IsAscii-nil
word_ascii (b ∷ bs) = by (is_word_byte b) refl (word_ascii bs)
  where
    by : (t : Bool) → is_word_byte b ≡ t → IsAscii (take (prefix_len is_word_byte bs) bs) → IsAscii (take (prefix_len is_word_byte (b ∷ bs)) (b ∷ bs))
    by true e rest =
        let more : prefix_len is_word_byte (b ∷ bs) ≡ suc (prefix_len is_word_byte bs) = ap (λ t. cond t (1 + prefix_len is_word_byte bs) 0) e ∙ omega arith in
        subst (λ n. IsAscii (take n (b ∷ bs))) (sym more) (ascii_cons b (take (prefix_len is_word_byte bs) bs) (word_byte b e) rest)
    by false e rest =
        let none : prefix_len is_word_byte (b ∷ bs) ≡ 0 = ap (λ t. cond t (1 + prefix_len is_word_byte bs) 0) e in
        subst (λ n. IsAscii (take n (b ∷ bs))) (sym none) IsAscii-nil

else_text : {X : Type 0} (o : Option X) (f : X → Token) (other : Token) → ((x : X) → IsText (f x)) → IsText other → IsText (else_take (option_map f o) other)
else_text None f other each h = h
else_text (Some x) f other each h = each x

one_token : (t : Bool) (x y : Token) → IsText x → IsText y → IsText (cond t x y)
one_token true x y h k = h
one_token false x y h k = k

count_text : (w rest : List ℕ) → IsUtf8 w → IsText (count_or_name w rest)
unfolding count_or_name
count_text w rest h = one_token (bytes_eq w (codes "count") && starts_with (λ b. b == 40) (after_blanks rest)) (token.Key key.Count) (token.Name w) tt h

word_token_text : (w rest : List ℕ) → IsUtf8 w → IsText (word_token w rest)
unfolding word_token
word_token_text w rest h =
    else_text (key_of w) (λ k. token.Key k) _ (λ k. tt)
    (else_text (type_of w) (λ t. token.Type t) _ (λ t. tt)
    (else_text (bool_of w) (λ b. token.Bool b) _ (λ b. tt)
    (else_text (soft_of w) (λ s. token.Soft s) (count_or_name w rest) (λ s. tt) (count_text w rest h))))

word_text : (bs : List ℕ) → IsText (word_at bs).0
unfolding word_at
word_text bs = word_token_text _ _ (IsUtf8-from_ascii _ (IsAscii-map to_ascii_lowercase (take (prefix_len is_word_byte bs) bs) lowercase_ascii (word_ascii bs)))

-- ---- other tokens

choose : (t : Bool) (x y : Option (Token × List ℕ)) → OfText x → OfText y → OfText (cond t x y)
choose true x y h k = h
choose false x y h k = k

if_quoted : (a b u : Bool) (x : Option (Token × List ℕ)) → (u ≡ true → OfText x) → OfText (cond (a || b || not u) None x)
if_quoted true b u x h = tt
if_quoted false true u x h = tt
if_quoted false false true x h = h refl
if_quoted false false false x h = tt

quoted_text : (bs : List ℕ) → OfText (quoted_at bs)
unfolding quoted_at
quoted_text bs =
    let n = prefix_len is_in_quotes bs in
    if_quoted (n == 0) (n == length bs) (is_utf8 (take n bs)) (Some (token.Name (take n bs), drop (n + 1) bs)) (λ e. IsUtf8-from_is_utf8 (take n bs) e)

as_text_text : (o : Option (List ℕ × List ℕ)) → OfText (as_text o)
as_text_text None = tt
as_text_text (Some x) = choose (is_utf8 x.0) (Some (token.Text x.0, x.1)) None tt tt

text_text : (bs : List ℕ) → OfText (text_at bs)
unfolding text_at
text_text bs = as_text_text (unquoted_at bs)

pick : (t : Bool) (x y : Token × List ℕ) → IsText x.0 → IsText y.0 → IsText (cond {A = Token × List ℕ} t x y).0
pick true x y h k = h
pick false x y h k = k

minus_text : (bs : List ℕ) → IsText (minus_at bs).0
unfolding minus_at
minus_text bs = pick (starts_with is_ascii_digit bs) (token.Negative (neg_ℤ (digits_at bs).0) (digits_at bs).0, (digits_at bs).1) (token.Sign sign.Minus, bs) tt tt

less_text : (bs : List ℕ) → IsText (less_at bs).0
less_text [] = tt
less_text (c ∷ bs) =
    pick (c == 61) (token.Compare comparisons.Le, bs) (cond {A = Token × List ℕ} (c == 62) (token.Compare comparisons.Ne, bs) (token.Compare comparisons.Lt, c ∷ bs)) tt
    (pick (c == 62) (token.Compare comparisons.Ne, bs) (token.Compare comparisons.Lt, c ∷ bs) tt tt)

greater_text : (bs : List ℕ) → IsText (greater_at bs).0
greater_text [] = tt
greater_text (c ∷ bs) = pick (c == 61) (token.Compare comparisons.Ge, bs) (token.Compare comparisons.Gt, c ∷ bs) tt tt

three : (p q r : Bool) (x y z w : Option (Token × List ℕ)) → OfText x → OfText y → OfText z → OfText w → OfText (cond p x (cond q y (cond r z w)))
three p q r x y z w hx hy hz hw = choose p x (cond q y (cond r z w)) hx (choose q y (cond r z w) hy (choose r z w hz hw))

sign_text : (b : ℕ) (bs : List ℕ) → OfText (sign_at b bs)
unfolding sign_at
sign_text b bs =
    let last : Option (Token × List ℕ) = cond (b == 60) (Some (less_at bs)) (cond (b == 61) (Some (token.Compare comparisons.Eq, bs)) (cond (b == 62) (Some (greater_at bs)) None)) in
    let middle : Option (Token × List ℕ) = cond (b == 43) (Some (token.Sign sign.Plus, bs)) (cond (b == 44) (Some (token.Sign sign.Comma, bs)) (cond (b == 59) (Some (token.Sign sign.Semicolon, bs)) last)) in
    three (b == 40) (b == 41) (b == 42) (Some (token.Sign sign.Open, bs)) (Some (token.Sign sign.Close, bs)) (Some (token.Sign sign.Star, bs)) middle tt tt tt
    (three (b == 43) (b == 44) (b == 59) (Some (token.Sign sign.Plus, bs)) (Some (token.Sign sign.Comma, bs)) (Some (token.Sign sign.Semicolon, bs)) last tt tt tt
    (three (b == 60) (b == 61) (b == 62) (Some (less_at bs)) (Some (token.Compare comparisons.Eq, bs)) (Some (greater_at bs)) None (less_text bs) tt (greater_text bs) tt))

token_text : (bs : List ℕ) → OfText (token_at bs)
unfolding token_at
token_text [] = tt
token_text (b ∷ bs) =
    let last : Option (Token × List ℕ) = cond (b == 39) (text_at bs) (cond (b == 45) (Some (minus_at bs)) (sign_at b bs)) in
    three (is_word_start b) (is_ascii_digit b) (b == 34) (Some (word_at (b ∷ bs))) (Some (token.Integer (digits_at (b ∷ bs)).0, (digits_at (b ∷ bs)).1)) (quoted_at bs) last
    (word_text (b ∷ bs)) tt (quoted_text bs)
    (choose (b == 39) (text_at bs) (cond (b == 45) (Some (minus_at bs)) (sign_at b bs)) (text_text bs) (choose (b == 45) (Some (minus_at bs)) (sign_at b bs) (minus_text bs) (sign_text b bs)))

-- ---- lists of tokens

split_texts : (text : List ℕ) (ts : List Token) (rest : List ℕ) → Splits text ts rest → AreTexts ts
split_texts text [] rest h = tt
split_texts text (t ∷ ts) rest h = (subst OfText h.1 (token_text (after_blanks text)), split_texts h.0 ts rest h.2)

pub texts_of : (text : List ℕ) (ts : List Token) → IsSplit text ts → AreTexts ts
texts_of text ts h = split_texts text ts h.0 h.1

pub texts_front : (xs ys : List Token) → AreTexts (xs ++ ys) → AreTexts xs
texts_front [] ys h = tt
texts_front (x ∷ xs) ys h = (h.0, texts_front xs ys h.1)

pub texts_back : (xs ys : List Token) → AreTexts (xs ++ ys) → AreTexts ys
texts_back [] ys h = h
texts_back (x ∷ xs) ys h = texts_back xs ys h.1
