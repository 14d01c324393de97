-- A text splits in one way.
use Rattle.std.proofs.Common.{◌≡◌, ℕ, suc, ◌+◌, ◌<◌, ◌≤◌, Bool, true, false, cond, ◌||◌, not, List, [], ◌∷◌, ◌++◌, length, drop, take, Option, Some, None, refl, sym, ap, subst, ◌∙◌, inl, inr, arith}
use Rattle.std.specs.List.{prefix_len}
use Rattle.std.specs.Char.{is_ascii_digit}
use Rattle.std.specs.Int.{is_in_range}
use Rattle.std.specs.Prelude.{◌==◌, neg_ℤ}
use Rattle.std.specs.Str.{is_utf8}
use Rattle.region_sql.specs.declared.row_statements.Comparison.TheVariants as comparisons
use Rattle.region_sql.specs.declared.tokens.Sign.TheVariants as sign
use Rattle.region_sql.specs.declared.tokens.Token.TheVariants as token
use Rattle.std.proofs.lemmas.List.{length-drop}
use Rattle.region_sql.specs.declared.tokens.Token.{Token}
use Rattle.region_sql.specs.Lexing.{is_blank, is_in_quotes, starts_with, is_word_start, is_word_byte, after_blanks, word_at, digit_count, digits_at, quoted_at, with_byte, unquoted_at, as_text, text_at, less_at, greater_at, minus_at, sign_at, token_at, Splits, Lexes}
use Rattle.region_sql.proofs.Plain.{chosen}

or-more : (r0 r1 r2 e : Bool) → ((r1 || r2) || e) ≡ true → (((r0 || r1) || r2) || e) ≡ true
or-more true r1 r2 e h = refl
or-more false r1 r2 e h = h

pub some_is : {A : Type 0} (x y : A) → Some x ≡ Some y → x ≡ y
some_is x y e = cc

front-run : (p : ℕ → Bool) (b : ℕ) (bs : List ℕ) → p b ≡ true → 1 ≤ prefix_len p (b ∷ bs)
front-run p b bs e =
    let n : prefix_len p (b ∷ bs) ≡ 1 + prefix_len p bs = ap (λ c. cond c (1 + prefix_len p bs) 0) e in
    omega arith

dropped : (n : ℕ) (b : ℕ) (bs : List ℕ) → 1 ≤ n → length (drop n (b ∷ bs)) ≤ length bs
dropped n b bs le = omega (arith, length-drop n (b ∷ bs))

word-shorter : (b : ℕ) (bs : List ℕ) → is_word_start b ≡ true → length (word_at (b ∷ bs)).1 ≤ length bs
unfolding word_at
word-shorter b bs e = dropped (prefix_len is_word_byte (b ∷ bs)) b bs (front-run is_word_byte b bs (or-more (is_in_range 48 57 b) (is_in_range 65 90 b) (is_in_range 97 122 b) (b == 95) e))

digits-shorter : (b : ℕ) (bs : List ℕ) → is_ascii_digit b ≡ true → length (digits_at (b ∷ bs)).1 ≤ length bs
unfolding digits_at
digits-shorter b bs e = dropped (digit_count (b ∷ bs)) b bs (let one = front-run is_ascii_digit b bs e in omega arith)

digits-no_longer : (bs : List ℕ) → length (digits_at bs).1 ≤ length bs
unfolding digits_at
digits-no_longer bs = omega (arith, length-drop (digit_count bs) bs)

abbrev Within : ℕ → Option (Token × List ℕ) → Type 0
Within n o = (x : Token × List ℕ) → o ≡ Some x → length x.1 ≤ n

within-some : (n : ℕ) (y : Token × List ℕ) → length y.1 ≤ n → Within n (Some y)
within-some n y le x e = subst (λ (z : Token × List ℕ). length z.1 ≤ n) (some_is y x e) le

within-none : (n : ℕ) → Within n None
within-none n x e = absurd cc

within-either : (n : ℕ) (b : Bool) (o p : Option (Token × List ℕ)) → Within n o → Within n p → Within n (cond b o p)
within-either n true o p h k = h
within-either n false o p h k = k

quoted-no_longer : (bs : List ℕ) → Within (length bs) (quoted_at bs)
unfolding quoted_at
quoted-no_longer bs =
    let n : ℕ = prefix_len is_in_quotes bs in
    within-either (length bs) ((n == 0 || n == length bs) || not (is_utf8 (take n bs))) None (Some (token.Name (take n bs), drop (n + 1) bs))
    (within-none (length bs)) (within-some (length bs) (token.Name (take n bs), drop (n + 1) bs) (omega (arith, length-drop (n + 1) bs)))

with_byte-some : (b n : ℕ) (o : Option (List ℕ × List ℕ)) → ((x : List ℕ × List ℕ) → o ≡ Some x → length x.1 ≤ n)
    → (x : List ℕ × List ℕ) → with_byte b o ≡ Some x → length x.1 ≤ n
with_byte-some b n None h x e = absurd cc
with_byte-some b n (Some y) h x e =
    let le = h y refl in
    subst (λ (z : List ℕ × List ℕ). length z.1 ≤ n) (some_is (b ∷ y.0, y.1) x e) le

unquoted-no_longer : (bs : List ℕ) (x : List ℕ × List ℕ) → unquoted_at bs ≡ Some x → length x.1 ≤ length bs
unfolding unquoted_at
unquoted-no_longer [] x e = absurd cc
unquoted-no_longer (b ∷ []) x e =
    elim (chosen (b == 39) (Some ([], [])) None (Some x) e) [
      | inl l ↦ subst (λ (z : List ℕ × List ℕ). length z.1 ≤ 1) (some_is ([], []) x l.1) (omega arith)
      | inr r ↦ absurd (let f = r.1 in cc)
    ]
unquoted-no_longer (b ∷ c ∷ bs) x e =
    elim (chosen (b == 39) (cond (c == 39) (with_byte 39 (unquoted_at bs)) (Some ([], c ∷ bs))) (with_byte b (unquoted_at (c ∷ bs))) (Some x) e) [
      | inl l ↦
          elim (chosen (c == 39) (with_byte 39 (unquoted_at bs)) (Some ([], c ∷ bs)) (Some x) l.1) [
            | inl m ↦ let le = with_byte-some 39 (length bs) (unquoted_at bs) (λ y f. unquoted-no_longer bs y f) x m.1 in omega arith
            | inr m ↦ subst (λ (z : List ℕ × List ℕ). length z.1 ≤ suc (suc (length bs))) (some_is ([], c ∷ bs) x m.1) (omega arith)
          ]
      | inr r ↦ let le = with_byte-some b (suc (length bs)) (unquoted_at (c ∷ bs)) (λ y f. unquoted-no_longer (c ∷ bs) y f) x r.1 in omega arith
    ]

as_text-some : (n : ℕ) (o : Option (List ℕ × List ℕ)) → ((x : List ℕ × List ℕ) → o ≡ Some x → length x.1 ≤ n) → Within n (as_text o)
as_text-some n None h = within-none n
as_text-some n (Some y) h = within-either n (is_utf8 y.0) (Some (token.Text y.0, y.1)) None (within-some n (token.Text y.0, y.1) (h y refl)) (within-none n)

text-no_longer : (bs : List ℕ) → Within (length bs) (text_at bs)
unfolding text_at
text-no_longer bs = as_text-some (length bs) (unquoted_at bs) (λ x e. unquoted-no_longer bs x e)

either-pair : (b : Bool) (x y : Token × List ℕ) (n : ℕ) → length x.1 ≤ n → length y.1 ≤ n → length (cond b x y).1 ≤ n
either-pair true x y n h k = h
either-pair false x y n h k = k

less-no_longer : (bs : List ℕ) → length (less_at bs).1 ≤ length bs
less-no_longer [] = omega arith
less-no_longer (c ∷ bs) =
    either-pair (c == 61) (token.Compare comparisons.Le, bs) (cond (c == 62) (token.Compare comparisons.Ne, bs) (token.Compare comparisons.Lt, c ∷ bs)) (suc (length bs)) (omega arith)
    (either-pair (c == 62) (token.Compare comparisons.Ne, bs) (token.Compare comparisons.Lt, c ∷ bs) (suc (length bs)) (omega arith) (omega arith))

greater-no_longer : (bs : List ℕ) → length (greater_at bs).1 ≤ length bs
greater-no_longer [] = omega arith
greater-no_longer (c ∷ bs) = either-pair (c == 61) (token.Compare comparisons.Ge, bs) (token.Compare comparisons.Gt, c ∷ bs) (suc (length bs)) (omega arith) (omega arith)

minus-no_longer : (bs : List ℕ) → length (minus_at bs).1 ≤ length bs
unfolding minus_at
minus-no_longer bs =
    either-pair (starts_with is_ascii_digit bs) (token.Negative (neg_ℤ (digits_at bs).0) (digits_at bs).0, (digits_at bs).1) (token.Sign sign.Minus, bs) (length bs) (digits-no_longer bs) (omega arith)

sign-step : (n : ℕ) (b : Bool) (y : Token × List ℕ) (o : Option (Token × List ℕ)) → length y.1 ≤ n → Within n o → Within n (cond b (Some y) o)
sign-step n b y o le w = within-either n b (Some y) o (within-some n y le) w

sign-no_longer : (b : ℕ) (bs : List ℕ) → Within (length bs) (sign_at b bs)
unfolding sign_at
sign-no_longer b bs =
    let n = length bs in
    let same : length bs ≤ length bs = omega arith in
    sign-step n (b == 40) (token.Sign sign.Open, bs) (cond (b == 41) (Some (token.Sign sign.Close, bs)) (cond (b == 42) (Some (token.Sign sign.Star, bs)) (cond (b == 43) (Some (token.Sign sign.Plus, bs)) (cond (b == 44) (Some (token.Sign sign.Comma, bs)) (cond (b == 59) (Some (token.Sign sign.Semicolon, bs)) (cond (b == 60) (Some (less_at bs)) (cond (b == 61) (Some (token.Compare comparisons.Eq, bs)) (cond (b == 62) (Some (greater_at bs)) None)))))))) same
    (sign-step n (b == 41) (token.Sign sign.Close, bs) (cond (b == 42) (Some (token.Sign sign.Star, bs)) (cond (b == 43) (Some (token.Sign sign.Plus, bs)) (cond (b == 44) (Some (token.Sign sign.Comma, bs)) (cond (b == 59) (Some (token.Sign sign.Semicolon, bs)) (cond (b == 60) (Some (less_at bs)) (cond (b == 61) (Some (token.Compare comparisons.Eq, bs)) (cond (b == 62) (Some (greater_at bs)) None))))))) same
    (sign-step n (b == 42) (token.Sign sign.Star, bs) (cond (b == 43) (Some (token.Sign sign.Plus, bs)) (cond (b == 44) (Some (token.Sign sign.Comma, bs)) (cond (b == 59) (Some (token.Sign sign.Semicolon, bs)) (cond (b == 60) (Some (less_at bs)) (cond (b == 61) (Some (token.Compare comparisons.Eq, bs)) (cond (b == 62) (Some (greater_at bs)) None)))))) same
    (sign-step n (b == 43) (token.Sign sign.Plus, bs) (cond (b == 44) (Some (token.Sign sign.Comma, bs)) (cond (b == 59) (Some (token.Sign sign.Semicolon, bs)) (cond (b == 60) (Some (less_at bs)) (cond (b == 61) (Some (token.Compare comparisons.Eq, bs)) (cond (b == 62) (Some (greater_at bs)) None))))) same
    (sign-step n (b == 44) (token.Sign sign.Comma, bs) (cond (b == 59) (Some (token.Sign sign.Semicolon, bs)) (cond (b == 60) (Some (less_at bs)) (cond (b == 61) (Some (token.Compare comparisons.Eq, bs)) (cond (b == 62) (Some (greater_at bs)) None)))) same
    (sign-step n (b == 59) (token.Sign sign.Semicolon, bs) (cond (b == 60) (Some (less_at bs)) (cond (b == 61) (Some (token.Compare comparisons.Eq, bs)) (cond (b == 62) (Some (greater_at bs)) None))) same
    (sign-step n (b == 60) (less_at bs) (cond (b == 61) (Some (token.Compare comparisons.Eq, bs)) (cond (b == 62) (Some (greater_at bs)) None)) (less-no_longer bs)
    (sign-step n (b == 61) (token.Compare comparisons.Eq, bs) (cond (b == 62) (Some (greater_at bs)) None) same
    (sign-step n (b == 62) (greater_at bs) None (greater-no_longer bs)
    (within-none n)))))))))

within-true : (n : ℕ) (b : Bool) (o p : Option (Token × List ℕ)) → (b ≡ true → Within n o) → Within n p → Within n (cond b o p)
within-true n true o p h k = h refl
within-true n false o p h k = k

token-within : (b : ℕ) (bs : List ℕ) → Within (length bs) (token_at (b ∷ bs))
unfolding token_at
token-within b bs =
    let n = length bs in
    let o4 : Option (Token × List ℕ) = cond (b == 45) (Some (minus_at bs)) (sign_at b bs) in
    let o3 : Option (Token × List ℕ) = cond (b == 39) (text_at bs) o4 in
    let o2 : Option (Token × List ℕ) = cond (b == 34) (quoted_at bs) o3 in
    let number : Token × List ℕ = (token.Integer (digits_at (b ∷ bs)).0, (digits_at (b ∷ bs)).1) in
    let o1 : Option (Token × List ℕ) = cond (is_ascii_digit b) (Some number) o2 in
    within-true n (is_word_start b) (Some (word_at (b ∷ bs))) o1 (λ e. within-some n (word_at (b ∷ bs)) (word-shorter b bs e))
    (within-true n (is_ascii_digit b) (Some number) o2 (λ e. within-some n number (digits-shorter b bs e))
    (within-either n (b == 34) (quoted_at bs) o3 (quoted-no_longer bs) (within-either n (b == 39) (text_at bs) o4 (text-no_longer bs)
    (within-either n (b == 45) (Some (minus_at bs)) (sign_at b bs) (within-some n (minus_at bs) (minus-no_longer bs)) (sign-no_longer b bs)))))

none-at-end : token_at [] ≡ None
unfolding token_at
none-at-end = refl

pub token-shorter : (bytes : List ℕ) (x : Token × List ℕ) → token_at bytes ≡ Some x → length x.1 < length bytes
token-shorter [] x e = absurd (let f = none-at-end in cc)
token-shorter (b ∷ bs) x e = let le = token-within b bs x e in omega arith

-- ---- one way

pub lexes-push : (total : ℕ) (text : List ℕ) (ts : List Token) (es : List ℕ) (after : List ℕ) (t : Token) (next : List ℕ) (e : ℕ)
    → Lexes total text ts es after → token_at (after_blanks after) ≡ Some (t, next) → e + length next ≡ total
    → Lexes total text (ts ++ t ∷ []) (es ++ e ∷ []) next
lexes-push total text [] [] after t next e p h l = (next, ap (λ bs. token_at (after_blanks bs)) p ∙ h, l, refl)
lexes-push total text [] (d ∷ es) after t next e p h l = absurd p
lexes-push total text (u ∷ ts) [] after t next e p h l = absurd p
lexes-push total text (u ∷ ts) (d ∷ es) after t next e p h l = (p.0, p.1, p.2, lexes-push total p.0 ts es after t next e p.3 h l)

pub lexes-splits : (total : ℕ) (text : List ℕ) (ts : List Token) (es : List ℕ) (after : List ℕ) → Lexes total text ts es after → Splits text ts after
lexes-splits total text [] [] after p = p
lexes-splits total text [] (d ∷ es) after p = absurd p
lexes-splits total text (u ∷ ts) [] after p = absurd p
lexes-splits total text (u ∷ ts) (d ∷ es) after p = (p.0, p.1, lexes-splits total p.0 ts es after p.3)

pub one-split : (text : List ℕ) (ts us : List Token) (a b : List ℕ) → Splits text ts a → Splits text us b
    → token_at (after_blanks a) ≡ None → token_at (after_blanks b) ≡ None → (ts ≡ us) × (a ≡ b)
one-split text [] [] a b p q n m = (refl, sym p ∙ q)
one-split text [] (u ∷ us) a b p q n m = absurd (let e = sym q.1 ∙ ap (λ bs. token_at (after_blanks bs)) p ∙ n in cc)
one-split text (t ∷ ts) [] a b p q n m = absurd (let e = sym p.1 ∙ ap (λ bs. token_at (after_blanks bs)) q ∙ m in cc)
one-split text (t ∷ ts) (u ∷ us) a b p q n m =
    let same : (t, p.0) ≡ (u, q.0) = some_is (t, p.0) (u, q.0) (sym p.1 ∙ q.1) in
    let next : p.0 ≡ q.0 = ap (λ (x : Token × List ℕ). x.1) same in
    let head : t ≡ u = ap (λ (x : Token × List ℕ). x.0) same in
    let rest = one-split p.0 ts us a b p.2 (subst (λ (bs : List ℕ). Splits bs us b) (sym next) q.2) n m in
    (ap (λ (v : Token). v ∷ ts) head ∙ ap (λ (vs : List Token). u ∷ vs) rest.0, rest.1)

pub ended-here : (a : List ℕ) → after_blanks a ≡ [] → token_at (after_blanks a) ≡ None
ended-here a e = ap token_at e ∙ none-at-end

pub blanks-no_longer : (bytes : List ℕ) → length (after_blanks bytes) ≤ length bytes
unfolding after_blanks
blanks-no_longer bytes = omega (arith, length-drop (prefix_len is_blank bytes) bytes)
