-- Numbers that words are.
use Rattle.std.proofs.Common.{◌≡◌, ◌∙◌, ◌&&◌, ◌<◌, ◌^◌, ap, refl, sym, arith, true, false, Bool, ℕ, List, [], ◌∷◌, length, None, Ok, Err, Result, true≢false}
use Rattle.std.specs.Prelude.{nat_le}
use Rattle.std.specs.List.{list_all}
use Rattle.std.specs.Char.{is_ascii_digit}
use Rattle.std.specs.Result.{OkIff, result_ok}
use Rattle.std.specs.Str.{all_ascii_digits}
use Rattle.std.specs.Str.Parse.{ParsesUnsigned, digits_value}
use Rattle.std.proofs.lemmas.Bool.Decides.{nat_tests}
use Rattle.std.proofs.lemmas.Str.Parse.{IsNumeralModel, numerals_by_value, parse_digits, tells_all_ascii_digits}
use Rattle.command_words.specs.Words.{is_number, number_up_to}

own : IsNumeralModel (λ ds. all_ascii_digits ds ≡ true) (digits_value 10)
own = numerals_by_value _ tells_all_ascii_digits

digits : (word : List ℕ) → list_all is_ascii_digit word ≡ all_ascii_digits word
digits [] = refl
digits (c ∷ cs) = ap (λ b. is_ascii_digit c && b) (digits cs)

last_of : (a b c : Bool) → (a && b && c) ≡ true → c ≡ true
last_of true true c e = e
last_of true false c e = absurd (true≢false (sym e))
last_of false b c e = absurd (true≢false (sym e))

first_of : (a b c : Bool) → (a && b && c) ≡ true → a ≡ true
first_of true b c e = refl
first_of false b c e = absurd (true≢false (sym e))

-- what `parse` makes of a number
parsed : {E : Type 0} (word : List ℕ) (r : Result ℕ E) → is_number word ≡ true → ParsesUnsigned 64 10 word r → OkIff r ((0 < length word) × (digits_value 10 word < 2 ^ 64)) (digits_value 10 word)
parsed word r is h =
    parse_digits own 64 word r h (sym (digits word) ∙ last_of (nat_le 1 (length word)) (nat_le (length word) 20) (list_all is_ascii_digit word) is)

-- a number that `parse` refuses is too great
pub number_beyond : {E : Type 0} (most : ℕ) (word : List ℕ) (r : Result ℕ E) → is_number word ≡ true → ParsesUnsigned 64 10 word r → None ≡ result_ok r → most < 2 ^ 64 → None ≡ number_up_to most word
number_beyond most word (Ok n) is h none fits = cc
number_beyond most word (Err e) is h none fits = go (nat_le (digits_value 10 word) most) refl
  where
    some : 0 < length word
    some = grind (arith, nat_tests, first_of (nat_le 1 (length word)) (nat_le (length word) 20) (list_all is_ascii_digit word) is)

    go : (b : Bool) → nat_le (digits_value 10 word) most ≡ b → None ≡ number_up_to most word
    go true le = absurd (parsed word (Err e) is h (some, grind (arith, nat_tests, le, fits)))
    go false over = rw (is, over) refl
