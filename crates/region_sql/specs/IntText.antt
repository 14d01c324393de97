use Rattle.std.specs.Prelude.{◌≡◌, ◌≢◌, ℕ, ℤ, List, length, slice_index, IsUtf8, FitsSigned}
use Rattle.std.specs.Int.{w64}
use Rattle.std.specs.Str.Parse.{IsNumeral, without_leading_sign, signed_digits_value}

-- A text writes a number in decimal: digits, after a minus or not, without leading zeros, of a value
-- that is an i64. (This project's profile.)
pub record IsIntText (text : List ℕ) (n : ℤ) : Type 0 where
  pub utf8 : IsUtf8 text
  pub digits : IsNumeral 10 (without_leading_sign text)
  pub value : signed_digits_value 10 text ≡ n
  pub fits : FitsSigned w64 n
  pub no_plus : slice_index text 0 ≢ 43
  pub no_zeros : slice_index text 0 ≡ 48 → length text ≡ 1
  pub no_minus_zeros : slice_index text 0 ≡ 45 → slice_index text 1 ≡ 48 → length text ≡ 2
