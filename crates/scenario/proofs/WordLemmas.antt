-- Words of a line.
use Rattle.std.proofs.Common.{◌≡◌, ℕ, ◌^◌, ◌<◌, ◌≤◌, true, false, List, length, get_or, refl, sym, arith}
use Rattle.std.proofs.Math.Nat.{pow-le-pow_right}
use Rattle.std.proofs.lemmas.List.Sums.{prefix_len_is}
use Rattle.scenario.specs.Words.{is_inside_word, word_len}

pub run_is : (xs : List ℕ) (n : ℕ) → n ≤ length xs → ((k : ℕ) → k < n → is_inside_word (get_or xs k 0) ≡ true)
    → (n < length xs → is_inside_word (get_or xs n 0) ≡ false) → n ≡ word_len xs
run_is xs n le each stop = sym (prefix_len_is is_inside_word xs n 0 le each stop)

pub power_below : (i : ℕ) → i ≤ 16 → 10 ^ i ≤ 10 ^ 16
power_below i le = pow-le-pow_right {n = 10} (omega arith) le

pub blank_stops : (b : ℕ) → b ≡ 32 → is_inside_word b ≡ false
blank_stops b e = rw e refl
