-- Runs of bytes, digits and what stands in quotes.
use Rattle.std.proofs.Common.{◌≡◌, ℕ, ◌^◌, ◌<◌, ◌≤◌, Bool, true, false, List, [], ◌∷◌, ◌++◌, length, get_or, take, min, Option, Some, None, refl, sym, ap, ◌∙◌, append_assoc, arith}
use Rattle.std.specs.List.{prefix_len}
use Rattle.std.specs.Char.{is_ascii_digit}
use Rattle.std.proofs.Math.Nat.{pow-le-pow_right}
use Rattle.std.proofs.lemmas.List.{get_or-take, length-take}
use Rattle.std.proofs.lemmas.List.Sums.{prefix_len_is, prefix_len_passes, prefix_len_stops, prefix_len-le-length}
use Rattle.region_sql.specs.declared.byte_classes.ByteClass.{ByteClass}
use Rattle.region_sql.specs.Lexing.{is_in_class, with_byte}

pub run_is : (class : ByteClass) (xs : List ℕ) (n : ℕ) → n ≤ length xs → ((k : ℕ) → k < n → is_in_class class (get_or xs k 0) ≡ true)
    → (n < length xs → is_in_class class (get_or xs n 0) ≡ false) → n ≡ prefix_len (is_in_class class) xs
run_is class xs n le each stop = sym (prefix_len_is (is_in_class class) xs n 0 le each stop)

pub power_below : (i : ℕ) → i ≤ 30 → 10 ^ i ≤ 10 ^ 30
power_below i le = pow-le-pow_right {n = 10} (omega arith) le

-- What was read before, and what is still read.
abbrev pub with_bytes : List ℕ → Option (List ℕ × List ℕ) → Option (List ℕ × List ℕ)
with_bytes front None = None
with_bytes front (Some x) = Some (front ++ x.0, x.1)

pub with_no_bytes : (o : Option (List ℕ × List ℕ)) → with_bytes [] o ≡ o
with_no_bytes None = refl
with_no_bytes (Some x) = refl

pub push_byte : (front : List ℕ) (b : ℕ) (o : Option (List ℕ × List ℕ)) → with_bytes front (with_byte b o) ≡ with_bytes (front ++ b ∷ []) o
push_byte front b None = refl
push_byte front b (Some x) = ap (λ (bs : List ℕ). Some (bs, x.1)) (sym (append_assoc front (b ∷ []) x.0))

pub run_digits : (bytes front : List ℕ) (n : ℕ) → n ≤ prefix_len is_ascii_digit bytes → front ≡ take n bytes
    → (k : ℕ) → k < length front → is_ascii_digit (get_or front k 0) ≡ true
run_digits bytes front n le e k lt =
    let small : k < n = omega (arith, ap length e, length-take n bytes) in
    ap (λ (xs : List ℕ). is_ascii_digit (get_or xs k 0)) e ∙ ap is_ascii_digit (get_or-take n bytes k 0 small) ∙ prefix_len_passes is_ascii_digit bytes k 0 (omega arith)

-- A run in the front of a list is the run of the list, but no longer than the front.
front_run : (p : ℕ → Bool) (n : ℕ) (xs : List ℕ) → prefix_len p (take n xs) ≡ min n (prefix_len p xs)
front_run p n xs =
    prefix_len_is p (take n xs) (min n (prefix_len p xs)) 0
    (omega (arith, length-take n xs, prefix_len-le-length p xs))
    (λ k lt. ap p (get_or-take n xs k 0 (omega arith)) ∙ prefix_len_passes p xs k 0 (omega arith))
    (λ lt.
    let whole : min n (prefix_len p xs) ≡ prefix_len p xs = omega (arith, length-take n xs, lt) in
    let within : prefix_len p xs < n = omega (arith, length-take n xs, lt) in
    let inside : prefix_len p xs < length xs = omega (arith, length-take n xs, lt) in
    ap (λ (k : ℕ). p (get_or (take n xs) k 0)) whole ∙ ap p (get_or-take n xs (prefix_len p xs) 0 within) ∙ prefix_len_stops p xs 0 inside)

pub few_digits : (bytes : List ℕ) → prefix_len is_ascii_digit (take (min (length bytes) 30) bytes) ≡ min 30 (prefix_len is_ascii_digit bytes)
few_digits bytes = omega (arith, front_run is_ascii_digit (min (length bytes) 30) bytes, prefix_len-le-length is_ascii_digit bytes)
