-- Values of keys put into pairs. (This project's profile.)
use Rattle.std.specs.Prelude.{◌≡◌, ℕ, ◌+◌, ◌<◌, ◌≤◌, List, ◌++◌, ◌∷◌, take, drop, length, map, filter_map, Option, option_map, Result, Ok, Err}
use Rattle.std.specs.FinMap.Entries.{put}
use Rattle.mr_base.specs.declared.spans.Pair.{Pair}
use Rattle.row_locality.specs.Pairs.{KeyValue, bytes_cmp, key_value, put_all}

-- Pairs, and then the values of keys that have one.
abbrev pub with_written : List (List ℕ × Option (List ℕ)) → List KeyValue → List KeyValue
with_written written pairs = put_all (filter_map (λ x. option_map (λ value. (x.0, value)) x.1) written) pairs

-- Where a value of a key goes among pairs: to the place of the pair of that key, or between two pairs.
abbrev pub IsPlaceFor : List ℕ → List Pair → Result ℕ ℕ → Type 0
IsPlaceFor key pairs (Ok i) = (i < length pairs)
    × ((v : List ℕ) → put bytes_cmp key v (map key_value pairs)
    ≡ map key_value (take i pairs) ++ (key, v) ∷ map key_value (drop (i + 1) pairs))
IsPlaceFor key pairs (Err i) = (i ≤ length pairs)
    × ((v : List ℕ) → put bytes_cmp key v (map key_value pairs)
    ≡ map key_value (take i pairs) ++ (key, v) ∷ map key_value (drop i pairs))
