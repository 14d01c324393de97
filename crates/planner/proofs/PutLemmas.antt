-- Values put into pairs at a place.
use Rattle.std.proofs.Common.{◌≡◌, ℕ, suc, arith, ◌+◌, ◌<◌, Bool, true, false, cond, List, [], ◌∷◌, ◌++◌, take, drop, filter, get_or, map, length, slice_set, refl, sym, ap, ◌∙◌}
use Rattle.std.specs.Prelude.{Option, is_none}
use Rattle.std.specs.Cmp.{Equal-is}
use Rattle.std.specs.FinMap.Entries.{by_order, find, put, where_key}
use Rattle.std.specs.Ordering.{is_eq}
use Rattle.std.proofs.lemmas.List.{at_drop_more, map-append, set_split}
use Rattle.std.proofs.lemmas.Map.Lookups.{exact_bytes}
use Rattle.mr_base.specs.declared.spans.Pair.{Pair}
use Rattle.row_locality.specs.Pairs.{KeyValue, bytes_cmp, key_value}
use Rattle.sql_eval.specs.OwnWrites.{patched_pairs}
use Rattle.planner.specs.Putting.{with_written}

-- a value of a key is put where a pair of the key stands
pub put_same : (key v : List ℕ) (pairs : List Pair) (i : ℕ) (d : Pair) → i < length pairs → is_eq (bytes_cmp key (get_or pairs i d).key) ≡ true
    → put bytes_cmp key v (map key_value (drop i pairs)) ≡ (key, v) ∷ map key_value (drop (i + 1) pairs)
put_same key v pairs i d h e =
    let p = get_or pairs i d in
    let rest = map key_value (drop (i + 1) pairs) in
    let tied = (Equal-is (bytes_cmp key p.key)).0 e in
    at_drop_more (λ l. put bytes_cmp key v (map key_value l)) pairs i d h
    ∙ ap (λ o. by_order o ((key, v) ∷ key_value p ∷ rest) ((p.key, v) ∷ rest) (key_value p ∷ put bytes_cmp key v rest)) tied
    ∙ ap (λ (k : List ℕ). (k, v) ∷ rest) (sym (exact_bytes key p.key tied))

-- a pair in another's place
pub set_there : (key v : List ℕ) (pairs : List Pair) (i : ℕ) → i < length pairs
    → put bytes_cmp key v (map key_value pairs) ≡ map key_value (take i pairs) ++ (key, v) ∷ map key_value (drop (i + 1) pairs)
    → map key_value (slice_set pairs i (record { key = key; value = v })) ≡ put bytes_cmp key v (map key_value pairs)
set_there key v pairs i h e =
    ap (map key_value) (set_split pairs i (record { key = key; value = v }) h)
    ∙ map-append key_value (take i pairs) (record { key = key; value = v } ∷ drop (suc i) pairs)
    ∙ ap (λ (n : ℕ). map key_value (take i pairs) ++ (key, v) ∷ map key_value (drop n pairs)) (let more : suc i ≡ i + 1 = omega (arith) in more)
    ∙ sym e

-- the pairs whose keys pass a test
pub kept_pairs : (test : List ℕ → Bool) (pairs : List Pair) → map key_value (filter (λ p. test p.key) pairs) ≡ where_key bytes_cmp test (map key_value pairs)
kept_pairs test [] = refl
kept_pairs test (p ∷ pairs) = elim (test p.key) as (λ b. map key_value (cond b (p ∷ filter (λ q. test q.key) pairs) (filter (λ q. test q.key) pairs))
    ≡ cond b (key_value p ∷ where_key bytes_cmp test (map key_value pairs)) (where_key bytes_cmp test (map key_value pairs))) [
      | true ↦ ap (λ l. key_value p ∷ l) (kept_pairs test pairs)
      | false ↦ kept_pairs test pairs
    ]

-- pairs without the keys that were written, and then what was written
pub patched_by : (written : List (List ℕ × Option (List ℕ))) (rows kept : List Pair) (pairs : List KeyValue) → kept ≡ filter (λ p. is_none (find bytes_cmp p.key written)) rows
    → pairs ≡ with_written written (map key_value kept) → pairs ≡ patched_pairs written (map key_value rows)
patched_by written rows kept pairs e f =
    f ∙ ap (with_written written) (ap (map key_value) e ∙ kept_pairs (λ key. is_none (find bytes_cmp key written)) rows)
