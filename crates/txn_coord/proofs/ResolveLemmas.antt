use Rattle.std.proofs.Common.{◌≡◌, ℕ, suc, ◌+◌, ◌<◌, List, [], ◌∷◌, ◌++◌, length, get_or, drop, true, ap, sym, ◌∙◌, add-one, append_assoc, eq-eqb}
use Rattle.std.proofs.Math.Seq.{drop-cons}
use Rattle.std.proofs.lemmas.List.Sums.{take_while-cons}
use Rattle.mr_base.specs.declared.ids.RangeId.{RangeId}
use Rattle.mr_base.specs.declared.spans.Write.{Write}
use Rattle.txn_coord.specs.Asking.{is_in, keys_in}

-- A write at the front that is in the range gives its key.
keys_in-cons : (range : RangeId) (w : Write) (ws : List Write) → is_in range w ≡ true → keys_in range (w ∷ ws) ≡ w.key ∷ keys_in range ws
keys_in-cons range w ws t = rw (take_while-cons (is_in range) w ws, t)

-- So does the write at an index, in front of those behind it.
pub keys_in_step : (range : RangeId) (ws : List Write) (i : ℕ) (w : Write) (keys whole : List (List ℕ)) → keys ++ keys_in range (drop i ws) ≡ whole → i < length ws → w ≡ get_or ws i w → w.range.0 ≡ range.0 → (keys ++ w.key ∷ []) ++ keys_in range (drop (i + 1) ws) ≡ whole
keys_in_step range ws i w keys whole inv h e t =
    let tail : drop i ws ≡ w ∷ drop (i + 1) ws = rw add-one (drop-cons ws i w h ∙ ap (λ x. x ∷ drop (suc i) ws) (sym e)) in
    let front : keys_in range (drop i ws) ≡ w.key ∷ keys_in range (drop (i + 1) ws) =
    rw tail (keys_in-cons range w (drop (i + 1) ws) (eq-eqb _ _ t)) in
    append_assoc keys (w.key ∷ []) (keys_in range (drop (i + 1) ws)) ∙ ap (λ x. keys ++ x) (sym front) ∙ inv
