-- Texts that are written piece by piece.
use Rattle.std.proofs.Common.{◌≡◌, ℕ, zero, suc, ◌+◌, ◌-◌, ◌<◌, ◌≤◌, List, ◌++◌, take, length, Option, ap, sym, ◌∙◌, subst, arith, append_assoc, length-append}
use Rattle.std.proofs.Math.Seq.{take-append-add, take-length}
use Rattle.std.proofs.lemmas.List.{take-append-le}
use Rattle.std.specs.Io.KnownBytes.{append_known}
use Rattle.rand_pcg.specs.Lcg.{Lcg}
use Rattle.mr_io.specs.Pieces.{WrotePrefix}
use Rattle.mr_io.proofs.Told.{append_known-append}
use Rattle.workload.specs.Generated.{transaction_text, transactions_text, words_after}
use Rattle.workload.specs.Draws.{behind, drawn}

-- a text of which the rest is left
prefix_left : (old new : Option (List ℕ)) (xs ys : List ℕ) → new ≡ append_known old xs → 0 < length ys → WrotePrefix old new (xs ++ ys)
prefix_left old new xs ys is some = (
  length xs,
  omega (arith, some, length-append xs ys),
  is ∙ ap (append_known old) (sym (take-append-le (length xs) xs ys (omega arith) ∙ take-length xs)),
)

-- a first part of a text is one of a longer text too
pub prefix_front : (old new : Option (List ℕ)) (xs ys : List ℕ) → WrotePrefix old new xs → WrotePrefix old new (xs ++ ys)
prefix_front old new xs ys h =
    (h.0, omega (arith, h.1, length-append xs ys), h.2 ∙ ap (append_known old) (sym (take-append-le h.0 xs ys (omega (arith, h.1)))))

-- a first part of a text behind another text
pub prefix_behind : (old mid new : Option (List ℕ)) (xs ys : List ℕ) → mid ≡ append_known old xs → WrotePrefix mid new ys → WrotePrefix old new (xs ++ ys)
prefix_behind old mid new xs ys is h = (
  length xs + h.0,
  omega (arith, h.1, length-append xs ys),
  h.2 ∙ (ap (λ (o : Option (List ℕ)). append_known o (take h.0 ys)) is
      ∙ (append_known-append old xs (take h.0 ys) ∙ ap (append_known old) (sym (take-append-add xs ys h.0)))),
)

-- one more transaction
pub words_more : (seed done next : ℕ) (words new : Lcg) → next ≡ suc done → words ≡ words_after done seed → new ≡ behind words → new ≡ words_after next seed
unfolding words_after
words_more seed done next words new follows is moved = rw follows (moved ∙ ap behind is)

text_more : (seed done next : ℕ) (words : Lcg) (lines : List ℕ) → next ≡ suc done → words ≡ words_after done seed → lines ≡ transaction_text (drawn next words) → transactions_text done seed ++ lines ≡ transactions_text next seed
unfolding transactions_text
text_more seed done next words lines follows is are =
    ap (λ (l : List ℕ). transactions_text done seed ++ l) (are ∙ (ap (λ (n : ℕ). transaction_text (drawn n words)) follows ∙ ap (λ (g : Lcg). transaction_text (drawn (suc done) g)) is))
    ∙ ap (λ (n : ℕ). transactions_text n seed) (sym follows)

pub added_more : (seed done next : ℕ) (words : Lcg) (old held lines : List ℕ) → next ≡ suc done → words ≡ words_after done seed → held ≡ old ++ transactions_text done seed → lines ≡ transaction_text (drawn next words) → held ++ lines ≡ old ++ transactions_text next seed
added_more seed done next words old held lines follows is h are =
    ap (λ (l : List ℕ). l ++ lines) h ∙ (append_assoc old (transactions_text done seed) lines ∙ ap (λ (l : List ℕ). old ++ l) (text_more seed done next words lines follows is are))

pub written_more : (seed done next : ℕ) (words : Lcg) (old held new : Option (List ℕ)) (lines : List ℕ) → next ≡ suc done → words ≡ words_after done seed → held ≡ append_known old (transactions_text done seed) → lines ≡ transaction_text (drawn next words) → new ≡ append_known held lines → new ≡ append_known old (transactions_text next seed)
written_more seed done next words old held new lines follows is h are wrote =
    wrote ∙ (ap (λ (o : Option (List ℕ)). append_known o lines) h ∙ (append_known-append old (transactions_text done seed) lines ∙ ap (append_known old) (text_more seed done next words lines follows is are)))

-- a first part of the first transactions is one of more transactions too
prefix_more : (old new : Option (List ℕ)) (seed done more size : ℕ) → more + done ≡ size → WrotePrefix old new (transactions_text done seed) → WrotePrefix old new (transactions_text size seed)
unfolding transactions_text
prefix_more old new seed done zero size is h =
    let same : done ≡ size = omega (arith, is) in subst (λ (n : ℕ). WrotePrefix old new (transactions_text n seed)) same h
prefix_more old new seed done (suc more) zero is h = absurd (omega (arith, is))
prefix_more old new seed done (suc more) (suc size) is h =
    prefix_front old new (transactions_text size seed) (transaction_text (drawn (suc size) (words_after size seed))) (prefix_more old new seed done more size (omega (arith, is)) h)

prefix_of_all : (old new : Option (List ℕ)) (seed done size : ℕ) → done ≤ size → WrotePrefix old new (transactions_text done seed) → WrotePrefix old new (transactions_text size seed)
prefix_of_all old new seed done size within h = prefix_more old new seed done (size - done) size (omega (arith, within)) h

-- a part of one more transaction was written
pub prefix_in_next : (seed done next size : ℕ) (words : Lcg) (old held new : Option (List ℕ)) (lines : List ℕ) → next ≡ suc done → done < size → words ≡ words_after done seed → held ≡ append_known old (transactions_text done seed) → lines ≡ transaction_text (drawn next words) → WrotePrefix held new lines → WrotePrefix old new (transactions_text size seed)
prefix_in_next seed done next size words old held new lines follows within is h are part =
    prefix_of_all old new seed next size (omega (arith, within, follows))
    (subst (WrotePrefix old new) (text_more seed done next words lines follows is are) (prefix_behind old held new (transactions_text done seed) lines h part))

-- the transactions behind some of them are left
pub prefix_before_next : (old held : Option (List ℕ)) (seed done size : ℕ) → done < size → held ≡ append_known old (transactions_text done seed) → WrotePrefix old held (transactions_text size seed)
unfolding transactions_text
prefix_before_next old held seed done size within h =
    prefix_of_all old held seed (suc done) size within
    (prefix_left old held (transactions_text done seed) (transaction_text (drawn (suc done) (words_after done seed))) h (omega arith))
