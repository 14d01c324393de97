-- Why a run ends, as what was taken grows.
use Rattle.std.proofs.Common.{◌≡◌, ◌≢◌, ℕ, ◌+◌, List, [], ◌∷◌, ◌++◌, Option, refl, ap, sym, ◌∙◌, append_assoc, append-nil, arith, inl, inr, subst, take, drop, length, length-append, length-drop, get_or, ◌<◌, ◌≤◌, take-append-drop, take-suc, add-one, false}
use Rattle.std.specs.Prelude.{◌==◌, IfErr, Result, Ok, Err}
use Rattle.std.proofs.lemmas.List.{drop_more}
use Rattle.std.specs.Io.KnownBytes.{prepend_known, IsAtEnd}
use Rattle.mr_io.proofs.Told.{prepend_known-nil, prepend_known-prepend}
use Rattle.mr_shell.specs.Content.{AreLines, AreTakenBefore, AreTakenFor, EndWithPiece, IsContent, IsCut, IsWithinLimit, StopWithPiece, with_last}
use Rattle.mr_shell.specs.Ends.{EndsLines}
use Rattle.mr_shell.specs.Pieces.{HasTaken, Stops, StopsInside, StopsWithin}
use Rattle.mr_shell.specs.declared.outcome.End.{End}
use Rattle.mr_shell.specs.declared.outcome.End.TheVariants as ends
use Rattle.mr_shell.proofs.ContentLemmas.{all_with_last, cut_ended, cut_more, lines_more}

-- a line's end was taken, and the line was run
pub taken_line : {R : Type 0} (HasRun : List (List ℕ) → R → Option (List ℕ) → Type 0) (taken : List ℕ) (lines : List (List ℕ)) (b : ℕ) (raw pending line after : List ℕ) (runner : R) (written : Option (List ℕ)) → b ≡ 10 → raw ≡ pending → after ≡ [] → IsContent raw line → IsCut taken lines pending → HasRun (line ∷ lines) runner written → HasTaken HasRun (taken ++ b ∷ []) runner after written
taken_line HasRun taken lines b raw pending line after runner written is same none content cut run =
    rw (is, none) record { lines = line ∷ lines; cut = cut_ended (taken ++ 10 ∷ []) (line ∷ lines) (lines_more taken lines pending line (subst (λ (l : List ℕ). IsContent l line) same content) cut); run = run }

-- memory ran out within a line
pub within_short : {R : Type 0} (HasRun : List (List ℕ) → R → Option (List ℕ) → Type 0) (StopsAt : End → List ℕ → List (List ℕ) → R → Option (List ℕ) → Type 0) (taken : List ℕ) (runner : R) (pending : List ℕ) (written : Option (List ℕ)) (b : ℕ) → b ≢ 10 → HasTaken HasRun taken runner pending written → StopsWithin HasRun StopsAt ends.Memory (taken ++ b ∷ []) 1 runner written
within_short HasRun StopsAt taken runner pending written b other h =
    record {
      front = taken ++ b ∷ [];
      ahead = [];
      whole = sym (append-nil (taken ++ b ∷ []));
      piece = omega arith;
      stops = inr (refl, h.lines, pending ++ b ∷ [], cut_more taken h.lines pending b other h.cut, h.run);
    }

-- a line whose end was taken ended the run
pub within_line : {R : Type 0} (HasRun : List (List ℕ) → R → Option (List ℕ) → Type 0) (StopsAt : End → List ℕ → List (List ℕ) → R → Option (List ℕ) → Type 0) (end : End) (taken : List ℕ) (lines : List (List ℕ)) (b : ℕ) (raw pending line : List ℕ) (runner : R) (written : Option (List ℕ)) → b ≡ 10 → raw ≡ pending → IsContent raw line → IsCut taken lines pending → StopsAt end line lines runner written → StopsWithin HasRun StopsAt end (taken ++ b ∷ []) 1 runner written
within_line HasRun StopsAt end taken lines b raw pending line runner written is same content cut stops =
    rw is
    (record {
      front = taken ++ 10 ∷ [];
      ahead = [];
      whole = sym (append-nil (taken ++ 10 ∷ []));
      piece = omega arith;
      stops = inl (line, lines, lines_more taken lines pending line (subst (λ (l : List ℕ). IsContent l line) same content) cut, stops);
    })

-- more bytes were taken with those that were run
within_more : {R : Type 0} (HasRun : List (List ℕ) → R → Option (List ℕ) → Type 0) (StopsAt : End → List ℕ → List (List ℕ) → R → Option (List ℕ) → Type 0) (end : End) (taken more : List ℕ) (many all : ℕ) (runner : R) (written : Option (List ℕ)) → many + length more ≤ all → StopsWithin HasRun StopsAt end taken many runner written → StopsWithin HasRun StopsAt end (taken ++ more) all runner written
within_more HasRun StopsAt end taken more many all runner written fits h =
    record {
      front = h.front;
      ahead = h.ahead ++ more;
      whole = ap (λ (l : List ℕ). l ++ more) h.whole ∙ append_assoc h.front h.ahead more;
      piece = omega (arith, fits, h.piece, length-append h.ahead more);
      stops = h.stops;
    }

-- the lines before one whose end came with the last piece
pub shorter : (taken : List ℕ) (text : List ℕ) (lines : List (List ℕ)) → EndWithPiece taken (text ∷ lines) → StopWithPiece taken lines
shorter taken text lines h =
    let e = h.ended in
    record {
      front = e.0 ++ e.1;
      rest = e.1;
      ahead = 10 ∷ h.ahead;
      cut = record { front = e.0; ended = e.2; within = e.3; whole = refl };
      whole = h.whole ∙ (ap (λ (l : List ℕ). l ++ h.ahead) e.5 ∙ (append_assoc e.0 (e.1 ++ 10 ∷ []) h.ahead ∙ (ap (λ (l : List ℕ). e.0 ++ l) (append_assoc e.1 (10 ∷ []) h.ahead) ∙ sym (append_assoc e.0 e.1 (10 ∷ h.ahead)))));
      piece = omega (arith, h.piece);
    }

shorter_all : (taken : List ℕ) (text : List ℕ) (lines ended : List (List ℕ)) (rest : List ℕ) → text ∷ lines ≡ with_last rest ended → IsCut taken ended rest → StopWithPiece taken lines
shorter_all taken text lines ended [] e cut =
    let whole = subst (λ (ls : List (List ℕ)). AreLines cut.front ls) (sym e) cut.ended in
    shorter taken text lines (record { front = cut.front; ahead = []; ended = whole; whole = cut.whole; piece = omega arith })
shorter_all taken text lines ended (b ∷ bs) e cut =
    let same : ended ≡ lines = cc in
    record { front = taken; rest = b ∷ bs; ahead = []; cut = subst (λ (ls : List (List ℕ)). IsCut taken ls (b ∷ bs)) same cut; whole = sym (append-nil taken); piece = omega arith }

pub taken_before : (taken : List ℕ) (left : Option (List ℕ)) (text : List ℕ) (lines : List (List ℕ)) → AreTakenFor taken left (text ∷ lines) → AreTakenBefore taken left lines
taken_before taken left text lines (inl h) = inl (shorter taken text lines h)
taken_before taken left text lines (inr h) = inl (shorter_all taken text lines h.ended h.rest h.last h.cut)

-- a run that ends within its lines
pub stops_inside : {R : Type 0} (HasRun : List (List ℕ) → R → Option (List ℕ) → Type 0) (StopsAt : End → List ℕ → List (List ℕ) → R → Option (List ℕ) → Type 0) (end : End) (taken : List ℕ) (left : Option (List ℕ)) (runner : R) (written : Option (List ℕ)) → EndsLines end → StopsInside HasRun StopsAt end taken left runner written → Stops HasRun StopsAt end taken left runner written
stops_inside HasRun StopsAt (ends.Fault fault number) taken left runner written is h = h
stops_inside HasRun StopsAt ends.Memory taken left runner written is h = h
stops_inside HasRun StopsAt ends.Write taken left runner written is h = h
stops_inside HasRun StopsAt ends.Whole taken left runner written is h = absurd is
stops_inside HasRun StopsAt ends.Usage taken left runner written is h = absurd is
stops_inside HasRun StopsAt ends.Read taken left runner written is h = absurd is
stops_inside HasRun StopsAt ends.Size taken left runner written is h = absurd is

pub stops_within : {R : Type 0} (HasRun : List (List ℕ) → R → Option (List ℕ) → Type 0) (StopsAt : End → List ℕ → List (List ℕ) → R → Option (List ℕ) → Type 0) (end : End) (taken : List ℕ) (left : Option (List ℕ)) (many : ℕ) (runner : R) (written : Option (List ℕ)) → EndsLines end → IsWithinLimit taken → many ≤ 65536 → StopsWithin HasRun StopsAt end taken many runner written → Stops HasRun StopsAt end taken left runner written
stops_within HasRun StopsAt end taken left many runner written is within fits h =
    let piece : StopsWithin HasRun StopsAt end taken 65536 runner written =
    record { front = h.front; ahead = h.ahead; whole = h.whole; piece = omega (arith, fits, h.piece); stops = h.stops } in
    stops_inside HasRun StopsAt end taken left runner written is (within, inl piece)

-- the source has ended
pub whole_with_last : {R : Type 0} (HasRun : List (List ℕ) → R → Option (List ℕ) → Type 0) (StopsAt : End → List ℕ → List (List ℕ) → R → Option (List ℕ) → Type 0) (taken : List ℕ) (lines : List (List ℕ)) (left : Option (List ℕ)) (runner : R) (pending : List ℕ) (written : Option (List ℕ)) → IsCut taken lines pending → IsAtEnd left → IsWithinLimit taken → pending ≢ [] → HasRun (pending ∷ lines) runner written → Stops HasRun StopsAt ends.Whole taken left runner written
whole_with_last HasRun StopsAt taken lines left runner pending written cut at_end within some run =
    (pending ∷ lines, all_with_last taken left lines pending some cut at_end, within, run)

pub stops_last : {R : Type 0} (HasRun : List (List ℕ) → R → Option (List ℕ) → Type 0) (StopsAt : End → List ℕ → List (List ℕ) → R → Option (List ℕ) → Type 0) (end : End) (taken : List ℕ) (lines : List (List ℕ)) (left : Option (List ℕ)) (pending : List ℕ) (runner : R) (written : Option (List ℕ)) → EndsLines end → IsCut taken lines pending → IsAtEnd left → IsWithinLimit taken → pending ≢ [] → StopsAt end pending lines runner written → Stops HasRun StopsAt end taken left runner written
stops_last HasRun StopsAt end taken lines left pending runner written is cut at_end within some h =
    stops_inside HasRun StopsAt end taken left runner written is (within, inr (pending, lines, all_with_last taken left lines pending some cut at_end, h))

-- bytes that some are
pub not_empty : (xs : List ℕ) → (length xs == 0) ≡ false → xs ≢ []
not_empty [] e h = cc
not_empty (x ∷ xs) e h = cc

-- a piece, up to one of its bytes, and what follows that
piece_split : (taken piece : List ℕ) (i : ℕ) → i < length piece → ((taken ++ take i piece) ++ get_or piece i 0 ∷ []) ++ drop (i + 1) piece ≡ taken ++ piece
piece_split taken piece i h =
    append_assoc (taken ++ take i piece) (get_or piece i 0 ∷ []) (drop (i + 1) piece) ∙ (append_assoc taken (take i piece) (get_or piece i 0 ∷ drop (i + 1) piece)
    ∙ ap (λ (l : List ℕ). taken ++ l) (ap (λ (l : List ℕ). take i piece ++ l) (sym (drop_more piece i 0 h)) ∙ take-append-drop i piece))

pub within_piece : {R : Type 0} (HasRun : List (List ℕ) → R → Option (List ℕ) → Type 0) (StopsAt : End → List ℕ → List (List ℕ) → R → Option (List ℕ) → Type 0) (end : End) (taken piece : List ℕ) (i : ℕ) (runner : R) (written : Option (List ℕ)) → i < length piece → StopsWithin HasRun StopsAt end ((taken ++ take i piece) ++ get_or piece i 0 ∷ []) 1 runner written → StopsWithin HasRun StopsAt end (taken ++ piece) (length piece) runner written
within_piece HasRun StopsAt end taken piece i runner written h s =
    let fits : 1 + length (drop (i + 1) piece) ≤ length piece = omega (arith, h, length-drop (i + 1) piece) in
    subst (λ (l : List ℕ). StopsWithin HasRun StopsAt end l (length piece) runner written) (piece_split taken piece i h)
    (within_more HasRun StopsAt end ((taken ++ take i piece) ++ get_or piece i 0 ∷ []) (drop (i + 1) piece) 1 (length piece) runner written fits s)

pub taken_byte : {R : Type 0} (HasRun : List (List ℕ) → R → Option (List ℕ) → Type 0) (taken piece : List ℕ) (i : ℕ) (runner : R) (pending : List ℕ) (written : Option (List ℕ)) → i < length piece → HasTaken HasRun ((taken ++ take i piece) ++ get_or piece i 0 ∷ []) runner pending written → HasTaken HasRun (taken ++ take (i + 1) piece) runner pending written
taken_byte HasRun taken piece i runner pending written h s =
    let e : (taken ++ take i piece) ++ get_or piece i 0 ∷ [] ≡ taken ++ take (i + 1) piece =
    append_assoc taken (take i piece) (get_or piece i 0 ∷ []) ∙ ap (λ (l : List ℕ). taken ++ l) (sym (take-suc piece i 0 h) ∙ ap (λ (n : ℕ). take n piece) (sym (add-one i))) in
    subst (λ (l : List ℕ). HasTaken HasRun l runner pending written) e s

-- nothing was taken yet
pub nothing_taken : {R : Type 0} (HasRun : List (List ℕ) → R → Option (List ℕ) → Type 0) (runner : R) (pending : List ℕ) (written : Option (List ℕ)) → pending ≡ [] → HasRun [] runner written → HasTaken HasRun [] runner pending written
nothing_taken HasRun runner pending written none run =
    rw none record { lines = []; cut = cut_ended [] [] refl; run = run }

-- two things known of an error
pub IfErr-both : {T E : Type 0} (r : Result T E) (P Q W : E → Type 0) → ((e : E) → P e → Q e → W e) → IfErr r P → IfErr r Q → IfErr r W
IfErr-both (Ok x) P Q W f p q = p
IfErr-both (Err e) P Q W f p q = f e p q

-- what a source has given, piece after piece
pub told_more : (old mid new : Option (List ℕ)) (xs ys : List ℕ) → old ≡ prepend_known xs mid → mid ≡ prepend_known ys new → old ≡ prepend_known (xs ++ ys) new
told_more old mid new xs ys h k = h ∙ (ap (prepend_known xs) k ∙ prepend_known-prepend new xs ys)

pub told_none : (mid new : Option (List ℕ)) (n : ℕ) (xs : List ℕ) → n ≡ 0 → mid ≡ prepend_known (take n xs) new → mid ≡ new
told_none mid new n xs none h = h ∙ (ap (λ (k : ℕ). prepend_known (take k xs) new) none ∙ sym (prepend_known-nil new))

-- one byte more than the largest scenario was taken
pub stops_size : {R : Type 0} (HasRun : List (List ℕ) → R → Option (List ℕ) → Type 0) (StopsAt : End → List ℕ → List (List ℕ) → R → Option (List ℕ) → Type 0) (bytes buffer : List ℕ) (count : ℕ) (left : Option (List ℕ)) (runner : R) (pending : List ℕ) (written : Option (List ℕ)) → count ≡ 1 → 0 < length buffer → length bytes ≡ 16777216 → HasTaken HasRun bytes runner pending written → Stops HasRun StopsAt ends.Size (bytes ++ take count buffer) left runner written
stops_size HasRun StopsAt bytes buffer count left runner pending written one some large h =
    let e : bytes ++ take count buffer ≡ bytes ++ get_or buffer 0 0 ∷ [] = ap (λ (n : ℕ). bytes ++ take n buffer) one ∙ ap (λ (l : List ℕ). bytes ++ l) (take-suc buffer 0 0 some) in
    (h.lines, bytes, pending, get_or buffer 0 0, e, large, h.cut, h.run)
