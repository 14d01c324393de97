-- Bytes are cut into lines in one way.
use Rattle.std.proofs.Common.{◌≡◌, ◌≢◌, ℕ, List, [], ◌∷◌, ◌++◌, Some, Bool, true, false, cond, refl, ap, sym, ◌∙◌, subst, append_assoc, append-nil, inl, inr, length, ◌≤◌, arith}
use Rattle.std.specs.Prelude.{All}
use Rattle.std.proofs.Math.Dec.{eqb}
use Rattle.std.proofs.lemmas.Bool.{ne_eqb}
use Rattle.std.proofs.lemmas.List.Elements.{All-head, All-tail}
use Rattle.mr_shell.specs.Content.{AreLines, IsContent, IsCut, IsWithinLine, with_last}
use Rattle.mr_shell.proofs.ContentLemmas.{AreFirstLines, BeginsWith, begins_more}

-- what stands before a line feed, without one carriage return at its end
abbrev content_of : List ℕ → List ℕ
content_of [] = []
content_of (b ∷ []) = cond (eqb b 13) [] (b ∷ [])
content_of (b ∷ c ∷ cs) = b ∷ content_of (c ∷ cs)

content_of-ended : (line : List ℕ) → content_of (line ++ 13 ∷ []) ≡ line
content_of-ended [] = refl
content_of-ended (b ∷ []) = refl
content_of-ended (b ∷ c ∷ cs) = ap (λ (l : List ℕ). b ∷ l) (content_of-ended (c ∷ cs))

content_of-other : (before : List ℕ) → ((front : List ℕ) → before ≢ front ++ 13 ∷ []) → content_of before ≡ before
content_of-other [] other = refl
content_of-other (b ∷ []) other = ap (λ (t : Bool). cond t [] (b ∷ [])) (ne_eqb b 13 (λ e. other [] (ap (λ (x : ℕ). x ∷ []) e)))
content_of-other (b ∷ c ∷ cs) other = ap (λ (l : List ℕ). b ∷ l) (content_of-other (c ∷ cs) (λ front e. other (b ∷ front) (ap (λ (l : List ℕ). b ∷ l) e)))

one_content : (before line : List ℕ) → IsContent before line → content_of before ≡ line
one_content before line (inl e) = ap content_of e ∙ content_of-ended line
one_content before line (inr h) = content_of-other before h.1 ∙ h.0

-- the lines so far, the newest first, and what has come of the next
record Scan : Type 0 where
  lines : List (List ℕ)
  begun : List ℕ

abbrev next : Bool → Scan → ℕ → Scan
next true s b = record { lines = content_of s.begun ∷ s.lines; begun = [] }
next false s b = record { lines = s.lines; begun = s.begun ++ b ∷ [] }

abbrev scan : List ℕ → Scan → Scan
scan [] s = s
scan (b ∷ bs) s = scan bs (next (eqb b 10) s b)

abbrev scanned : List (List ℕ) → List ℕ → Scan
scanned lines begun = record { lines = lines; begun = begun }

scan-append : (xs ys : List ℕ) (s : Scan) → scan (xs ++ ys) s ≡ scan ys (scan xs s)
scan-append [] ys s = refl
scan-append (x ∷ xs) ys s = scan-append xs ys (next (eqb x 10) s x)

scan-within : (xs : List ℕ) (lines : List (List ℕ)) (begun : List ℕ) → All IsWithinLine xs → scan xs (scanned lines begun) ≡ scanned lines (begun ++ xs)
scan-within [] lines begun h = ap (scanned lines) (sym (append-nil begun))
scan-within (x ∷ xs) lines begun h =
    ap (λ (t : Bool). scan xs (next t (scanned lines begun) x)) (ne_eqb x 10 (All-head IsWithinLine x xs h))
    ∙ (scan-within xs lines (begun ++ x ∷ []) (All-tail IsWithinLine x xs h) ∙ ap (scanned lines) (append_assoc begun (x ∷ []) xs))

scan-lines : (lines : List (List ℕ)) (bytes : List ℕ) → AreLines bytes lines → scan bytes (scanned [] []) ≡ scanned lines []
scan-lines [] bytes h = ap (λ (l : List ℕ). scan l (scanned [] [])) h
scan-lines (line ∷ lines) bytes h =
    let end : List ℕ = 10 ∷ [] in
    ap (λ (l : List ℕ). scan l (scanned [] [])) h.5
    ∙ (scan-append h.0 (h.1 ++ end) (scanned [] [])
    ∙ (ap (scan (h.1 ++ end)) (scan-lines lines h.0 h.2)
    ∙ (scan-append h.1 end (scanned lines [])
    ∙ (ap (scan end) (scan-within h.1 lines [] h.3) ∙ ap (λ (l : List ℕ). scanned (l ∷ lines) []) (one_content h.1 line h.4)))))

scan-cut : (bytes : List ℕ) (lines : List (List ℕ)) (rest : List ℕ) → IsCut bytes lines rest → scan bytes (scanned [] []) ≡ scanned lines rest
scan-cut bytes lines rest cut =
    ap (λ (l : List ℕ). scan l (scanned [] [])) cut.whole
    ∙ (scan-append cut.front rest (scanned [] []) ∙ (ap (scan rest) (scan-lines lines cut.front cut.ended) ∙ scan-within rest lines [] cut.within))

scan-grows : (xs : List ℕ) (s : Scan) → (later : List (List ℕ)) × ((scan xs s).lines ≡ later ++ s.lines)
scan-grows [] s = ([], refl)
scan-grows (x ∷ xs) s =
    elim (eqb x 10) as (λ t. (later : List (List ℕ)) × ((scan xs (next t s x)).lines ≡ later ++ s.lines)) [
      | true ↦ let r = scan-grows xs (next true s x) in (r.0 ++ content_of s.begun ∷ [], r.1 ∙ sym (append_assoc r.0 (content_of s.begun ∷ []) s.lines))
      | false ↦ scan-grows xs (next false s x)
    ]

one_cut : (bytes : List ℕ) (a b : List (List ℕ)) (r q : List ℕ) → IsCut bytes a r → IsCut bytes b q → (a ≡ b) × (r ≡ q)
one_cut bytes a b r q h k =
    let e : scanned a r ≡ scanned b q = sym (scan-cut bytes a r h) ∙ scan-cut bytes b q k in
    (ap (λ (s : Scan). s.lines) e, ap (λ (s : Scan). s.begun) e)

-- lines that bytes begin with are the oldest of all their lines
pub begins_first : (bytes : List ℕ) (lines all : List (List ℕ)) (rest : List ℕ) → BeginsWith bytes lines → IsCut bytes all rest → (later : List (List ℕ)) × (all ≡ later ++ lines)
begins_first bytes lines all rest h cut =
    let g = scan-grows h.beyond (scanned lines []) in
    let e : scan bytes (scanned [] []) ≡ scan h.beyond (scanned lines []) =
    ap (λ (l : List ℕ). scan l (scanned [] [])) h.whole ∙ (scan-append h.front h.beyond (scanned [] []) ∙ ap (scan h.beyond) (scan-lines lines h.front h.ended)) in
    (g.0, ap (λ (s : Scan). s.lines) (sym (scan-cut bytes all rest cut) ∙ e) ∙ g.1)

last_first : (rest : List ℕ) (lines all later : List (List ℕ)) → all ≡ later ++ lines → (more : List (List ℕ)) × (with_last rest all ≡ more ++ lines)
last_first [] lines all later e = (later, e)
last_first (b ∷ bs) lines all later e = ((b ∷ bs) ∷ later, ap (λ (l : List (List ℕ)). (b ∷ bs) ∷ l) e)

pub first_of_all : (taken left : List ℕ) (lines all : List (List ℕ)) (rest : List ℕ) → AreFirstLines taken (Some left) lines → IsCut (taken ++ left) all rest → (later : List (List ℕ)) × (with_last rest all ≡ later ++ lines)
first_of_all taken left lines all rest (inl h) cut =
    let p = begins_first (taken ++ left) lines all rest (begins_more taken left lines h) cut in
    last_first rest lines all p.0 p.1
first_of_all taken left lines all rest (inr h) cut =
    let whole : taken ++ left ≡ taken = ap (λ (l : List ℕ). taken ++ l) h.source ∙ append-nil taken in
    let same = one_cut taken all h.ended rest h.rest (subst (λ (l : List ℕ). IsCut l all rest) whole cut) h.cut in
    ([], ap (λ (r : List ℕ). with_last r all) same.1 ∙ (ap (with_last h.rest) same.0 ∙ sym h.last))

-- bytes that end within the first ones begin these
pub within_first : (taken left first beyond : List ℕ) → taken ++ left ≡ first ++ beyond → length taken ≤ length first → (more : List ℕ) × (first ≡ taken ++ more)
within_first [] left first beyond e h = (first, refl)
within_first (t ∷ taken) left [] beyond e h = absurd (omega (arith, h))
within_first (t ∷ taken) left (f ∷ first) beyond e h =
    let same : f ≡ t = cc in
    let rest : taken ++ left ≡ first ++ beyond = cc in
    let r = within_first taken left first beyond rest (omega (arith, h)) in
    (r.0, ap (λ (l : List ℕ). f ∷ l) r.1 ∙ ap (λ (x : ℕ). x ∷ (taken ++ r.0)) same)
