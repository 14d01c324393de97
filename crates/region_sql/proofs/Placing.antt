-- Where reading all of a text is stuck.
use Rattle.std.proofs.Common.{◌≡◌, ◌<◌, ◌+◌, ◌-◌, ℕ, suc, Bool, true, false, cond, List, [], ◌∷◌, ◌++◌, length, get_or, Some, None, Result, Ok, Err, refl, sym, ap, subst, ◌∙◌, nat_eq, append_assoc, arith}
use Rattle.std.proofs.lemmas.Bool.{eqb-true}
use Rattle.std.proofs.lemmas.List.{length-append, append-nil}
use Rattle.region_sql.specs.declared.tokens.Token.{Token}
use Rattle.region_sql.specs.Forms.{Form, one, as_value, both, either, maybe, listed, ended, Fits}
use Rattle.region_sql.specs.Lexing.{after_blanks, token_at, Splits, Lexes, Ends}
use Rattle.region_sql.specs.Places.{CanGoOn, IsPlace}
use Rattle.region_sql.specs.Reading.{◌>>=◌, first, parse, whole}
use Rattle.region_sql.proofs.Good.{nullable, Good, really, fits-begins}
use Rattle.region_sql.proofs.Exact.{sound, fits-whole, nonempty}
use Rattle.region_sql.proofs.Lexes.{lexes-splits, some_is}
use Rattle.region_sql.proofs.Outcomes.{Alike, Outcome, Sampled, example, one-outcome, value-outcome, both-outcome, either-outcome, maybe-outcome}
use Rattle.region_sql.proofs.ListOutcomes.{Takes, listed-outcome}
use Rattle.region_sql.proofs.EndOutcomes.{ended-outcome}
use Rattle.region_sql.proofs.Texts.{no-token}

shorter : {A : Type 0} (f : Form A) → Good f → nullable f ≡ false → (ts : List Token) (x : A × List Token) → parse f ts ≡ Ok x → length x.1 < length ts
shorter f good null ts x e =
    let t = sound f ts x e in
    let some = nonempty (first f) t.0 (really f t.0 null (fits-begins f x.0 t.0 good t.2)) in
    let size : length ts ≡ length t.0 + length x.1 = ap length t.1 ∙ length-append t.0 x.1 in
    omega arith

at-nothing : {A : Type 0} (f : Form A) → Good f → nullable f ≡ false → (o : Result (A × List Token) ℕ) → parse f [] ≡ o
    → Outcome (λ us. parse f us) (λ v us. Fits f v us) [] o → parse f [] ≡ Err 0
at-nothing f good null (Ok x) e p = absurd (let less = shorter f good null [] x e in omega arith)
at-nothing f good null (Err k) e p =
    let size : 0 ≡ length p.0 + length p.1 = ap length p.2 ∙ length-append p.0 p.1 in
    let none : k ≡ 0 = omega (arith, p.3) in
    e ∙ ap (λ n. Err n) none

takes : {A : Type 0} (f : Form A) → Good f → nullable f ≡ false → Outcome (λ us. parse f us) (λ v us. Fits f v us) [] (parse f []) → Takes (λ us. parse f us)
takes f good null p = (λ ts x e. shorter f good null ts x e, at-nothing f good null (parse f []) refl p)

pub outcome : {A : Type 0} (f : Form A) → Good f → Sampled f → (ts : List Token) → Outcome (λ us. parse f us) (λ v us. Fits f v us) ts (parse f ts)
outcome (one kinds take) good s ts = one-outcome kinds take (example (one kinds take) s) ts
outcome (as_value f h) good s ts = value-outcome (λ us. parse f us) (λ v us. Fits f v us) h ts (parse f ts) (outcome f good s ts)
outcome (both f g h) good s ts = both-outcome (λ us. parse f us) (λ us. parse g us) (λ v us. Fits f v us) (λ v us. Fits g v us) h (example g s.1) (λ us. outcome g good.1 s.1 us) ts (parse f ts) (outcome f good.0 s.0 ts)
outcome (either f g) good s ts = either-outcome (first f) (λ us. parse f us) (λ us. parse g us) (λ v us. Fits f v us) (λ v us. Fits g v us) (λ us. outcome f good.0 s.0 us) (λ us. outcome g good.1 s.1 us) ts
outcome (maybe f) good s ts = maybe-outcome (first f) (λ us. parse f us) (λ v us. Fits f v us) (λ us. outcome f good.0 s us) ts
outcome (listed kind f) good s ts = listed-outcome kind (λ us. parse f us) (λ v us. Fits f v us) (takes f good.0 good.1 (outcome f good.0 s [])) (λ us. outcome f good.0 s us) ts
outcome (ended kind f) good s ts = ended-outcome kind (first f) (λ us. parse f us) (λ v us. Fits f v us) (takes f good.0 good.1 (outcome f good.0 s [])) (λ us. outcome f good.0 s us) ts

-- ---- all of the tokens

abbrev Stops : {A : Type 0} → Form A → List Token → ℕ → Type 0
Stops f ts k = (front : List Token) × (back : List Token) × (ts ≡ front ++ back) × (length back ≡ k) × CanGoOn f front
    × ((t : Token) (more : List Token) → back ≡ t ∷ more → CanGoOn f (front ++ t ∷ []) → ⊥)

abbrev wholly : {A : Type 0} → Result (A × List Token) ℕ → Result A ℕ
wholly o = o >>= λ x. cond (nat_eq (length x.1) 0) (Ok x.0) (Err (length x.1))

no-more : {A : Type 0} (f : Form A) → Good f → (front : List Token) (t : Token) → ((ext : List Token) (v : A) → whole f (front ++ t ∷ ext) ≡ Ok v → ⊥) → CanGoOn f (front ++ t ∷ []) → ⊥
no-more f good front t not c =
    not c.0 c.1 (fits-whole f good (front ++ t ∷ c.0) c.1 (subst (λ (us : List Token). Fits f c.1 us) (append_assoc front (t ∷ []) c.0) c.2))

not-zero : (n : ℕ) → nat_eq (suc n) 0 ≡ false
not-zero n = elim (nat_eq (suc n) 0) as (λ b. nat_eq (suc n) 0 ≡ b → b ≡ false) [ true ↦ λ e. absurd (let z : suc n ≡ 0 = eqb-true (suc n) 0 e in omega arith) | false ↦ λ e. refl ] refl

left-over : {A : Type 0} (v : A) (t : Token) (ts : List Token) → wholly (Ok (v, t ∷ ts)) ≡ Err (suc (length ts))
left-over v t ts = ap (λ b. cond b (Ok v) (Err (suc (length ts)))) (not-zero (length ts))

abbrev failed : (A : Type 0) → ℕ → Result A ℕ
failed A k = Err k

err_is : (A : Type 0) (j k : ℕ) → failed A j ≡ failed A k → j ≡ k
err_is A j k e = cc

stops-after : {A : Type 0} (f : Form A) → Good f → (ts : List Token) (k : ℕ) (x : A × List Token) → wholly (Ok x) ≡ Err k → Outcome (λ us. parse f us) (λ v us. Fits f v us) ts (Ok x)
    → (rest : List Token) → x.1 ≡ rest → Stops f ts k
stops-after f good ts k x e p [] r = absurd (let all : wholly (Ok x) ≡ Ok x.0 = ap (λ (us : List Token). cond (nat_eq (length us) 0) (Ok x.0) (Err (length us))) r in let clash = sym all ∙ e in cc)
stops-after {A = A} f good ts k x e p (u ∷ us) r =
    let left : wholly (Ok x) ≡ Err (length x.1) = ap (λ (ws : List Token). wholly (Ok (x.0, ws))) r ∙ left-over x.0 u us ∙ ap (λ (ws : List Token). Err (length ws)) (sym r) in
    let same : length x.1 ≡ k = err_is A (length x.1) k (sym left ∙ e) in
    let never : (t : Token) (more : List Token) → x.1 ≡ t ∷ more → (ext : List Token) (v : A) → whole f (p.0 ++ t ∷ ext) ≡ Ok v → ⊥ = λ t more b ext v w.
    let al : Alike x.1 (t ∷ ext) = subst (λ (ws : List Token). Alike ws (t ∷ ext)) (sym b) refl in
    let clash : Ok v ≡ Err (suc (length ext)) = sym w ∙ ap wholly (p.3 (t ∷ ext) al) ∙ left-over x.0 t ext in
    cc in
    (p.0, x.1, p.1, same, ([], x.0, subst (λ (ws : List Token). Fits f x.0 ws) (sym (append-nil p.0)) p.2), λ t more b c. no-more f good p.0 t (never t more b) c)

stops : {A : Type 0} (f : Form A) → Good f → (ts : List Token) (k : ℕ) (o : Result (A × List Token) ℕ) → wholly o ≡ Err k → Outcome (λ us. parse f us) (λ v us. Fits f v us) ts o → Stops f ts k
stops {A = A} f good ts k (Err j) e p =
    let same : j ≡ k = err_is A j k e in
    let never : (t : Token) (more : List Token) → p.1 ≡ t ∷ more → (ext : List Token) (v : A) → whole f (p.0 ++ t ∷ ext) ≡ Ok v → ⊥ = λ t more b ext v w.
    let al : Alike p.1 (t ∷ ext) = subst (λ (us : List Token). Alike us (t ∷ ext)) (sym b) refl in
    let clash : Ok v ≡ Err (suc (length ext)) = sym w ∙ ap wholly (p.5 (t ∷ ext) al) in
    cc in
    (p.0, p.1, p.2, p.3 ∙ same, p.4, λ t more b c. no-more f good p.0 t (never t more b) c)
stops {A = A} f good ts k (Ok x) e p = stops-after f good ts k x e p x.1 refl

-- ---- texts

-- The tokens of a text in two parts.
run-split : (total start : ℕ) (text : List ℕ) (front back : List Token) (es rest : List ℕ) → Lexes total text (front ++ back) es rest → start + length text ≡ total
    → (mid : List ℕ) × Splits text front mid × Splits mid back rest × (get_or (start ∷ es) (length front) 0 + length mid ≡ total)
run-split total start text [] back es rest p h = (text, refl, lexes-splits total text back es rest p, h)
run-split total start text (t ∷ front) back [] rest p h = absurd p
run-split total start text (t ∷ front) back (e ∷ es) rest p h =
    let q = run-split total e p.0 front back es rest p.3 p.2 in
    (q.0, (p.0, p.1, q.1), q.2, q.3)

lexes-length : (total : ℕ) (text : List ℕ) (ts : List Token) (es rest : List ℕ) → Lexes total text ts es rest → length ts ≡ length es
lexes-length total text [] [] rest p = refl
lexes-length total text [] (e ∷ es) rest p = absurd p
lexes-length total text (t ∷ ts) [] rest p = absurd p
lexes-length total text (t ∷ ts) (e ∷ es) rest p = ap suc (lexes-length total p.0 ts es rest p.3)

next-is : (mid rest : List ℕ) (back : List Token) (b : Bool) → Ends b rest → Splits mid back rest → (t : Token) (after : List ℕ) → token_at (after_blanks mid) ≡ Some (t, after)
    → (more : List Token) × (back ≡ t ∷ more)
next-is mid rest [] b ends s t after h = absurd (let none = no-token b rest ends in let clash : Some (t, after) ≡ None = sym h ∙ ap (λ bs. token_at (after_blanks bs)) s ∙ none in cc)
next-is mid rest (u ∷ us) b ends s t after h =
    let same : (u, s.0) ≡ (t, after) = some_is (u, s.0) (t, after) (sym s.1 ∙ h) in
    (us, ap (λ (x : Token × List ℕ). x.0 ∷ us) same)

pub placed : {A : Type 0} (f : Form A) → Good f → Sampled f → (text : List ℕ) (ts : List Token) (es rest : List ℕ) (b : Bool) (k : ℕ)
    → Lexes (length text) text ts es rest → Ends b rest → whole f ts ≡ Err k → IsPlace f text (get_or (0 ∷ es) (length es - k) 0)
placed f good s text ts es rest b k lexes ends read =
    let st = stops f good ts k (parse f ts) read (outcome f good s ts) in
    let q = run-split (length text) 0 text st.0 st.1 es rest (subst (λ (us : List Token). Lexes (length text) text us es rest) st.2 lexes) (omega arith) in
    let all = lexes-length (length text) text ts es rest lexes in
    let size : length ts ≡ length st.0 + length st.1 = ap length st.2 ∙ length-append st.0 st.1 in
    let at : length st.0 ≡ length es - k = omega (arith, st.3) in (
      st.0,
      q.0,
      q.1,
      subst (λ (n : ℕ). get_or (0 ∷ es) n 0 + length q.0 ≡ length text) at q.3,
      st.4,
      λ t after h c. let n = next-is q.0 rest st.1 b ends q.2 t after h in st.5 t n.0 n.1 c,
    )

pub placed-cut : {A : Type 0} (f : Form A) → (text : List ℕ) (ts : List Token) (es rest : List ℕ) (b : Bool) (v : A)
    → Lexes (length text) text ts es rest → Ends b rest → b ≡ false → Fits f v ts → IsPlace f text (get_or (0 ∷ es) (length es - 0) 0)
placed-cut f text ts es rest b v lexes ends e fit =
    let q = run-split (length text) 0 text ts [] es rest (subst (λ (us : List Token). Lexes (length text) text us es rest) (sym (append-nil ts)) lexes) (omega arith) in
    let all = lexes-length (length text) text ts es rest lexes in
    let at : length ts ≡ length es - 0 = omega arith in (
      ts,
      q.0,
      q.1,
      subst (λ (n : ℕ). get_or (0 ∷ es) n 0 + length q.0 ≡ length text) at q.3,
      ([], v, subst (λ (us : List Token). Fits f v us) (sym (append-nil ts)) fit),
      λ t after h c. let n = next-is q.0 rest [] b ends q.2 t after h in let clash = n.1 in cc,
    )
