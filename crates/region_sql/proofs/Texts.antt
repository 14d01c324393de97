-- From the tokens of a text to the text.
use Rattle.std.proofs.Common.{◌≡◌, ℕ, Bool, true, false, List, None, Ok, Err, sym, ap, ◌∙◌}
use Rattle.region_sql.specs.declared.tokens.Token.{Token}
use Rattle.region_sql.specs.Forms.{Form, Fits}
use Rattle.region_sql.specs.Lexing.{after_blanks, token_at, IsSplit, Lexes, Ends}
use Rattle.region_sql.specs.Reading.{whole}
use Rattle.region_sql.proofs.Good.{Good}
use Rattle.region_sql.proofs.Exact.{whole-fits, fits-whole}
use Rattle.region_sql.proofs.Lexes.{lexes-splits, one-split, ended-here}

-- The text is tokens that fit.
abbrev pub IsText : {A : Type 0} → Form A → List ℕ → A → Type 0
IsText f text v = (ts : List Token) × IsSplit text ts × Fits f v ts

pub is_text : {A : Type 0} (f : Form A) (total : ℕ) (text : List ℕ) (ts : List Token) (es rest : List ℕ) (b : Bool) (v : A)
    → Lexes total text ts es rest → Ends b rest → b ≡ true → whole f ts ≡ Ok v → IsText f text v
is_text f total text ts es rest true v lexes ends e read = (ts, (rest, lexes-splits total text ts es rest lexes, ends), whole-fits f ts v read)
is_text f total text ts es rest false v lexes ends e read = absurd cc

pub no-token : (b : Bool) (rest : List ℕ) → Ends b rest → token_at (after_blanks rest) ≡ None
no-token true rest ends = ended-here rest ends
no-token false rest ends = ends.1

pub no_text : {A : Type 0} (f : Form A) → Good f → (total : ℕ) (text : List ℕ) (ts : List Token) (es rest : List ℕ) (b : Bool) (k : ℕ)
    → Lexes total text ts es rest → Ends b rest → whole f ts ≡ Err k → (v : A) → IsText f text v → ⊥
no_text f good total text ts es rest b k lexes ends read v is =
    let same = one-split text ts is.0 rest is.1.0 (lexes-splits total text ts es rest lexes) is.1.1 (no-token b rest ends) (ended-here is.1.0 is.1.2) in
    let all : whole f is.0 ≡ Ok v = fits-whole f good is.0 v is.2 in
    let other : whole f ts ≡ Ok v = ap (λ (us : List Token). whole f us) same.0 ∙ all in
    let clash : Ok v ≡ Err k = sym other ∙ read in
    cc

pub cut_text : {A : Type 0} (f : Form A) → (total : ℕ) (text : List ℕ) (ts : List Token) (es rest : List ℕ) (b : Bool)
    → Lexes total text ts es rest → Ends b rest → b ≡ false → (v : A) → IsText f text v → ⊥
cut_text f total text ts es rest true lexes ends e v is = absurd cc
cut_text f total text ts es rest false lexes ends e v is =
    let same = one-split text ts is.0 rest is.1.0 (lexes-splits total text ts es rest lexes) is.1.1 ends.1 (ended-here is.1.0 is.1.2) in
    ends.0 (ap after_blanks same.1 ∙ is.1.2)

pub one_value : {A : Type 0} (f : Form A) → Good f → (text : List ℕ) (v w : A) → IsText f text v → IsText f text w → v ≡ w
one_value f good text v w a b =
    let same = one-split text a.0 b.0 a.1.0 b.1.0 a.1.1 b.1.1 (ended-here a.1.0 a.1.2) (ended-here b.1.0 b.1.2) in
    let left : whole f a.0 ≡ Ok v = fits-whole f good a.0 v a.2 in
    let right : whole f a.0 ≡ Ok w = ap (λ (us : List Token). whole f us) same.0 ∙ fits-whole f good b.0 w b.2 in
    let both : Ok v ≡ Ok w = sym left ∙ right in
    cc
