-- Where a form can be read from the left by one token at a time.
use Rattle.std.proofs.Common.{◌≡◌, ◌⊎◌, ℕ, Bool, true, false, cond, ◌||◌, ◌&&◌, List, [], ◌∷◌, ◌++◌, Some, None, refl, sym, ap, ◌∙◌, inl, inr, nat_eq}
use Rattle.std.specs.Prelude.{is_some}
use Rattle.std.proofs.lemmas.Bool.{eqb-true}
use Rattle.region_sql.specs.declared.tokens.Token.{Token}
use Rattle.region_sql.specs.Tokens.{kind_of}
use Rattle.region_sql.specs.Forms.{Form, one, as_value, both, either, maybe, listed, ended, Fits}
use Rattle.region_sql.specs.Reading.{has, begins, first}
use Rattle.region_sql.proofs.Plain.{or-right, or-false, begins-kinds, begins-tokens}

abbrev pub nullable : {A : Type 0} → Form A → Bool
nullable (one kinds take) = false
nullable (as_value f h) = nullable f
nullable (both f g h) = nullable f && nullable g
nullable (either f g) = nullable f || nullable g
nullable (maybe f) = true
nullable (listed kind f) = nullable f
nullable (ended kind f) = nullable f

-- The kinds of tokens that a whole form may go on with.
abbrev pub hungry : {A : Type 0} → Form A → List ℕ
hungry (one kinds take) = []
hungry (as_value f h) = hungry f
hungry (both f g h) = hungry g ++ cond (nullable g) (hungry f) []
hungry (either f g) = hungry f ++ hungry g
hungry (maybe f) = first f ++ hungry f
hungry (listed kind f) = kind ∷ hungry f
hungry (ended kind f) = kind ∷ (first f ++ hungry f)

-- Whether two lists have a number in common.
abbrev pub meets : List ℕ → List ℕ → Bool
meets [] ys = false
meets (x ∷ xs) ys = has ys x || meets xs ys

pub apart : (xs ys : List ℕ) (k : ℕ) → meets xs ys ≡ false → has ys k ≡ true → has xs k ≡ false
apart [] ys k m h = refl
apart (x ∷ xs) ys k m h =
    let parts = or-false (has ys x) (meets xs ys) m in
    elim (nat_eq x k) as (λ b. (nat_eq x k ≡ b) → (b || has xs k) ≡ false) [
      | true ↦ λ e. absurd (let same : x ≡ k = eqb-true x k e in let there : has ys x ≡ true = rw same h in cc)
      | false ↦ λ e. apart xs ys k parts.1 h
    ] refl

pub apart-begins : (xs ys : List ℕ) (ts : List Token) → meets xs ys ≡ false → begins ys ts ≡ true → begins xs ts ≡ false
apart-begins xs ys [] m h = refl
apart-begins xs ys (t ∷ ts) m h = apart xs ys (kind_of t) m h

-- A form that one token tells how to go on.
abbrev pub Good : {A : Type 0} → Form A → Type 0
Good (one kinds take) = (t : Token) → is_some (take t) ≡ has kinds (kind_of t)
Good (as_value f h) = Good f
Good (both f g h) = Good f × Good g × (nullable f ≡ false) × (meets (hungry f) (first g) ≡ false)
Good (either f g) = Good f × Good g × (nullable f ≡ false) × (nullable g ≡ false) × (meets (first f) (first g) ≡ false)
Good (maybe f) = Good f × (nullable f ≡ false)
Good (listed kind f) = Good f × (nullable f ≡ false) × (has (hungry f) kind ≡ false)
Good (ended kind f) = Good f × (nullable f ≡ false) × (has (hungry f) kind ≡ false)

-- A token list that fits begins so, or is empty.
abbrev pub Begins : {A : Type 0} → Form A → List Token → Type 0
Begins f ts = (begins (first f) ts ≡ true) ⊎ ((ts ≡ []) × (nullable f ≡ true))

pub really : {A : Type 0} (f : Form A) (ts : List Token) → nullable f ≡ false → Begins f ts → begins (first f) ts ≡ true
really f ts n b = elim b [ inl e ↦ e | inr e ↦ absurd (let no : true ≡ false = sym e.1 ∙ n in cc) ]

pub fits-begins : {A : Type 0} (f : Form A) (v : A) (ts : List Token) → Good f → Fits f v ts → Begins f ts
fits-begins (one kinds take) v ts good fit = inl (rw fit.1 (sym (good fit.0) ∙ ap is_some fit.2))
fits-begins (as_value f h) v ts good fit = fits-begins f fit.0 ts good fit.2
fits-begins (both f g h) v ts good fit =
    let a = really f fit.2 good.2 (fits-begins f fit.0 fit.2 good.0 fit.6) in
    inl (rw fit.5 (begins-tokens (first f) fit.2 fit.3 a))
fits-begins (either f g) v ts good fit =
    elim fit [
      | inl l ↦ inl (begins-kinds (first f) (first g) ts ∙ ap (λ b. b || begins (first g) ts) (really f ts good.2 (fits-begins f v ts good.0 l)))
      | inr r ↦ inl (begins-kinds (first f) (first g) ts ∙ or-right (begins (first f) ts) (begins (first g) ts) (really g ts good.3 (fits-begins g v ts good.1 r)))
    ]
fits-begins (maybe f) None ts good fit = inr (fit, refl)
fits-begins (maybe f) (Some a) ts good fit = inl (really f ts good.1 (fits-begins f a ts good.0 fit))
fits-begins (listed kind f) [] ts good fit = absurd fit
fits-begins (listed kind f) (v ∷ []) ts good fit = fits-begins f v ts good.0 fit
fits-begins (listed kind f) (v ∷ w ∷ vs) ts good fit =
    inl (rw fit.3 (begins-tokens (first f) fit.0 (fit.1 ∷ fit.2) (really f fit.0 good.1 (fits-begins f v fit.0 good.0 fit.5))))
fits-begins (ended kind f) [] ts good fit = absurd fit
fits-begins (ended kind f) (v ∷ []) ts good fit =
    elim fit [
      | inl l ↦ fits-begins f v ts good.0 l
      | inr r ↦ inl (rw r.2 (begins-tokens (first f) r.0 (r.1 ∷ []) (really f r.0 good.1 (fits-begins f v r.0 good.0 r.4))))
    ]
fits-begins (ended kind f) (v ∷ w ∷ vs) ts good fit =
    inl (rw fit.3 (begins-tokens (first f) fit.0 (fit.1 ∷ fit.2) (really f fit.0 good.1 (fits-begins f v fit.0 good.0 fit.5))))
