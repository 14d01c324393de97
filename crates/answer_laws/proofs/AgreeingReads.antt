-- What was fed is a part of what a database that agrees holds.
use Rattle.std.proofs.Common.{◌≡◌, ℕ, ◌<◌, Bool, true, false, cond, List, [], ◌∷◌, refl, sym, ap, ◌∙◌, subst, inl, inr, arith}
use Rattle.std.specs.Prelude.{◌⊎◌, ◌==◌, find, Option, Some}
use Rattle.std.specs.FinMap.Entries.{where_key}
use Rattle.std.proofs.lemmas.Bool.{and_parts, cases_order, eqb-true}
use Rattle.std.proofs.lemmas.List.Elements.{recursion_from_All}
use Rattle.mr_base.specs.Spans.{IsKeyBelow, InSpan, IsInside}
use Rattle.mr_base.specs.declared.ids.RangeId.{RangeId}
use Rattle.mr_base.specs.declared.script.Fed.{Fed}
use Rattle.mr_base.specs.declared.spans.Ask.{Ask}
use Rattle.mr_base.specs.declared.spans.Span.{Span}
use Rattle.row_locality.specs.Pairs.{KeyValue, bytes_cmp}
use Rattle.row_locality.specs.Plain.{Layout, PlainDatabase, range_pairs, IsValid}
use Rattle.row_locality.specs.Spans.{is_in, is_inside}
use Rattle.row_locality.proofs.PointLemmas.{is_in_decides, is_inside_decides}
use Rattle.sql_eval.specs.Agreement.{Agrees, AgreesOn}
use Rattle.sql_eval.specs.Evaluation.{ListOutcome, Setting, evaluation}
use Rattle.sql_eval.specs.Laws.{EvaluationIsExecuted, IsExecuted, IsSoundSetting}
use Rattle.sql_eval.specs.Reads.{Reads, IsPartOf, covers, rows_within, served_reads, stored_reads}
use Rattle.sql_eval.specs.Search.{Evaluation, gives, faults, needs}
use Rattle.answer_laws.proofs.Evaluations.{IsKept}
use Rattle.answer_laws.proofs.Members.{each_has, find_has}
use Rattle.answer_laws.proofs.MoreMembers.{mapped_some}
use Rattle.answer_laws.proofs.Statements.{evaluation_kept}

-- ---- spans inside spans

below_one : (x y z : ℕ) (A B C : Type 0) → (A → B → C) → ((x < y) ⊎ ((x ≡ y) × A)) → ((y < z) ⊎ ((y ≡ z) × B)) → (x < z) ⊎ ((x ≡ z) × C)
below_one x y z A B C f (inl h) (inl k) = inl (omega arith)
below_one x y z A B C f (inl h) (inr (e, k)) = inl (omega arith)
below_one x y z A B C f (inr (e, h)) (inl k) = inl (omega arith)
below_one x y z A B C f (inr (e, h)) (inr (g, k)) = inr (e ∙ g, f h k)

below_both : (x y z : List ℕ) → IsKeyBelow x y → IsKeyBelow y z → IsKeyBelow x z
below_both [] [] z h k = absurd h
below_both [] (b ∷ y) [] h k = absurd k
below_both [] (b ∷ y) (c ∷ z) h k = tt
below_both (a ∷ x) [] z h k = absurd h
below_both (a ∷ x) (b ∷ y) [] h k = absurd k
below_both (a ∷ x) (b ∷ y) (c ∷ z) h k = below_one a b c (IsKeyBelow x y) (IsKeyBelow y z) (IsKeyBelow x z) (below_both x y z) h k

-- a key that is below another is below a third, or the third is below the other
below_or_one : (a b c : ℕ) (A B C : Type 0) → (A → B ⊎ C) → ((a < b) ⊎ ((a ≡ b) × A)) → ((a < c) ⊎ ((a ≡ c) × B)) ⊎ ((c < b) ⊎ ((c ≡ b) × C))
below_or_one a b c A B C f (inl h) =
    elim (cases_order a c) [
      | inl e ↦ inr (inl (omega arith))
      | inr (inl k) ↦ inl (inl k)
      | inr (inr k) ↦ inr (inl (omega arith))
    ]
below_or_one a b c A B C f (inr (e, h)) =
    elim (cases_order a c) [
      | inl g ↦ below_or_tail (f h) g
      | inr (inl k) ↦ inl (inl k)
      | inr (inr k) ↦ inr (inl (omega arith))
    ]
  where
    below_or_tail : B ⊎ C → a ≡ c → ((a < c) ⊎ ((a ≡ c) × B)) ⊎ ((c < b) ⊎ ((c ≡ b) × C))
    below_or_tail (inl p) g = inl (inr (g, p))
    below_or_tail (inr p) g = inr (inr (sym g ∙ e, p))

below_or : (x y z : List ℕ) → IsKeyBelow x y → IsKeyBelow x z ⊎ IsKeyBelow z y
below_or [] [] z h = absurd h
below_or [] (b ∷ y) [] h = inr tt
below_or [] (b ∷ y) (c ∷ z) h = inl tt
below_or (a ∷ x) [] z h = absurd h
below_or (a ∷ x) (b ∷ y) [] h = inr tt
below_or (a ∷ x) (b ∷ y) (c ∷ z) h = below_or_one a b c (IsKeyBelow x y) (IsKeyBelow x z) (IsKeyBelow z y) (below_or x y z) h

above_lower : (key inner outer : List ℕ) → ¬ IsKeyBelow key inner → ¬ IsKeyBelow inner outer → ¬ IsKeyBelow key outer
above_lower key inner outer h k l =
    elim (below_or key outer inner l) [
      | inl p ↦ h p
      | inr p ↦ k p
    ]

below_upper : (key inner outer : List ℕ) → IsKeyBelow key inner → ¬ IsKeyBelow outer inner → IsKeyBelow key outer
below_upper key inner outer h k =
    elim (below_or key inner outer h) [
      | inl p ↦ p
      | inr p ↦ absurd (k p)
    ]

-- a key in a span is in each that holds the span
pub in_outer : (inner outer : Span) (key : List ℕ) → is_inside inner outer ≡ true → is_in inner key ≡ true → is_in outer key ≡ true
in_outer inner outer key e f =
    let i : IsInside inner outer = (is_inside_decides inner outer).0 e in
    let k : InSpan inner key = (is_in_decides inner key).0 f in
    (is_in_decides outer key).1 (above_lower key inner.lo outer.lo k.0 i.0, below_upper key inner.hi outer.hi k.1 i.1)

-- ---- narrower

kept_both : (p q : Bool) (e : KeyValue) (xs ys : List KeyValue) (test : List ℕ → Bool) → test e.0 ≡ p → (p ≡ true → q ≡ true) → where_key bytes_cmp test xs ≡ ys
    → where_key bytes_cmp test (cond q (e ∷ xs) xs) ≡ cond p (e ∷ ys) ys
kept_both true true e xs ys test f h g = ap (λ (b : Bool). cond b (e ∷ where_key bytes_cmp test xs) (where_key bytes_cmp test xs)) f ∙ ap (λ (zs : List KeyValue). e ∷ zs) g
kept_both true false e xs ys test f h g = absurd (cc (h refl))
kept_both false true e xs ys test f h g = ap (λ (b : Bool). cond b (e ∷ where_key bytes_cmp test xs) (where_key bytes_cmp test xs)) f ∙ g
kept_both false false e xs ys test f h g = g

-- of what a wider test keeps a narrower one keeps what it keeps of all
pub narrowed : (p q : List ℕ → Bool) → ((key : List ℕ) → p key ≡ true → q key ≡ true) → (xs : List KeyValue)
    → where_key bytes_cmp p (where_key bytes_cmp q xs) ≡ where_key bytes_cmp p xs
narrowed p q h [] = refl
narrowed p q h (e ∷ xs) = kept_both (p e.0) (q e.0) e (where_key bytes_cmp q xs) (where_key bytes_cmp p xs) p refl (h e.0) (narrowed p q h xs)

-- ---- what was fed

found_passes : (b : Bool) (y x : Fed) (p : Fed → Bool) (o : Option Fed) → p y ≡ b → (o ≡ Some x → p x ≡ true) → cond b (Some y) o ≡ Some x → p x ≡ true
found_passes true y x p o e h f = subst (λ z. p z ≡ true) (same_fed f) e
  where
    same_fed : {a c : Fed} → Some a ≡ Some c → a ≡ c
    same_fed g = cc
found_passes false y x p o e h f = h f

find_passes : (p : Fed → Bool) (xs : List Fed) (x : Fed) → find p xs ≡ Some x → p x ≡ true
find_passes p [] x e = absurd (cc)
find_passes p (y ∷ ys) x e = found_passes (p y) y x p (find p ys) refl (find_passes p ys x) e

same_value : {A : Type 0} {a b : A} → Some a ≡ Some b → a ≡ b
same_value g = cc

same_range : (a b : RangeId) → (a.0 == b.0) ≡ true → a ≡ b
same_range a b e = let number : ℕ → RangeId = λ n. record { 0 = n } in ap number (eqb-true a.0 b.0 e)

fed_rows : (l : Layout) (d : PlainDatabase) (ask : Ask) (x : Fed) → covers ask x ≡ true → AgreesOn l d x
    → where_key bytes_cmp (is_in ask.span) (range_pairs l d ask.range) ≡ rows_within ask x
fed_rows l d ask x c h =
    let both : ((ask.range.0 == x.ask.range.0) ≡ true) × (is_inside ask.span x.ask.span ≡ true) = and_parts (ask.range.0 == x.ask.range.0) (is_inside ask.span x.ask.span) c in
    ap (λ (r : RangeId). where_key bytes_cmp (is_in ask.span) (range_pairs l d r)) (same_range ask.range x.ask.range both.0)
    ∙ sym (narrowed (is_in ask.span) (is_in x.ask.span) (λ key k. in_outer ask.span x.ask.span key both.1 k) (range_pairs l d x.ask.range))
    ∙ ap (where_key bytes_cmp (is_in ask.span)) h

-- what was fed is a part of what a database that agrees holds
pub served_is_stored : (l : Layout) (d : PlainDatabase) (fed : List Fed) → Agrees l d fed → IsPartOf (served_reads fed) (stored_reads l d)
unfolding served_reads stored_reads
served_is_stored l d fed h ask pairs e =
    let r : (x : Fed) × (find (covers ask) fed ≡ Some x) × (rows_within ask x ≡ pairs) = mapped_some (rows_within ask) (find (covers ask) fed) pairs e in
    let agrees : AgreesOn l d r.0 = each_has (AgreesOn l d) r.0 fed (recursion_from_All (AgreesOn l d) fed h) (find_has (covers ask) fed r.0 r.1) in
    ap (λ (ps : List KeyValue). Some ps) (fed_rows l d ask r.0 (find_passes (covers ask) fed r.0 r.1) agrees ∙ r.2)

-- ---- the whole decides

executed_part : (s : Setting) (d : PlainDatabase) (whole : Reads) (e f : Evaluation ListOutcome) → IsKept whole e f → IsExecuted s d f → IsExecuted s d e
executed_part s d whole (gives x) f h k = subst (IsExecuted s d) h k
executed_part s d whole (faults code) f h k = subst (IsExecuted s d) h k
executed_part s d whole (needs ask p n) f h k = tt

-- what a list comes to over all that a database holds decides what it comes to over a part of it
pub executed_if_whole : ((s : Setting) (d : PlainDatabase) → IsSoundSetting s → IsValid s.layout.catalog d → IsExecuted s d (evaluation s (stored_reads s.layout d)))
    → EvaluationIsExecuted
executed_if_whole whole s fed d sound valid agrees =
    executed_part s d (stored_reads s.layout d) (evaluation s (served_reads fed)) (evaluation s (stored_reads s.layout d))
    (evaluation_kept s (served_reads fed) (stored_reads s.layout d) (served_is_stored s.layout d fed agrees)) (whole s d sound valid)
