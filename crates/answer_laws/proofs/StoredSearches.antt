-- Searches over all that a database holds.
use Rattle.std.proofs.Common.{◌≡◌, Bool, true, false, List, [], ◌∷◌, refl, sym, ap, ◌∙◌, inl, inr}
use Rattle.std.specs.Prelude.{if◌then◌else◌, ◌||◌}
use Rattle.std.specs.List.{list_any}
use Rattle.row_locality.specs.Pairs.{KeyValue}
use Rattle.row_locality.specs.Plain.{Layout, PlainDatabase}
use Rattle.sql_eval.specs.Reads.{stored_reads}
use Rattle.sql_eval.specs.Search.{Evaluation, gives, Lookup, Answer, ask_of, behind, search as searched}
use Rattle.answer_laws.proofs.Members.{Has}
use Rattle.answer_laws.proofs.ThroughWrites.{in_span}

abbrev pub held_at : Layout → PlainDatabase → Lookup → List KeyValue
held_at l d x = in_span l d (ask_of x)

abbrev pub answer_at : Layout → PlainDatabase → Lookup → Answer
answer_at l d x = (x, held_at l d x)

-- The answers of a search of which each span is known.
abbrev pub answered : Layout → PlainDatabase → (Answer → Bool) → List Lookup → List Answer
answered l d ends [] = []
answered l d ends (x ∷ xs) = if ends (answer_at l d x) then answer_at l d x ∷ [] else answer_at l d x ∷ answered l d ends xs

given_if : (b : Bool) (a : Answer) (e : Evaluation (List Answer)) (rest : List Answer) → e ≡ gives rest → (if b then gives (a ∷ []) else behind a e) ≡ gives (if b then a ∷ [] else a ∷ rest)
given_if true a e rest h = refl
given_if false a e rest h = ap (behind a) h

pub search_stored : (l : Layout) (d : PlainDatabase) (ends : Answer → Bool) (xs : List Lookup) → searched (stored_reads l d) ends xs ≡ gives (answered l d ends xs)
unfolding searched stored_reads
search_stored l d ends [] = refl
search_stored l d ends (x ∷ xs) =
    given_if (ends (answer_at l d x)) (answer_at l d x) (searched (stored_reads l d) ends xs) (answered l d ends xs) (search_stored l d ends xs)

-- ---- which answers there are

module _ (l : Layout) (d : PlainDatabase) where
  answer_cases : (ends : Answer → Bool) (b : Bool) (x : Lookup) (xs : List Lookup) (a : Answer) → (Has a (answered l d ends xs) → (y : Lookup) × Has y xs × (a ≡ answer_at l d y))
      → Has a (if b then answer_at l d x ∷ [] else answer_at l d x ∷ answered l d ends xs) → (y : Lookup) × Has y (x ∷ xs) × (a ≡ answer_at l d y)
  answer_cases ends true x xs a f (inl e) = (x, inl refl, sym e)
  answer_cases ends true x xs a f (inr h) = absurd h
  answer_cases ends false x xs a f (inl e) = (x, inl refl, sym e)
  answer_cases ends false x xs a f (inr h) = let r = f h in (r.0, inr r.1, r.2)

  -- each answer is what one of the look-ups holds
  pub answer_is : (ends : Answer → Bool) (xs : List Lookup) (a : Answer) → Has a (answered l d ends xs) → (y : Lookup) × Has y xs × (a ≡ answer_at l d y)
  answer_is ends [] a h = absurd h
  answer_is ends (x ∷ xs) a h = answer_cases ends (ends (answer_at l d x)) x xs a (answer_is ends xs a) h

  -- a search that doesn't end early has all answers
  pub all_answered : (xs : List Lookup) (x : Lookup) → Has x xs → Has (answer_at l d x) (answered l d (λ a. false) xs)
  all_answered [] x h = absurd h
  all_answered (y ∷ xs) x (inl e) = inl (ap (answer_at l d) e)
  all_answered (y ∷ xs) x (inr h) = inr (all_answered xs x h)

  -- the answer at which a search ends
  pub record EndsAt (ends : Answer → Bool) (xs : List Lookup) : Type 0 where
    pub last : Lookup
    pub there : Has last xs
    pub answer : Has (answer_at l d last) (answered l d ends xs)
    pub ending : ends (answer_at l d last) ≡ true

  later_end : (ends : Answer → Bool) (b : Bool) (y : Lookup) (xs : List Lookup) → ends (answer_at l d y) ≡ b → (b ≡ false → (last : Lookup) × Has last xs × Has (answer_at l d last) (answered l d ends xs) × (ends (answer_at l d last) ≡ true))
      → (last : Lookup) × Has last (y ∷ xs) × Has (answer_at l d last) (if b then answer_at l d y ∷ [] else answer_at l d y ∷ answered l d ends xs) × (ends (answer_at l d last) ≡ true)
  later_end ends true y xs e f = (y, inl refl, inl refl, e)
  later_end ends false y xs e f = let r = f refl in (r.0, inr r.1, inr r.2, r.3)

  ends_by : (ends : Answer → Bool) (xs : List Lookup) (x : Lookup) → Has x xs → ends (answer_at l d x) ≡ true
      → (last : Lookup) × Has last xs × Has (answer_at l d last) (answered l d ends xs) × (ends (answer_at l d last) ≡ true)
  ends_by ends [] x h e = absurd h
  ends_by ends (y ∷ xs) x (inl q) e =
      later_end ends (ends (answer_at l d y)) y xs refl (λ f. absurd (cc (f, ap (λ (z : Lookup). ends (answer_at l d z)) q ∙ e)))
  ends_by ends (y ∷ xs) x (inr h) e = later_end ends (ends (answer_at l d y)) y xs refl (λ f. ends_by ends xs x h e)

  -- a search of which a look-up would end it ends
  pub ends_somewhere : (ends : Answer → Bool) (xs : List Lookup) (x : Lookup) → Has x xs → ends (answer_at l d x) ≡ true → EndsAt ends xs
  ends_somewhere ends xs x h e = let r = ends_by ends xs x h e in record { last = r.0; there = r.1; answer = r.2; ending = r.3 }

  any_if : (ends : Answer → Bool) (b : Bool) (a : Answer) (rest : List Answer) (c : Bool) → ends a ≡ b → list_any ends rest ≡ c → list_any ends (if b then a ∷ [] else a ∷ rest) ≡ (b || c)
  any_if ends true a rest c e f = ap (λ (x : Bool). x || false) e
  any_if ends false a rest c e f = ap (λ (x : Bool). x || list_any ends rest) e ∙ f

  -- some answer ends a search where some look-up would
  pub any_answered : (ends : Answer → Bool) (xs : List Lookup) → list_any ends (answered l d ends xs) ≡ list_any (λ x. ends (answer_at l d x)) xs
  any_answered ends [] = refl
  any_answered ends (x ∷ xs) =
      any_if ends (ends (answer_at l d x)) (answer_at l d x) (answered l d ends xs) (list_any (λ y. ends (answer_at l d y)) xs) refl (any_answered ends xs)
