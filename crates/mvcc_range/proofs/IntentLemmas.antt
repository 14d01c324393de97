-- The intents of a log, as a look-up finds them.
use Rattle.std.proofs.Common.{◌≡◌, ◌≢◌, ◌⊎◌, ℕ, Bool, true, false, nat_eq, List, [], ◌∷◌, Option, None, Some, MatchOption, inl, inr, refl, sym, ap, ◌∙◌}
use Rattle.std.proofs.lemmas.Bool.Decides.{nat_tests}
use Rattle.std.proofs.Common.{arith}
use Rattle.mr_base.specs.declared.ids.AttemptId.{AttemptId}
use Rattle.mvcc_range.proofs.KeyLemmas.{key_or_not}
use Rattle.mvcc_range.specs.Follows.{intent_at, kept_intent}
use Rattle.mvcc_range.specs.KeyFacts.{intent_after, intent_of, is_of}
use Rattle.mvcc_range.specs.Lookups.{IsIntentAt}
use Rattle.mvcc_range.specs.declared.key_state.KeptIntent.{KeptIntent}
use Rattle.range_log.specs.Facts.{HasIntent, Laid}
use Rattle.range_log.specs.declared.entries.Entry.{Entry}
use Rattle.range_log.specs.declared.entries.Entry.TheVariants as log

abbrev pub laid_of : KeptIntent → Laid
laid_of k = record { attempt = k.intent.attempt; start = k.intent.start; anchor = k.intent.anchor; ts = k.intent.ts; value = k.value }

-- the intent that stands at a key is this one and no other
abbrev pub IsTheIntent : List Entry → List ℕ → Option KeptIntent → Type 0
IsTheIntent entries key o =
    MatchOption o ((i : Laid) → ¬ HasIntent key i entries) (λ k. HasIntent key (laid_of k) entries × ((i : Laid) → HasIntent key i entries → i ≡ laid_of k))

pub of_or_not : (a : AttemptId) (k : KeptIntent) → ((is_of a k ≡ true) × (a ≡ k.intent.attempt)) ⊎ ((is_of a k ≡ false) × (a ≢ k.intent.attempt))
of_or_not a k = when (nat_eq k.intent.attempt.0 a.0) refl
  where
    same : a.0 ≡ k.intent.attempt.0 → a ≡ k.intent.attempt
    same h = λ i. record { 0 = h i }

    when : (b : Bool) → nat_eq k.intent.attempt.0 a.0 ≡ b → ((is_of a k ≡ true) × (a ≡ k.intent.attempt)) ⊎ ((is_of a k ≡ false) × (a ≢ k.intent.attempt))
    when true h = inl (h, same (grind (arith, nat_tests)))
    when false h = inr (h, λ e. let n : a.0 ≡ k.intent.attempt.0 = ap (λ (x : AttemptId). x.0) e in grind (arith, nat_tests))

module _ (key k : List ℕ) (older : List Entry) where
  put_elsewhere : (kept : KeptIntent) → k ≢ key → (o : Option KeptIntent) → IsTheIntent older key o →
      IsTheIntent (log.Put kept.intent.attempt kept.intent.start kept.intent.anchor kept.intent.ts k kept.value ∷ older) key o
  put_elsewhere kept n None h = λ i x. elim x [ inl e ↦ n e.0 | inr e ↦ h i e.1 ]
  put_elsewhere kept n (Some there) h = (inr (n, h.0), λ i x. elim x [ inl e ↦ absurd (n e.0) | inr e ↦ h.1 i e.1 ])

  resolved_elsewhere : (e : Entry) (a : AttemptId) → ((i : Laid) → HasIntent key i (e ∷ older) → HasIntent key i older) →
      ((i : Laid) → HasIntent key i older → HasIntent key i (e ∷ older)) → (o : Option KeptIntent) → IsTheIntent older key o → IsTheIntent (e ∷ older) key o
  resolved_elsewhere e a down up None h = λ i x. h i (down i x)
  resolved_elsewhere e a down up (Some there) h = (up (laid_of there) h.0, λ i x. h.1 i (down i x))

  resolved_here : (e : Entry) (a : AttemptId) → k ≡ key → ((i : Laid) → HasIntent key i (e ∷ older) → HasIntent key i older × (k ≡ key → a ≢ i.attempt)) →
      ((i : Laid) → HasIntent key i older → a ≢ i.attempt → HasIntent key i (e ∷ older)) → (o : Option KeptIntent) → IsTheIntent older key o → IsTheIntent (e ∷ older) key (intent_after a o)
  resolved_here e a same down up None h = λ i x. h i (down i x).0
  resolved_here e a same down up (Some there) h = elim (of_or_not a there) as (λ _. IsTheIntent (e ∷ older) key (intent_after a (Some there))) [
    | inl m ↦ rw m.0 (λ i x. (down i x).1 same (m.1 ∙ sym (ap (λ (l : Laid). l.attempt) (h.1 i (down i x).0))))
    | inr m ↦ rw m.0 (up (laid_of there) h.0 m.1, λ i x. h.1 i (down i x).0)
  ]

-- the intent that is looked up is the one that stands
pub intent_told : (key : List ℕ) (entries : List Entry) → IsTheIntent entries key (intent_at key entries)
intent_told key [] = λ i h. h
intent_told key (log.Put attempt start anchor ts k value ∷ older) =
    let rest = intent_told key older in
    elim (key_or_not k key) as (λ _. IsTheIntent (log.Put attempt start anchor ts k value ∷ older) key (intent_at key (log.Put attempt start anchor ts k value ∷ older))) [
      | inl m ↦ rw m.0 (inl (m.1, refl), λ i x. elim x [ inl e ↦ e.1 | inr e ↦ absurd (e.0 m.1) ])
      | inr m ↦ rw m.0 (put_elsewhere key k older (kept_intent attempt start anchor ts value) m.1 (intent_at key older) rest)
    ]
intent_told key (log.Resolve a k fate ∷ older) =
    let rest = intent_told key older in
    elim (key_or_not k key) as (λ _. IsTheIntent (log.Resolve a k fate ∷ older) key (intent_at key (log.Resolve a k fate ∷ older))) [
      | inl m ↦ rw m.0 (resolved_here key k older (log.Resolve a k fate) a m.1 (λ i x. x) (λ i x n. (x, λ _. n)) (intent_at key older) rest)
      | inr m ↦ rw m.0 (resolved_elsewhere key k older (log.Resolve a k fate) a (λ i x. x.0) (λ i x. (x, λ e. absurd (m.1 e))) (intent_at key older) rest)
    ]
intent_told key (e ∷ older) = intent_told key older

-- what stands there, without its value
pub intent_answer : (key : List ℕ) (entries : List Entry) (o : Option KeptIntent) → IsTheIntent entries key o → IsIntentAt entries key (intent_of o)
intent_answer key entries None h = h
intent_answer key entries (Some kept) h = (kept.value, h.0)
