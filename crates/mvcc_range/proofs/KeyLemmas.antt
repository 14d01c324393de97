-- What stands at the keys, as it changes.
use Rattle.std.proofs.Common.{◌≡◌, ◌≢◌, ◌⊎◌, ◌&&◌, ℕ, Bool, true, false, cond, List, [], ◌∷◌, Option, None, Some, Result, Ok, Err, OnErr, inl, inr, refl, subst, sym, ap, ◌∙◌}
use Rattle.std.proofs.lemmas.Cmp.{nat_list_cmp_total, tied_itself}
use Rattle.std.proofs.lemmas.Map.Lookups.{exact_bytes}
use Rattle.std.specs.Cmp.Lexicographic.{slice_cmp}
use Rattle.std.specs.Map.{lookup, set_value}
use Rattle.std.specs.Option.{unwrap_or}
use Rattle.std.specs.Ordering.{is_eq, nat_cmp}
use Rattle.std.specs.declared.cmp.Ordering.{Ordering}
use Rattle.std.specs.declared.cmp.Ordering.TheVariants.{Less, Equal, Greater}
use Rattle.mr_base.specs.declared.ids.AttemptId.{AttemptId}
use Rattle.mr_base.specs.declared.messages.Fate.{Fate}
use Rattle.mr_base.specs.declared.messages.Fate.TheVariants.{Committed, Aborted, Pushed}
use Rattle.mr_base.specs.declared.timestamps.Ts.{Ts}
use Rattle.mvcc_range.specs.KeyFacts.{intent_after, is_of, kept_at, same_key, same_ts, state_at, state_in, value_after, version_at}
use Rattle.mvcc_range.specs.KeyValue.{KeyValue}
use Rattle.mvcc_range.specs.declared.key_state.KeptIntent.{KeptIntent}

-- a committed intent of the attempt is a version
pub committed_value : (a : AttemptId) (fate : Fate) (ts q : Ts) (kept : KeptIntent) (value : Option (List ℕ)) (s : KeyValue) →
    fate ≡ Committed ts → s.intent ≡ Some kept → is_of a kept ≡ true → value ≡ kept.value →
    cond (same_ts ts q) (Some value) (version_at q s) ≡ value_after a fate q s.intent (version_at q s)
committed_value a fate ts q kept value s f i o v = rw (f, i, o, v) refl

-- two keys are the same or not
pub key_or_not : (a b : List ℕ) → ((same_key a b ≡ true) × (a ≡ b)) ⊎ ((same_key a b ≡ false) × (a ≢ b))
key_or_not a b = when (slice_cmp nat_cmp a b) refl
  where
    itself : a ≡ b → slice_cmp nat_cmp a b ≡ Equal
    itself e = subst (λ (c : List ℕ). slice_cmp nat_cmp a c ≡ Equal) e (tied_itself nat_list_cmp_total a)

    when : (r : Ordering) → slice_cmp nat_cmp a b ≡ r → ((same_key a b ≡ true) × (a ≡ b)) ⊎ ((same_key a b ≡ false) × (a ≢ b))
    when Less h = inr (ap is_eq h, λ e. let i = itself e in cc)
    when Equal h = inl (ap is_eq h, exact_bytes a b h)
    when Greater h = inr (ap is_eq h, λ e. let i = itself e in cc)

-- where a key's state became another, each other key's stays
module _ (key q : List ℕ) (old new : List (List ℕ × KeyValue)) (t : KeyValue) (up : kept_at q new ≡ cond (same_key key q) (Some t) (kept_at q old)) where
  pub here : key ≡ q → state_at q new ≡ t
  here e = elim (key_or_not key q) as (λ _. state_at q new ≡ t) [ inl k ↦ let e : kept_at q new ≡ Some t = rw up (rw k.0 refl) in ap state_in e | inr k ↦ absurd (k.1 e) ]

  pub elsewhere : same_key key q ≡ false → state_at q new ≡ state_at q old
  elsewhere n = let e : kept_at q new ≡ kept_at q old = rw up (rw n refl) in ap state_in e

  -- an intent was laid
  pub laid : (kept : KeptIntent) → t ≡ record (state_at key old) { intent = Some kept } →
      ((state_at q new).intent ≡ cond (same_key key q) (Some kept) (state_at q old).intent) × ((ts : Ts) → version_at ts (state_at q new) ≡ version_at ts (state_at q old))
  laid kept is = elim (key_or_not key q) as (λ _. ((state_at q new).intent ≡ cond (same_key key q) (Some kept) (state_at q old).intent) × ((ts : Ts) → version_at ts (state_at q new) ≡ version_at ts (state_at q old))) [
    | inl k ↦ (rw k.0 (ap (λ (s : KeyValue). s.intent) (here k.1 ∙ is)), λ ts. ap (version_at ts) (here k.1 ∙ is) ∙ ap (λ (p : List ℕ). version_at ts (state_at p old)) k.1)
    | inr k ↦ (rw k.0 (ap (λ (s : KeyValue). s.intent) (elsewhere k.0)), λ ts. ap (version_at ts) (elsewhere k.0))
  ]

  -- a version was added
  pub added : (ts : Ts) (value : Option (List ℕ)) → t.intent ≡ (state_at key old).intent →
      ((r : Ts) → version_at r t ≡ cond (same_ts ts r) (Some value) (version_at r (state_at key old))) →
      ((state_at q new).intent ≡ (state_at q old).intent) × ((r : Ts) → version_at r (state_at q new) ≡ cond (same_key key q && same_ts ts r) (Some value) (version_at r (state_at q old)))
  added ts value i v = elim (key_or_not key q) as (λ _. ((state_at q new).intent ≡ (state_at q old).intent) × ((r : Ts) → version_at r (state_at q new) ≡ cond (same_key key q && same_ts ts r) (Some value) (version_at r (state_at q old)))) [
    | inl k ↦ (
      ap (λ (s : KeyValue). s.intent) (here k.1) ∙ i ∙ ap (λ (p : List ℕ). (state_at p old).intent) k.1,
      λ r. rw k.0 (ap (version_at r) (here k.1) ∙ v r ∙ ap (λ (p : List ℕ). cond (same_ts ts r) (Some value) (version_at r (state_at p old))) k.1),
    )
    | inr k ↦ (ap (λ (s : KeyValue). s.intent) (elsewhere k.0), λ r. rw k.0 (ap (version_at r) (elsewhere k.0)))
  ]

  -- an attempt's intent was resolved
  pub resolved : (a : AttemptId) (fate : Fate) → t.intent ≡ intent_after a (state_at key old).intent →
      ((r : Ts) → version_at r t ≡ value_after a fate r (state_at key old).intent (version_at r (state_at key old))) →
      ((state_at q new).intent ≡ cond (same_key key q) (intent_after a (state_at q old).intent) (state_at q old).intent)
      × ((r : Ts) → version_at r (state_at q new) ≡ cond (same_key key q) (value_after a fate r (state_at q old).intent (version_at r (state_at q old))) (version_at r (state_at q old)))
  resolved a fate i v = elim (key_or_not key q) as (λ _. ((state_at q new).intent ≡ cond (same_key key q) (intent_after a (state_at q old).intent) (state_at q old).intent) × ((r : Ts) → version_at r (state_at q new) ≡ cond (same_key key q) (value_after a fate r (state_at q old).intent (version_at r (state_at q old))) (version_at r (state_at q old)))) [
    | inl k ↦ (
      rw k.0 (ap (λ (s : KeyValue). s.intent) (here k.1) ∙ i ∙ ap (λ (p : List ℕ). intent_after a (state_at p old).intent) k.1),
      λ r. rw k.0 (ap (version_at r) (here k.1) ∙ v r ∙ ap (λ (p : List ℕ). value_after a fate r (state_at p old).intent (version_at r (state_at p old))) k.1),
    )
    | inr k ↦ (rw k.0 (ap (λ (s : KeyValue). s.intent) (elsewhere k.0)), λ r. rw k.0 (ap (version_at r) (elsewhere k.0)))
  ]

-- a value written where it stands changes nothing
pub set_same : {K X : Type 0} → (test : K → Bool) (es : List (K × X)) (w : X) → Some w ≡ lookup test es → set_value test es w ≡ es
set_same test [] w h = refl
set_same {K} {X} test (e ∷ es) w h = when (λ there. set_same test es w there) (test e.0) refl
  where
    some_injective : (x y : X) → Some x ≡ Some y → x ≡ y
    some_injective x y i = ap (λ (o : Option X). unwrap_or o w) i

    when : (Some w ≡ lookup test es → set_value test es w ≡ es) → (b : Bool) → test e.0 ≡ b → set_value test (e ∷ es) w ≡ e ∷ es
    when rest true t = let same : Some w ≡ Some e.1 = h ∙ rw t refl in rw t (ap (λ (x : X). (e.0, x) ∷ es) (some_injective w e.1 same))
    when rest false t = let there : Some w ≡ lookup test es = h ∙ rw t refl in rw t (ap (λ (more : List (K × X)). e ∷ more) (rest there))

-- where a key has nothing, nothing is resolved
pub unresolved : (key q : List ℕ) (old : List (List ℕ × KeyValue)) (a : AttemptId) (fate : Fate) → None ≡ kept_at key old →
    ((state_at q old).intent ≡ cond (same_key key q) (intent_after a (state_at q old).intent) (state_at q old).intent)
    × ((r : Ts) → version_at r (state_at q old) ≡ cond (same_key key q) (value_after a fate r (state_at q old).intent (version_at r (state_at q old))) (version_at r (state_at q old)))
unresolved key q old a fate none = elim (key_or_not key q) as (λ _. ((state_at q old).intent ≡ cond (same_key key q) (intent_after a (state_at q old).intent) (state_at q old).intent)
    × ((r : Ts) → version_at r (state_at q old) ≡ cond (same_key key q) (value_after a fate r (state_at q old).intent (version_at r (state_at q old))) (version_at r (state_at q old)))) [
      | inl k ↦ let empty : kept_at q old ≡ None = subst (λ (p : List ℕ). kept_at p old ≡ None) k.1 (sym none) in (rw (k.0, empty) refl, λ r. rw (k.0, empty) (no_intent fate r))
      | inr k ↦ (rw k.0 refl, λ r. rw k.0 refl)
    ]
  where
    no_intent : (f : Fate) (r : Ts) → None ≡ value_after a f r None None
    no_intent (Committed ts) r = refl
    no_intent Aborted r = refl
    no_intent (Pushed ts) r = refl

-- what holds anyway holds after an error
pub on_err : {A E P : Type 0} → (r : Result A E) → P → OnErr r P
on_err (Ok x) p = tt
on_err (Err e) p = p
