-- The versions of a log, as a look-up finds them.
use Rattle.std.proofs.Common.{◌≡◌, ℕ, Bool, true, false, cond, List, [], ◌∷◌, Option, None, Some, MatchOption, inl, inr, refl, sym, subst, ap, ◌∙◌}
use Rattle.mr_base.specs.declared.ids.AttemptId.{AttemptId}
use Rattle.mr_base.specs.declared.messages.Fate.TheVariants.{Aborted, Committed, Pushed}
use Rattle.mr_base.specs.declared.timestamps.Ts.{Ts}
use Rattle.mvcc_range.proofs.IntentLemmas.{IsTheIntent, intent_told, laid_of, of_or_not}
use Rattle.mvcc_range.proofs.KeyLemmas.{key_or_not}
use Rattle.mvcc_range.proofs.TsLemmas.{ts_or_not}
use Rattle.mvcc_range.specs.Follows.{intent_at, value_at}
use Rattle.mvcc_range.specs.KeyFacts.{same_key, value_after}
use Rattle.mvcc_range.specs.declared.key_state.KeptIntent.{KeptIntent}
use Rattle.range_log.specs.Facts.{HasIntent, HasVersion, Laid, Makes, Version}
use Rattle.range_log.specs.declared.entries.Entry.{Entry}
use Rattle.range_log.specs.declared.entries.Entry.TheVariants as log

abbrev pub version_of : List ℕ → Ts → Option (List ℕ) → Version
version_of key r value = record { key = key; ts = r; value = value }

-- the version at a key and timestamp is this one and no other
abbrev pub IsTheVersion : List Entry → List ℕ → Ts → Option (Option (List ℕ)) → Type 0
IsTheVersion entries key r o =
    MatchOption o
    ((w : Version) → HasVersion w entries → w.key ≡ key → ¬ (w.ts ≡ r))
    (λ value. HasVersion (version_of key r value) entries × ((w : Version) → HasVersion w entries → w.key ≡ key → w.ts ≡ r → w.value ≡ value))

module _ (e : Entry) (older : List Entry) (key : List ℕ) (r : Ts) where
  -- the entry makes it
  made : (value : Option (List ℕ)) → Makes e older (version_of key r value) → ((w : Version) → Makes e older w → w.value ≡ value) → IsTheVersion (e ∷ older) key r (Some value)
  made value m one = (inl m, λ w h k t. elim h as (λ _. w.value ≡ value) [ inl n ↦ one w n | inr n ↦ absurd (n.1 (version_of key r value) m (sym k, sym t)) ])

  -- the entry makes none there
  kept : ((w : Version) → Makes e older w → w.key ≡ key → ¬ (w.ts ≡ r)) → (o : Option (Option (List ℕ))) → IsTheVersion older key r o → IsTheVersion (e ∷ older) key r o
  kept none None h = λ w x k. elim x as (λ _. ¬ (w.ts ≡ r)) [ inl m ↦ none w m k | inr n ↦ h w n.0 k ]
  kept none (Some value) h =
      (inr (h.0, λ w m p. none w m p.0 p.1), λ w x k t. elim x as (λ _. w.value ≡ value) [ inl m ↦ absurd (none w m k t) | inr n ↦ h.1 w n.0 k t ])

-- an intent was resolved as committed
resolved : (a : AttemptId) (k : List ℕ) (ts : Ts) (older : List Entry) (key : List ℕ) (r : Ts) → k ≡ key → (o : Option KeptIntent) → IsTheIntent older key o →
    (p : Option (Option (List ℕ))) → IsTheVersion older key r p → IsTheVersion (log.Resolve a k (Committed ts) ∷ older) key r (value_after a (Committed ts) r o p)
resolved a k ts older key r same None told p h =
    kept (log.Resolve a k (Committed ts)) older key r (λ w m q. absurd (told m.2 (subst (λ (x : List ℕ). HasIntent x m.2 older) same m.3))) p h
resolved a k ts older key r same (Some there) told p h = elim (of_or_not a there) as (λ _. IsTheVersion (log.Resolve a k (Committed ts) ∷ older) key r (value_after a (Committed ts) r (Some there) p)) [
  | inl own ↦ elim (ts_or_not ts r) as (λ _. IsTheVersion (log.Resolve a k (Committed ts) ∷ older) key r (value_after a (Committed ts) r (Some there) p)) [
    | inl t ↦ rw (own.0, t.0) (made (log.Resolve a k (Committed ts)) older key r there.value
        (sym same, sym t.1, laid_of there, subst (λ (x : List ℕ). HasIntent x (laid_of there) older) (sym same) told.0, sym own.1, refl)
        (λ w m. sym m.5 ∙ ap (λ (l : Laid). l.value) (told.1 m.2 (subst (λ (x : List ℕ). HasIntent x m.2 older) same m.3))))
    | inr t ↦ rw (own.0, t.0) (kept (log.Resolve a k (Committed ts)) older key r (λ w m q e. t.1 (sym m.1 ∙ e)) p h)
  ]
  | inr other ↦ rw other.0 (kept (log.Resolve a k (Committed ts)) older key r
      (λ w m q. absurd (other.1 (sym m.4 ∙ ap (λ (l : Laid). l.attempt) (told.1 m.2 (subst (λ (x : List ℕ). HasIntent x m.2 older) same m.3))))) p h)
]

-- whichever way it goes it is the same
either : {A : Type 0} (P : A → Type 0) (b : Bool) (x : A) → P x → P (cond b x x)
either P true x h = h
either P false x h = h

-- the version that is looked up is the one that there is
pub version_told : (key : List ℕ) (r : Ts) (entries : List Entry) → IsTheVersion entries key r (value_at key r entries)
version_told key r [] = λ w h k. absurd h
version_told key r (log.Resolve a k (Committed ts) ∷ older) =
    let rest = version_told key r older in
    elim (key_or_not k key) as (λ _. IsTheVersion (log.Resolve a k (Committed ts) ∷ older) key r (value_at key r (log.Resolve a k (Committed ts) ∷ older))) [
      | inl m ↦ rw m.0 (resolved a k ts older key r m.1 (intent_at key older) (intent_told key older) (value_at key r older) rest)
      | inr m ↦ rw m.0 (kept (log.Resolve a k (Committed ts)) older key r (λ w x q. absurd (m.1 (sym x.0 ∙ q))) (value_at key r older) rest)
    ]
version_told key r (log.Resolve a k Aborted ∷ older) =
    either (IsTheVersion (log.Resolve a k Aborted ∷ older) key r) (same_key k key) (value_at key r older)
    (kept (log.Resolve a k Aborted) older key r (λ w x q. absurd x) (value_at key r older) (version_told key r older))
version_told key r (log.Resolve a k (Pushed ts) ∷ older) =
    either (IsTheVersion (log.Resolve a k (Pushed ts) ∷ older) key r) (same_key k key) (value_at key r older)
    (kept (log.Resolve a k (Pushed ts)) older key r (λ w x q. absurd x) (value_at key r older) (version_told key r older))
version_told key r (log.Load ts k value ∷ older) =
    let rest = version_told key r older in
    elim (key_or_not k key) as (λ _. IsTheVersion (log.Load ts k value ∷ older) key r (value_at key r (log.Load ts k value ∷ older))) [
      | inl m ↦ elim (ts_or_not ts r) as (λ _. IsTheVersion (log.Load ts k value ∷ older) key r (value_at key r (log.Load ts k value ∷ older))) [
        | inl t ↦ rw (m.0, t.0) (made (log.Load ts k value) older key r (Some value) (sym (λ i. record { key = m.1 i; ts = t.1 i; value = Some value })) (λ w x. ap (λ (v : Version). v.value) x))
        | inr t ↦ rw (m.0, t.0) (kept (log.Load ts k value) older key r (λ w x q e. t.1 (sym (ap (λ (v : Version). v.ts) x) ∙ e)) (value_at key r older) rest)
      ]
      | inr m ↦ rw m.0 (kept (log.Load ts k value) older key r (λ w x q. absurd (m.1 (sym (ap (λ (v : Version). v.key) x) ∙ q))) (value_at key r older) rest)
    ]
version_told key r (e ∷ older) = kept e older key r (λ w x q. absurd x) (value_at key r older) (version_told key r older)
