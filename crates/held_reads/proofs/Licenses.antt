use Rattle.std.proofs.Common.{◌≡◌, ◌≢◌, ℕ, Bool, true, false, ◌≤◌, List, [], ◌∷◌, inl, inr, refl, sym, ap, ◌∙◌, subst, arith, true≢false}
use Rattle.std.specs.Prelude.{◌⊎◌, ◌==◌, ⊤, nat_eq, Option, Some, None}
use Rattle.std.proofs.lemmas.Bool.{eqb-true}
use Rattle.std.specs.Cmp.Lexicographic.{pointwise, same_text, other_text}
use Rattle.mr_base.specs.Timestamps.{IsBelow}
use Rattle.mr_base.specs.declared.ids.AttemptId.{AttemptId}
use Rattle.mr_base.specs.declared.messages.Fate.{Fate}
use Rattle.mr_base.specs.declared.messages.Fate.TheVariants as fates
use Rattle.mr_base.specs.declared.timestamps.Ts.{Ts}
use Rattle.range_log.specs.Facts.{Laid, HasIntent, closed_of, lease_of}
use Rattle.range_log.specs.declared.entries.Entry.{Entry}
use Rattle.range_log.specs.declared.entries.Entry.TheVariants as log
use Rattle.range_log.specs.declared.entries.Lease.{Lease}
use Rattle.range_log.specs.declared.entries.TxnState.{TxnState}
use Rattle.range_log.specs.declared.entries.TxnState.TheVariants as states
use Rattle.range_rules.specs.Resolves.{HasIntentOf, Repeats}
use Rattle.held_reads.proofs.LogWords.{IsSuffix, LoadIn, PutIn, ResolveIn}

-- the record of each attempt
abbrev pub Records : Type 0
Records = AttemptId → Option TxnState

-- a put, given what stood before it in its log
pub record IsPutLicensed (a : AttemptId) (p : Ts) (key : List ℕ) (l : List Entry) : Type 0 where
  pub alone : (i : Laid) → HasIntent key i l → i.attempt ≡ a
  pub first : (q : Ts) (v : Option (List ℕ)) → ¬ PutIn a q key v l
  pub closed : IsBelow (closed_of l) p
  pub low : (lease : Lease) → lease_of l ≡ Some lease → ¬ IsBelow p lease.low

-- a load comes before all puts, and is the only one of its key
pub record IsLoadLicensed (ts : Ts) (key : List ℕ) (l : List Entry) : Type 0 where
  pub unowned : ts.owner ≡ 0
  pub only : (s : Ts) (w : List ℕ) → ¬ LoadIn s key w l
  pub before : (a : AttemptId) (q : Ts) (k : List ℕ) (v : Option (List ℕ)) → ¬ PutIn a q k v l

-- an entry of a log, given what stood before it there and the records as they are now
abbrev pub IsLicensed : Records → Entry → List Entry → Type 0
IsLicensed rec (log.Put a start anchor p key v) l = IsPutLicensed a p key l
IsLicensed rec (log.Resolve a key fate) l = Repeats (rec a) fate × HasIntentOf a key l
IsLicensed rec (log.Load ts key v) l = IsLoadLicensed ts key l
IsLicensed rec (log.Lease x) l = (last : Lease) → lease_of l ≡ Some last → ¬ IsBelow x.low last.low
IsLicensed rec e l = ⊤

-- each entry of a log
abbrev pub AreLicensed : Records → List Entry → Type 0
AreLicensed rec [] = ⊤
AreLicensed rec (e ∷ l) = IsLicensed rec e l × AreLicensed rec l

-- who commits at a timestamp owns it
abbrev pub AreOwned : Records → Type 0
AreOwned rec = (a : AttemptId) (c : Ts) → rec a ≡ Some (states.Committed c) → (c.owner ≡ a.0) × (1 ≤ a.0)

-- the older parts
pub older_licensed : (rec : Records) (o l : List Entry) → IsSuffix o l → AreLicensed rec l → AreLicensed rec o
older_licensed rec o [] s h = subst (λ (m : List Entry). AreLicensed rec m) (sym s) tt
older_licensed rec o (e ∷ l) (inl s) h = subst (λ (m : List Entry). AreLicensed rec m) (sym s) h
older_licensed rec o (e ∷ l) (inr s) h = older_licensed rec o l s h.1

-- two keys, and two attempts, are the same or aren't
key_by_test : (k l : List ℕ) (t : Bool) → t ≡ pointwise nat_eq k l → (k ≡ l) ⊎ (k ≢ l)
key_by_test k l true e = inl (same_text k l e)
key_by_test k l false e = inr (other_text k l e)

pub same_key : (k l : List ℕ) → (k ≡ l) ⊎ (k ≢ l)
same_key k l = key_by_test k l (pointwise nat_eq k l) refl

abbrev numbered : ℕ → AttemptId
numbered k = record { 0 = k }

pub attempt_by_number : (a b : AttemptId) → a.0 ≡ b.0 → a ≡ b
attempt_by_number a b e = ap numbered e

itself : (k : ℕ) → (k == k) ≡ true
itself k = grind arith

attempt_by_test : (a b : AttemptId) (t : Bool) → t ≡ (a.0 == b.0) → (a ≡ b) ⊎ (a ≢ b)
attempt_by_test a b true e = inl (attempt_by_number a b (eqb-true a.0 b.0 (sym e)))
attempt_by_test a b false e =
    inr (λ same. true≢false (sym (itself a.0) ∙ ap (λ (k : ℕ). a.0 == k) (ap (λ (x : AttemptId). x.0) same) ∙ sym e))

pub same_attempt : (a b : AttemptId) → (a ≡ b) ⊎ (a ≢ b)
same_attempt a b = attempt_by_test a b (a.0 == b.0) refl

-- what a resolve repeats
pub repeats_committed : (r : Option TxnState) (c : Ts) → Repeats r (fates.Committed c) → r ≡ Some (states.Committed c)
repeats_committed (Some (states.Committed d)) c h = ap (λ (t : Ts). Some (states.Committed t)) h
repeats_committed (Some (states.Pending d)) c h = absurd h
repeats_committed (Some (states.Aborted by)) c h = absurd h
repeats_committed None c h = absurd h

pub repeats_aborted : (r : Option TxnState) → Repeats r fates.Aborted → (by : AttemptId) × (r ≡ Some (states.Aborted by))
repeats_aborted (Some (states.Aborted by)) h = (by, refl)
repeats_aborted (Some (states.Committed d)) h = absurd h
repeats_aborted (Some (states.Pending d)) h = absurd h
repeats_aborted None h = absurd h

pub repeats_pushed : (r : Option TxnState) (x : Ts) → ¬ Repeats r (fates.Pushed x)
repeats_pushed (Some (states.Aborted by)) x h = h
repeats_pushed (Some (states.Committed d)) x h = h
repeats_pushed (Some (states.Pending d)) x h = h
repeats_pushed None x h = h

pub resolve_repeats : (rec : Records) (l : List Entry) (a : AttemptId) (key : List ℕ) (fate : Fate) → AreLicensed rec l → ResolveIn a key fate l → Repeats (rec a) fate
resolve_repeats rec [] a key fate lic h = absurd h
resolve_repeats rec (log.Resolve b k f ∷ l) a key fate lic (inl h) =
    subst (λ (x : AttemptId). Repeats (rec x) fate) h.0 (subst (λ (y : Fate). Repeats (rec b) y) h.2 lic.0.0)
resolve_repeats rec (log.Resolve b k f ∷ l) a key fate lic (inr h) = resolve_repeats rec l a key fate lic.1 h
resolve_repeats rec (e ∷ l) a key fate lic h = resolve_repeats rec l a key fate lic.1 h

-- an intent is a put
pub intent_put : (l : List Entry) (key : List ℕ) (i : Laid) → HasIntent key i l → PutIn i.attempt i.ts key i.value l
intent_put [] key i h = absurd h
intent_put (log.Put attempt start anchor ts k v ∷ older) key i (inl (e, q)) =
    inl (sym (ap (λ (y : Laid). y.attempt) q), sym (ap (λ (y : Laid). y.ts) q), e, sym (ap (λ (y : Laid). y.value) q))
intent_put (log.Put attempt start anchor ts k v ∷ older) key i (inr (n, h)) = inr (intent_put older key i h)
intent_put (log.Resolve attempt k fate ∷ older) key i (h, n) = intent_put older key i h
intent_put (e ∷ older) key i h = intent_put older key i h

-- an attempt has one put at a key of a log
pub once : (rec : Records) (l : List Entry) (a : AttemptId) (p q : Ts) (key : List ℕ) (v w : Option (List ℕ)) → AreLicensed rec l → PutIn a p key v l → PutIn a q key w l
    → (v ≡ w) × (p ≡ q)
once rec [] a p q key v w lic h g = absurd h
once rec (log.Put b start anchor ts k x ∷ l) a p q key v w lic (inl h) (inl g) = (sym h.3 ∙ g.3, sym h.1 ∙ g.1)
once rec (log.Put b start anchor ts k x ∷ l) a p q key v w lic (inl h) (inr g) =
    absurd (lic.0.first q w (subst (λ (y : AttemptId). PutIn y q k w l) (sym h.0) (subst (λ (y : List ℕ). PutIn a q y w l) (sym h.2) g)))
once rec (log.Put b start anchor ts k x ∷ l) a p q key v w lic (inr h) (inl g) =
    absurd (lic.0.first p v (subst (λ (y : AttemptId). PutIn y p k v l) (sym g.0) (subst (λ (y : List ℕ). PutIn a p y v l) (sym g.2) h)))
once rec (log.Put b start anchor ts k x ∷ l) a p q key v w lic (inr h) (inr g) = once rec l a p q key v w lic.1 h g
once rec (e ∷ l) a p q key v w lic h g = once rec l a p q key v w lic.1 h g
