use Rattle.std.proofs.Common.{◌≡◌, ℕ, ◌≤◌, List, [], ◌∷◌, inl, inr, ⊎_elim, refl, sym, ap, ◌∙◌, subst, arith}
use Rattle.std.specs.Prelude.{◌⊎◌, Option, Some}
use Rattle.mr_base.specs.Timestamps.{IsBelow}
use Rattle.mr_base.specs.declared.ids.AttemptId.{AttemptId}
use Rattle.mr_base.specs.declared.messages.Fate.TheVariants as fates
use Rattle.mr_base.specs.declared.timestamps.Ts.{Ts}
use Rattle.range_log.specs.Facts.{Laid, HasVersion, Makes, Version, closed_of}
use Rattle.range_log.specs.declared.entries.Entry.{Entry}
use Rattle.range_log.specs.declared.entries.Entry.TheVariants as log
use Rattle.range_log.specs.declared.entries.TxnState.TheVariants as states
use Rattle.held_reads.proofs.Licenses.{AreLicensed, AreOwned, Records, intent_put, repeats_committed}
use Rattle.held_reads.proofs.LogWords.{IsSuffix, LoadIn, PutAfter, PutIn}
use Rattle.held_reads.proofs.Standing.{version_of}
use Rattle.held_reads.proofs.TsLemmas.{later_left, le_below, le_trans, not_itself}

-- where a version of a log is from: it is a committed attempt's put, or was loaded
abbrev pub Made : Records → List Entry → Version → Type 0
Made rec l v =
    ((a : AttemptId) × (p : Ts) × (rec a ≡ Some (states.Committed v.ts)) × PutIn a p v.key v.value l)
    ⊎ ((w : List ℕ) × LoadIn v.ts v.key w l × (v.value ≡ Some w))

resolved_put : (rec : Records) (b : AttemptId) (k : List ℕ) (d : Ts) (l : List Entry) (v : Version) → rec b ≡ Some (states.Committed d) → Makes (log.Resolve b k (fates.Committed d)) l v
    → (a : AttemptId) × (p : Ts) × (rec a ≡ Some (states.Committed v.ts)) × PutIn a p v.key v.value l
resolved_put rec b k d l v r m =
    let i : Laid = m.2 in
    let at_k : PutIn b i.ts k i.value l = subst (λ (y : AttemptId). PutIn y i.ts k i.value l) m.4 (intent_put l k i m.3) in (
      b,
      i.ts,
      subst (λ (t : Ts). rec b ≡ Some (states.Committed t)) (sym m.1) r,
      subst (λ (y : List ℕ). PutIn b i.ts y v.value l) (sym m.0) (subst (λ (y : Option (List ℕ)). PutIn b i.ts k y l) m.5 at_k),
    )

pub versions : (rec : Records) (l : List Entry) → AreLicensed rec l → (v : Version) → HasVersion v l → Made rec l v
versions rec [] lic v h = absurd h
versions rec (log.Resolve b k (fates.Committed d) ∷ l) lic v (inl m) = inl (resolved_put rec b k d l v (repeats_committed (rec b) d lic.0.0) m)
versions rec (log.Load ts k w ∷ l) lic v (inl m) =
    inr (w, inl (sym (ap (λ (y : Version). y.ts) m), sym (ap (λ (y : Version). y.key) m), refl), ap (λ (y : Version). y.value) m)
versions rec (e ∷ l) lic v (inl m) = absurd m
versions rec (log.Put b start anchor ts k x ∷ l) lic v (inr h) =
    ⊎_elim (λ (g : (a : AttemptId) × (p : Ts) × (rec a ≡ Some (states.Committed v.ts)) × PutIn a p v.key v.value l). inl (g.0, g.1, g.2, inr g.3)) (λ g. inr g)
    (versions rec l lic.1 v h.0)
versions rec (log.Load ts k x ∷ l) lic v (inr h) =
    ⊎_elim (λ g. inl g) (λ (g : (w : List ℕ) × LoadIn v.ts v.key w l × (v.value ≡ Some w)). inr (g.0, inr g.1, g.2)) (versions rec l lic.1 v h.0)
versions rec (e ∷ l) lic v (inr h) = versions rec l lic.1 v h.0

-- what was closed only rises
pub closed_rises : (o l : List Entry) → IsSuffix o l → ¬ IsBelow (closed_of l) (closed_of o)
closed_rises o [] s = subst (λ (m : List Entry). ¬ IsBelow (closed_of []) (closed_of m)) (sym s) (not_itself (closed_of []))
closed_rises o (e ∷ l) (inl s) = subst (λ (m : List Entry). ¬ IsBelow (closed_of (e ∷ l)) (closed_of m)) (sym s) (not_itself (closed_of (e ∷ l)))
closed_rises o (log.Close ts ∷ l) (inr s) =
    le_trans (closed_of o) (closed_of l) (closed_of (log.Close ts ∷ l)) (closed_rises o l s) (later_left (closed_of l) ts)
closed_rises o (e ∷ l) (inr s) = closed_rises o l s

-- a put behind an older part is above what was closed there
pub above_closed : (rec : Records) (o l : List Entry) (a : AttemptId) (p : Ts) (key : List ℕ) → AreLicensed rec l → PutAfter o a p key l → IsBelow (closed_of o) p
above_closed rec o [] a p key lic h = absurd h
above_closed rec o (log.Put b start anchor ts k v ∷ l) a p key lic (inl h) =
    le_below (closed_of o) (closed_of l) p (closed_rises o l h.3) (subst (λ (t : Ts). IsBelow (closed_of l) t) h.1 lic.0.closed)
above_closed rec o (log.Put b start anchor ts k v ∷ l) a p key lic (inr h) = above_closed rec o l a p key lic.1 h
above_closed rec o (e ∷ l) a p key lic h = above_closed rec o l a p key lic.1 h

-- nobody owns the timestamp of a load
pub load_unowned : (rec : Records) (l : List Entry) (ts : Ts) (key w : List ℕ) → AreLicensed rec l → LoadIn ts key w l → ts.owner ≡ 0
load_unowned rec [] ts key w lic h = absurd h
load_unowned rec (log.Load s k x ∷ l) ts key w lic (inl h) = sym (ap (λ (t : Ts). t.owner) h.0) ∙ lic.0.unowned
load_unowned rec (log.Load s k x ∷ l) ts key w lic (inr h) = load_unowned rec l ts key w lic.1 h
load_unowned rec (e ∷ l) ts key w lic h = load_unowned rec l ts key w lic.1 h

pub unowned_apart : (ts : Ts) (a : AttemptId) → ts.owner ≡ 0 → ts.owner ≡ a.0 → 1 ≤ a.0 → ⊥
unowned_apart ts a p q r = omega arith

-- what was loaded is a version
pub loads_stand : (rec : Records) → AreOwned rec → (l : List Entry) → AreLicensed rec l → (ts : Ts) (key w : List ℕ) → LoadIn ts key w l → HasVersion (version_of key ts (Some w)) l
loads_stand rec own [] lic ts key w h = absurd h
loads_stand rec own (log.Load s k x ∷ l) lic ts key w (inl h) =
    let p : key ≡ k = sym h.1 in
    let q : ts ≡ s = sym h.0 in
    let r : w ≡ x = sym h.2 in
    inl (λ i. record { key = p i; ts = q i; value = Some (r i) })
loads_stand rec own (log.Load s k x ∷ l) lic ts key w (inr h) =
    inr (
      loads_stand rec own l lic.1 ts key w h,
      λ v m q. lic.0.only ts w (subst (λ (y : List ℕ). LoadIn ts y w l) (sym q.0 ∙ ap (λ (y : Version). y.key) m) h),
    )
loads_stand rec own (log.Resolve b k (fates.Committed d) ∷ l) lic ts key w h =
    let of_b : rec b ≡ Some (states.Committed d) = repeats_committed (rec b) d lic.0.0 in
    let o : (d.owner ≡ b.0) × (1 ≤ b.0) = own b d of_b in
    inr (
      loads_stand rec own l lic.1 ts key w h,
      λ v m q. unowned_apart ts b (load_unowned rec l ts key w lic.1 h) (ap (λ (t : Ts). t.owner) (sym q.1 ∙ m.1) ∙ o.0) o.1,
    )
loads_stand rec own (e ∷ l) lic ts key w h = inr (loads_stand rec own l lic.1 ts key w h, λ v m. absurd m)
