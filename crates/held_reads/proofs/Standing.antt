use Rattle.std.proofs.Common.{◌≡◌, ◌≢◌, ℕ, List, [], ◌∷◌, inl, inr, refl, sym, ap, ◌∙◌, subst}
use Rattle.std.specs.Prelude.{◌⊎◌, Option, Some}
use Rattle.mr_base.specs.Timestamps.{IsBelow}
use Rattle.mr_base.specs.declared.ids.AttemptId.{AttemptId}
use Rattle.mr_base.specs.declared.messages.Fate.{Fate}
use Rattle.mr_base.specs.declared.messages.Fate.TheVariants as fates
use Rattle.mr_base.specs.declared.timestamps.Ts.{Ts}
use Rattle.range_log.specs.Facts.{Laid, HasIntent, HasVersion, Makes, Version}
use Rattle.range_log.specs.declared.entries.Entry.{Entry}
use Rattle.range_log.specs.declared.entries.Entry.TheVariants as log
use Rattle.range_log.specs.declared.entries.TxnState.TheVariants as states
use Rattle.held_reads.proofs.Licenses.{AreLicensed, AreOwned, Records, attempt_by_number, intent_put, once, repeats_aborted, repeats_committed, repeats_pushed, same_attempt, same_key}
use Rattle.held_reads.proofs.LogWords.{PutIn}
use Rattle.held_reads.proofs.TsLemmas.{not_itself, total}

abbrev pub version_of : List ℕ → Ts → Option (List ℕ) → Version
version_of key ts v = record { key = key; ts = ts; value = v }

-- what became of a put in a log: it is an intent; or its attempt is committed, and it is a version; or its attempt is
-- aborted
abbrev pub Standing : Records → List Entry → AttemptId → Ts → List ℕ → Option (List ℕ) → Type 0
Standing rec l a p key v =
    ((i : Laid) × HasIntent key i l × (i.attempt ≡ a) × (i.value ≡ v) × (i.ts ≡ p))
    ⊎ (((c : Ts) × (rec a ≡ Some (states.Committed c)) × HasVersion (version_of key c v) l)
    ⊎ ((by : AttemptId) × (rec a ≡ Some (states.Aborted by))))

-- an entry that touches no intent and makes no version
quiet : (rec : Records) (e : Entry) (l : List Entry) (a : AttemptId) (p : Ts) (key : List ℕ) (v : Option (List ℕ)) → ((i : Laid) → HasIntent key i l → HasIntent key i (e ∷ l))
    → ((w : Version) → ¬ Makes e l w) → Standing rec l a p key v → Standing rec (e ∷ l) a p key v
quiet rec e l a p key v keeps none (inl (i, int, x, y, z)) = inl (i, keeps i int, x, y, z)
quiet rec e l a p key v keeps none (inr (inl (c, r, ver))) = inr (inl (c, r, inr (ver, λ w m. absurd (none w m))))
quiet rec e l a p key v keeps none (inr (inr b)) = inr (inr b)

module _ (rec : Records) (own : AreOwned rec) where
  -- a put over it
  under_put : (b : AttemptId) (start : Ts) (anchor : _) (ts : Ts) (k : List ℕ) (x : Option (List ℕ)) (l : List Entry) → AreLicensed rec (log.Put b start anchor ts k x ∷ l)
      → (a : AttemptId) (p : Ts) (key : List ℕ) (v : Option (List ℕ)) → PutIn a p key v l → (k ≡ key) ⊎ (k ≢ key) → Standing rec l a p key v
      → Standing rec (log.Put b start anchor ts k x ∷ l) a p key v
  under_put b start anchor ts k x l lic a p key v h same (inr (inl (c, r, ver))) = inr (inl (c, r, inr (ver, λ w m. absurd m)))
  under_put b start anchor ts k x l lic a p key v h same (inr (inr y)) = inr (inr y)
  under_put b start anchor ts k x l lic a p key v h (inr n) (inl (i, int, ia, iv, it)) = inl (i, inr (n, int), ia, iv, it)
  under_put b start anchor ts k x l lic a p key v h (inl e) (inl (i, int, ia, iv, it)) =
      let here : HasIntent k i l = subst (λ (y : List ℕ). HasIntent y i l) (sym e) int in
      let one : a ≡ b = sym ia ∙ lic.0.alone i here in
      absurd (lic.0.first p v (subst (λ (y : AttemptId). PutIn y p k v l) one (subst (λ (y : List ℕ). PutIn a p y v l) (sym e) h)))

  -- a resolve over a version, at the same key
  same_version : (b : AttemptId) (k : List ℕ) (d : Ts) (l : List Entry) → AreLicensed rec (log.Resolve b k (fates.Committed d) ∷ l)
      → (a : AttemptId) (p : Ts) (key : List ℕ) (v : Option (List ℕ)) (c : Ts) → PutIn a p key v l → k ≡ key → rec a ≡ Some (states.Committed c) → c ≡ d
      → HasVersion (version_of key c v) (log.Resolve b k (fates.Committed d) ∷ l)
  same_version b k d l lic a p key v c h e r t =
      let of_b : rec b ≡ Some (states.Committed d) = repeats_committed (rec b) d lic.0.0 in
      let one : b ≡ a = attempt_by_number b a (sym (own b d of_b).0 ∙ ap (λ (y : Ts). y.owner) (sym t) ∙ (own a c r).0) in
      let i : Laid = lic.0.1.0 in
      let mine : i.attempt ≡ a = lic.0.1.2 ∙ one in
      let put : PutIn a i.ts key i.value l =
      subst (λ (y : AttemptId). PutIn y i.ts key i.value l) mine
      (subst (λ (y : List ℕ). PutIn i.attempt i.ts y i.value l) e (intent_put l k i lic.0.1.1)) in
      let value : i.value ≡ v = (once rec l a i.ts p key i.value v lic.1 put h).0 in
      inl (sym e, t, i, lic.0.1.1, lic.0.1.2, value)

  over_version : (b : AttemptId) (k : List ℕ) (f : Fate) (l : List Entry) → AreLicensed rec (log.Resolve b k f ∷ l)
      → (a : AttemptId) (p : Ts) (key : List ℕ) (v : Option (List ℕ)) (c : Ts) → PutIn a p key v l → rec a ≡ Some (states.Committed c) → HasVersion (version_of key c v) l
      → (k ≡ key) ⊎ (k ≢ key) → HasVersion (version_of key c v) (log.Resolve b k f ∷ l)
  over_version b k (fates.Committed d) l lic a p key v c h r ver (inr n) = inr (ver, λ w m q. n (sym m.0 ∙ q.0))
  over_version b k (fates.Committed d) l lic a p key v c h r ver (inl e) = by (total c d)
    where
      by : IsBelow c d ⊎ ((c ≡ d) ⊎ IsBelow d c) → HasVersion (version_of key c v) (log.Resolve b k (fates.Committed d) ∷ l)
      by (inl t) = inr (ver, λ w m q. not_itself d (subst (λ (y : Ts). IsBelow y d) (sym q.1 ∙ m.1) t))
      by (inr (inl t)) = same_version b k d l lic a p key v c h e r t
      by (inr (inr t)) = inr (ver, λ w m q. not_itself d (subst (λ (y : Ts). IsBelow d y) (sym q.1 ∙ m.1) t))
  over_version b k fates.Aborted l lic a p key v c h r ver same = inr (ver, λ w m. absurd m)
  over_version b k (fates.Pushed t) l lic a p key v c h r ver same = inr (ver, λ w m. absurd m)

  -- a resolve over an intent
  resolved : (b : AttemptId) (k : List ℕ) (f : Fate) (l : List Entry) → AreLicensed rec (log.Resolve b k f ∷ l)
      → (a : AttemptId) (p : Ts) (key : List ℕ) (v : Option (List ℕ)) (i : Laid) → HasIntent key i l → i.attempt ≡ a → i.value ≡ v → k ≡ key → b ≡ a
      → Standing rec (log.Resolve b k f ∷ l) a p key v
  resolved b k (fates.Committed d) l lic a p key v i int ia iv e s =
      inr (inl (
        d,
        subst (λ (y : AttemptId). rec y ≡ Some (states.Committed d)) s (repeats_committed (rec b) d lic.0.0),
        inl (sym e, refl, i, subst (λ (y : List ℕ). HasIntent y i l) (sym e) int, ia ∙ sym s, iv),
      ))
  resolved b k fates.Aborted l lic a p key v i int ia iv e s =
      let g : (by : AttemptId) × (rec b ≡ Some (states.Aborted by)) = repeats_aborted (rec b) lic.0.0 in
      inr (inr (g.0, subst (λ (y : AttemptId). rec y ≡ Some (states.Aborted g.0)) s g.1))
  resolved b k (fates.Pushed t) l lic a p key v i int ia iv e s = absurd (repeats_pushed (rec b) t lic.0.0)

  over_intent : (b : AttemptId) (k : List ℕ) (f : Fate) (l : List Entry) → AreLicensed rec (log.Resolve b k f ∷ l)
      → (a : AttemptId) (p : Ts) (key : List ℕ) (v : Option (List ℕ)) (i : Laid) → HasIntent key i l → i.attempt ≡ a → i.value ≡ v → i.ts ≡ p
      → (k ≡ key) ⊎ (k ≢ key) → (b ≡ a) ⊎ (b ≢ a) → Standing rec (log.Resolve b k f ∷ l) a p key v
  over_intent b k f l lic a p key v i int ia iv it (inr n) s = inl (i, (int, λ e q. n e), ia, iv, it)
  over_intent b k f l lic a p key v i int ia iv it (inl e) (inr n) = inl (i, (int, λ e q. n (q ∙ ia)), ia, iv, it)
  over_intent b k f l lic a p key v i int ia iv it (inl e) (inl s) = resolved b k f l lic a p key v i int ia iv e s

  under_resolve : (b : AttemptId) (k : List ℕ) (f : Fate) (l : List Entry) → AreLicensed rec (log.Resolve b k f ∷ l)
      → (a : AttemptId) (p : Ts) (key : List ℕ) (v : Option (List ℕ)) → PutIn a p key v l → Standing rec l a p key v → Standing rec (log.Resolve b k f ∷ l) a p key v
  under_resolve b k f l lic a p key v h (inl (i, int, ia, iv, it)) = over_intent b k f l lic a p key v i int ia iv it (same_key k key) (same_attempt b a)
  under_resolve b k f l lic a p key v h (inr (inl (c, r, ver))) = inr (inl (c, r, over_version b k f l lic a p key v c h r ver (same_key k key)))
  under_resolve b k f l lic a p key v h (inr (inr y)) = inr (inr y)

  -- each put of a log stands
  pub stands : (l : List Entry) → AreLicensed rec l → (a : AttemptId) (p : Ts) (key : List ℕ) (v : Option (List ℕ)) → PutIn a p key v l → Standing rec l a p key v
  stands [] lic a p key v h = absurd h
  stands (log.Put b start anchor ts k x ∷ l) lic a p key v (inl h) =
      inl (record { attempt = b; start = start; anchor = anchor; ts = ts; value = x }, inl (h.2, refl), h.0, h.3, h.1)
  stands (log.Put b start anchor ts k x ∷ l) lic a p key v (inr h) =
      under_put b start anchor ts k x l lic a p key v h (same_key k key) (stands l lic.1 a p key v h)
  stands (log.Resolve b k f ∷ l) lic a p key v h = under_resolve b k f l lic a p key v h (stands l lic.1 a p key v h)
  stands (log.Load ts k x ∷ l) lic a p key v h = absurd (lic.0.before a p key v h)
  stands (log.Lease x ∷ l) lic a p key v h = quiet rec (log.Lease x) l a p key v (λ i g. g) (λ w m. m) (stands l lic.1 a p key v h)
  stands (log.State b s ∷ l) lic a p key v h = quiet rec (log.State b s) l a p key v (λ i g. g) (λ w m. m) (stands l lic.1 a p key v h)
  stands (log.Close ts ∷ l) lic a p key v h = quiet rec (log.Close ts) l a p key v (λ i g. g) (λ w m. m) (stands l lic.1 a p key v h)
