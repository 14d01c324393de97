use Rattle.std.proofs.Common.{◌≡◌, ◌≢◌, ℕ, List, ◌∷◌, inl, inr, ⊎_elim, refl, sym, ap, ◌∙◌, subst}
use Rattle.std.specs.Prelude.{◌⊎◌, Option, Some}
use Rattle.mr_base.specs.Timestamps.{IsBelow}
use Rattle.mr_base.specs.declared.ids.AttemptId.{AttemptId}
use Rattle.mr_base.specs.declared.ids.RangeId.{RangeId}
use Rattle.mr_base.specs.declared.messages.Fate.TheVariants as fates
use Rattle.mr_base.specs.declared.timestamps.Reading.{Reading}
use Rattle.mr_base.specs.declared.timestamps.Ts.{Ts}
use Rattle.range_log.specs.Facts.{Laid, HasIntent, HasRecord, HasVersion}
use Rattle.range_log.specs.declared.entries.Entry.{Entry}
use Rattle.range_log.specs.declared.entries.Entry.TheVariants as log
use Rattle.range_log.specs.declared.entries.Lease.{Lease}
use Rattle.range_log.specs.declared.entries.TxnState.{TxnState}
use Rattle.range_log.specs.declared.entries.TxnState.TheVariants as records
use Rattle.one_node_laws.proofs.Core.{Core}
use Rattle.one_node_laws.proofs.LogFacts.{intent_put, one_commit_of, one_intent, same_or_not}
use Rattle.one_node_laws.specs.Decided.{Decided}
use Rattle.one_node_laws.specs.Words.{HasPut}

-- a lease
abbrev pub core_lease : (l : List Entry) (r : Reading) (W : Decided → Type 0) (lease : Lease) → Core l r W → Core (log.Lease lease ∷ l) r W
core_lease l r W lease core =
    record {
      decided = core.decided;
      falling = core.falling;
      are = core.are;
      past = core.past;
      valid = core.valid;
      recorded = core.recorded;
      puts_held = core.puts_held;
      held_puts = core.held_puts;
      one_writer = core.one_writer;
      low = core.low;
      one_put = core.one_put;
      versions = λ v h. ⊎_elim (λ e. absurd e) (λ (q : HasVersion v l × _). core.versions v q.0) h;
      stands = λ a key u p h. ⊎_elim (λ x. inl x) (λ (x : (c : Ts) × HasRecord a (records.Committed c) l × HasVersion (record { key = key; ts = c; value = u }) l). inr (x.0, x.1, inr (x.2, λ w m. absurd m))) (core.stands a key u p h);
    }

module _ (l : List Entry) (r : Reading) (W : Decided → Type 0) (core : Core l r W) (a : AttemptId) (start : Ts) (anchor : RangeId) (ts : Ts) (k : List ℕ) (v : Option (List ℕ))
    (alone : (i : Laid) → HasIntent k i l → i.attempt ≡ a) (first : (u : Option (List ℕ)) (p : Ts) → ¬ HasPut a k u p l) (undecided : (state : TxnState) → ¬ HasRecord a state l) where
  abbrev the_put : Entry
  the_put = log.Put a start anchor ts k v

  -- a put of an attempt that isn't committed is none of a committed one
  pub old_put : (b : AttemptId) (c : Ts) (key : List ℕ) (u : Option (List ℕ)) (p : Ts) → HasRecord b (records.Committed c) l → HasPut b key u p (the_put ∷ l) → HasPut b key u p l
  old_put b c key u p rec (inl (e, f, g, h)) = absurd (undecided (records.Committed c) (subst (λ (y : AttemptId). HasRecord y (records.Committed c) l) (sym e) rec))
  old_put b c key u p rec (inr h) = h

  pub one_put : (b : AttemptId) (key : List ℕ) (u w : Option (List ℕ)) (p q : Ts) → HasPut b key u p (the_put ∷ l) → HasPut b key w q (the_put ∷ l) → u ≡ w
  one_put b key u w p q (inl (e, f, g, h)) (inl (e', f', g', h')) = sym g ∙ g'
  one_put b key u w p q (inl (e, f, g, h)) (inr n) = absurd (first w q (subst (λ (y : AttemptId). HasPut y k w q l) (sym e) (subst (λ (y : List ℕ). HasPut b y w q l) (sym f) n)))
  one_put b key u w p q (inr n) (inl (e, f, g, h)) = absurd (first u p (subst (λ (y : AttemptId). HasPut y k u p l) (sym e) (subst (λ (y : List ℕ). HasPut b y u p l) (sym f) n)))
  one_put b key u w p q (inr n) (inr m) = core.one_put b key u w p q n m

  still : (b : AttemptId) (key : List ℕ) (u : Option (List ℕ)) (p : Ts) → HasPut b key u p l → (k ≡ key) ⊎ (k ≢ key)
      → (((i : Laid) × HasIntent key i l × (i.attempt ≡ b) × (i.value ≡ u) × (i.ts ≡ p)) ⊎ ((c : Ts) × HasRecord b (records.Committed c) l × HasVersion (record { key = key; ts = c; value = u }) l))
      → ((i : Laid) × HasIntent key i (the_put ∷ l) × (i.attempt ≡ b) × (i.value ≡ u) × (i.ts ≡ p))
      ⊎ ((c : Ts) × HasRecord b (records.Committed c) l × HasVersion (record { key = key; ts = c; value = u }) (the_put ∷ l))
  still b key u p h same (inr (c, rec, ver)) = inr (c, rec, inr (ver, λ w m. absurd m))
  still b key u p h (inr n) (inl (i, int, x, y, z)) = inl (i, inr (n, int), x, y, z)
  still b key u p h (inl e) (inl (i, int, x, y, z)) =
      absurd (first u p (subst (λ (y : AttemptId). HasPut y k u p l) (sym x ∙ alone i (subst (λ (y : List ℕ). HasIntent y i l) (sym e) int)) (subst (λ (y : List ℕ). HasPut b y u p l) (sym e) h)))

  pub stands : (b : AttemptId) (key : List ℕ) (u : Option (List ℕ)) (p : Ts) → HasPut b key u p (the_put ∷ l)
      → ((i : Laid) × HasIntent key i (the_put ∷ l) × (i.attempt ≡ b) × (i.value ≡ u) × (i.ts ≡ p))
      ⊎ ((c : Ts) × HasRecord b (records.Committed c) l × HasVersion (record { key = key; ts = c; value = u }) (the_put ∷ l))
  stands b key u p (inl (e, f, g, h)) = inl (record { attempt = a; start = start; anchor = anchor; ts = ts; value = v }, inl (f, refl), e, g, h)
  stands b key u p (inr h) = still b key u p h (same_or_not k key) (core.stands b key u p h)

  -- a put
  abbrev pub core_put : Core (the_put ∷ l) r W
  core_put =
      record {
        decided = core.decided;
        falling = core.falling;
        are = core.are;
        past = core.past;
        valid = core.valid;
        recorded = core.recorded;
        puts_held = λ t b c key value p rec put below. core.puts_held t b c key value p rec (old_put b c key value p rec put) below;
        held_puts = λ t key w h.
            let f : (b : AttemptId) × (c : Ts) × (p : Ts) × HasRecord b (records.Committed c) l × HasPut b key (Some w) p l × IsBelow c t = core.held_puts t key w h in
            (f.0, f.1, f.2, f.3, inr f.4, f.5);
        one_writer = λ b d c e key u w p q rb pb rd pd. core.one_writer b d c e key u w p q rb (old_put b c key u p rb pb) rd (old_put d e key w q rd pd);
        low = λ b c key u p rec put. core.low b c key u p rec (old_put b c key u p rec put);
        one_put = one_put;
        versions = λ w h. ⊎_elim (λ e. absurd e)
            (λ (q : HasVersion w l × _).
            let f : (b : AttemptId) × (p : Ts) × HasRecord b (records.Committed w.ts) l × HasPut b w.key w.value p l = core.versions w q.0 in
            (f.0, f.1, f.2, inr f.3)) h;
        stands = stands;
      }

module _ (l : List Entry) (r : Reading) (W : Decided → Type 0) (core : Core l r W) (a : AttemptId) (k : List ℕ) (ts : Ts) (decided : HasRecord a (records.Committed ts) l)
    (intent : Laid) (there : HasIntent k intent l) (own : intent.attempt ≡ a) where
  abbrev the_resolve : Entry
  the_resolve = log.Resolve a k (fates.Committed ts)

  own_put : HasPut a k intent.value intent.ts l
  own_put = subst (λ (y : AttemptId). HasPut y k intent.value intent.ts l) own (intent_put l k intent there)

  -- a version of a put stays, or is made again
  stays : (b : AttemptId) (key : List ℕ) (u : Option (List ℕ)) (p c : Ts) → HasPut b key u p l → HasRecord b (records.Committed c) l → HasVersion (record { key = key; ts = c; value = u }) l → (k ≡ key) ⊎ (k ≢ key)
      → HasVersion (record { key = key; ts = c; value = u }) (the_resolve ∷ l)
  stays b key u p c put rec ver (inr n) = inr (ver, λ w m q. n (sym m.0 ∙ q.0))
  stays b key u p c put rec ver (inl e) =
      let same : b ≡ a = core.one_writer b a c ts key u intent.value p intent.ts rec put decided (subst (λ (y : List ℕ). HasPut a y intent.value intent.ts l) e own_put) in
      let time : c ≡ ts = one_commit_of l a c ts (subst (λ (y : AttemptId). HasRecord y (records.Committed c) l) same rec) decided in
      let value : intent.value ≡ u = core.one_put a key intent.value u intent.ts p (subst (λ (y : List ℕ). HasPut a y intent.value intent.ts l) e own_put) (subst (λ (y : AttemptId). HasPut y key u p l) same put) in
      inl (sym e, time, intent, there, own, value)

  pub stands_by : (b : AttemptId) (key : List ℕ) (u : Option (List ℕ)) (p : Ts) → HasPut b key u p l → (k ≡ key) ⊎ (k ≢ key)
      → (((i : Laid) × HasIntent key i l × (i.attempt ≡ b) × (i.value ≡ u) × (i.ts ≡ p)) ⊎ ((c : Ts) × HasRecord b (records.Committed c) l × HasVersion (record { key = key; ts = c; value = u }) l))
      → ((i : Laid) × HasIntent key i (the_resolve ∷ l) × (i.attempt ≡ b) × (i.value ≡ u) × (i.ts ≡ p))
      ⊎ ((c : Ts) × HasRecord b (records.Committed c) l × HasVersion (record { key = key; ts = c; value = u }) (the_resolve ∷ l))
  stands_by b key u p put same (inr (c, rec, ver)) = inr (c, rec, stays b key u p c put rec ver same)
  stands_by b key u p put (inr n) (inl (i, int, x, y, z)) = inl (i, (int, λ e q. n e), x, y, z)
  stands_by b key u p put (inl e) (inl (i, int, x, y, z)) =
      let one : intent ≡ i = one_intent l k intent i there (subst (λ (y : List ℕ). HasIntent y i l) (sym e) int) in
      inr (
        ts,
        subst (λ (y : AttemptId). HasRecord y (records.Committed ts) l) (sym own ∙ ap (λ (y : Laid). y.attempt) one ∙ x) decided,
        inl (sym e, refl, intent, there, own, ap (λ (y : Laid). y.value) one ∙ y),
      )

  -- a resolve
  abbrev pub core_resolve : Core (the_resolve ∷ l) r W
  core_resolve =
      record {
        decided = core.decided;
        falling = core.falling;
        are = core.are;
        past = core.past;
        valid = core.valid;
        recorded = core.recorded;
        puts_held = core.puts_held;
        held_puts = core.held_puts;
        one_writer = core.one_writer;
        low = core.low;
        one_put = core.one_put;
        versions = λ v h. ⊎_elim
            (λ (q : (v.key ≡ k) × (v.ts ≡ ts) × (i : Laid) × HasIntent k i l × (i.attempt ≡ a) × (i.value ≡ v.value)). (
              a,
              q.2.ts,
              subst (λ (t : Ts). HasRecord a (records.Committed t) l) (sym q.1) decided,
              subst (λ (y : List ℕ). HasPut a y v.value q.2.ts l) (sym q.0) (subst (λ (y : Option (List ℕ)). HasPut a k y q.2.ts l) q.5 (subst (λ (y : AttemptId). HasPut y k q.2.value q.2.ts l) q.4 (intent_put l k q.2 q.3))),
            ))
            (λ (q : HasVersion v l × _). core.versions v q.0) h;
        stands = λ b key u p put. stands_by b key u p put (same_or_not k key) (core.stands b key u p put);
      }
