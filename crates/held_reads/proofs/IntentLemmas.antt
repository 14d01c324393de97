use Rattle.std.proofs.Common.{◌≡◌, ℕ, List, [], ◌∷◌, inl, inr, sym, ap, ◌∙◌, subst}
use Rattle.std.specs.Prelude.{Option, Some}
use Rattle.mr_base.specs.declared.ids.AttemptId.{AttemptId}
use Rattle.mr_base.specs.declared.ids.RangeId.{RangeId}
use Rattle.mr_base.specs.declared.messages.Fate.TheVariants as fates
use Rattle.mr_base.specs.declared.timestamps.Ts.{Ts}
use Rattle.range_log.specs.Facts.{HasIntent, HasVersion, Laid, Version}
use Rattle.range_log.specs.declared.entries.Entry.{Entry}
use Rattle.range_log.specs.declared.entries.Entry.TheVariants as log
use Rattle.range_log.specs.declared.entries.TxnState.TheVariants as states
use Rattle.held_reads.proofs.Licenses.{AreLicensed, AreOwned, Records, attempt_by_number, repeats_committed}
use Rattle.held_reads.proofs.LogWords.{PutIn}
use Rattle.held_reads.proofs.VersionLemmas.{Made, load_unowned, unowned_apart, versions}

module _ (rec : Records) (own : AreOwned rec) where
  -- two attempts that committed at one timestamp are one
  pub one_owner : (a b : AttemptId) (c : Ts) → rec a ≡ Some (states.Committed c) → rec b ≡ Some (states.Committed c) → a ≡ b
  one_owner a b c p q = attempt_by_number a b (sym (own a c p).0 ∙ (own b c q).0)

  not_before : (b : AttemptId) (start : Ts) (anchor : RangeId) (ts : Ts) (k : List ℕ) (x : Option (List ℕ)) (l : List Entry) → AreLicensed rec (log.Put b start anchor ts k x ∷ l)
      → (v : Version) → rec b ≡ Some (states.Committed v.ts) → k ≡ v.key → Made rec l v → ⊥
  not_before b start anchor ts k x l lic v r e (inl (a, p, ra, w)) =
      lic.0.first p v.value
      (subst (λ (y : AttemptId). PutIn y p k v.value l) (one_owner a b v.ts ra r) (subst (λ (y : List ℕ). PutIn a p y v.value l) (sym e) w))
  not_before b start anchor ts k x l lic v r e (inr (w, load, q)) =
      unowned_apart v.ts b (load_unowned rec l v.ts v.key w lic.1 load) (own b v.ts r).0 (own b v.ts r).1

  -- where an attempt's put is a version it is no intent any more
  pub no_version : (l : List Entry) → AreLicensed rec l → (v : Version) → HasVersion v l → (i : Laid) → HasIntent v.key i l → rec i.attempt ≡ Some (states.Committed v.ts) → ⊥
  no_version [] lic v ver i int r = absurd ver
  no_version (log.Put b start anchor ts k x ∷ l) lic v (inl m) i int r = absurd m
  no_version (log.Put b start anchor ts k x ∷ l) lic v (inr ver) i (inl (e, q)) r =
      not_before b start anchor ts k x l lic v (subst (λ (y : Laid). rec y.attempt ≡ Some (states.Committed v.ts)) q r) e (versions rec l lic.1 v ver.0)
  no_version (log.Put b start anchor ts k x ∷ l) lic v (inr ver) i (inr (n, int)) r = no_version l lic.1 v ver.0 i int r
  no_version (log.Resolve b k (fates.Committed d) ∷ l) lic v (inl m) i int r =
      let of_b : rec b ≡ Some (states.Committed v.ts) = repeats_committed (rec b) d lic.0.0 ∙ ap (λ (t : Ts). Some (states.Committed t)) (sym m.1) in
      int.1 (sym m.0) (one_owner b i.attempt v.ts of_b r)
  no_version (log.Resolve b k f ∷ l) lic v (inr ver) i int r = no_version l lic.1 v ver.0 i int.0 r
  no_version (log.Load ts k x ∷ l) lic v (inl m) i int r =
      unowned_apart v.ts i.attempt (ap (λ (y : Version). y.ts.owner) m ∙ lic.0.unowned) (own i.attempt v.ts r).0 (own i.attempt v.ts r).1
  no_version (e ∷ l) lic v (inl m) i int r = absurd m
  no_version (e ∷ l) lic v (inr ver) i int r = no_version l lic.1 v ver.0 i int r
