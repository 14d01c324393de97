use Rattle.std.proofs.Common.{◌≡◌, ◌≢◌, ℕ, Bool, true, false, List, [], ◌∷◌, inl, inr, refl, sym, ap, ◌∙◌}
use Rattle.std.specs.Prelude.{◌⊎◌, nat_eq}
use Rattle.std.specs.Cmp.Lexicographic.{pointwise, same_text, other_text}
use Rattle.mr_base.specs.declared.ids.AttemptId.{AttemptId}
use Rattle.mr_base.specs.declared.timestamps.Ts.{Ts}
use Rattle.range_log.specs.Facts.{Laid, HasIntent, HasRecord}
use Rattle.range_log.specs.declared.entries.Entry.{Entry}
use Rattle.range_log.specs.declared.entries.Entry.TheVariants as log
use Rattle.range_log.specs.declared.entries.TxnState.{TxnState}
use Rattle.range_log.specs.declared.entries.TxnState.TheVariants as records
use Rattle.one_node_laws.specs.Words.{HasPut}

key_by_test : (k l : List ℕ) (t : Bool) → t ≡ pointwise nat_eq k l → (k ≡ l) ⊎ (k ≢ l)
key_by_test k l true e = inl (same_text k l e)
key_by_test k l false e = inr (other_text k l e)

-- two keys are the same or aren't
pub same_or_not : (k l : List ℕ) → (k ≡ l) ⊎ (k ≢ l)
same_or_not k l = key_by_test k l (pointwise nat_eq k l) refl

-- an attempt has one record
pub one_record : (l : List Entry) (a : AttemptId) (p q : TxnState) → HasRecord a p l → HasRecord a q l → p ≡ q
one_record [] a p q h g = absurd h
one_record (log.State b s ∷ older) a p q (inl (e, f)) (inl (e', f')) = sym f ∙ f'
one_record (log.State b s ∷ older) a p q (inl (e, f)) (inr (n, g)) = absurd (n e)
one_record (log.State b s ∷ older) a p q (inr (n, h)) (inl (e, f)) = absurd (n e)
one_record (log.State b s ∷ older) a p q (inr (n, h)) (inr (n', g)) = one_record older a p q h g
one_record (e ∷ older) a p q h g = one_record older a p q h g

committed_same : {c d : Ts} → records.Committed c ≡ records.Committed d → c ≡ d
committed_same e = cc

pub one_commit_of : (l : List Entry) (a : AttemptId) (c d : Ts) → HasRecord a (records.Committed c) l → HasRecord a (records.Committed d) l → c ≡ d
one_commit_of l a c d h g = committed_same (one_record l a (records.Committed c) (records.Committed d) h g)

-- an intent is a put of its attempt, and a key has one
pub intent_put : (l : List Entry) (key : List ℕ) (i : Laid) → HasIntent key i l → HasPut i.attempt key i.value i.ts l
intent_put [] key i h = absurd h
intent_put (log.Put attempt start anchor ts k v ∷ older) key i (inl (e, q)) = inl (sym (ap (λ (y : Laid). y.attempt) q), e, sym (ap (λ (y : Laid). y.value) q), sym (ap (λ (y : Laid). y.ts) q))
intent_put (log.Put attempt start anchor ts k v ∷ older) key i (inr (n, h)) = inr (intent_put older key i h)
intent_put (log.Resolve attempt k fate ∷ older) key i (h, n) = intent_put older key i h
intent_put (e ∷ older) key i h = intent_put older key i h

pub one_intent : (l : List Entry) (key : List ℕ) (i j : Laid) → HasIntent key i l → HasIntent key j l → i ≡ j
one_intent [] key i j h g = absurd h
one_intent (log.Put attempt start anchor ts k v ∷ older) key i j (inl (e, q)) (inl (e', q')) = q ∙ sym q'
one_intent (log.Put attempt start anchor ts k v ∷ older) key i j (inl (e, q)) (inr (n, g)) = absurd (n e)
one_intent (log.Put attempt start anchor ts k v ∷ older) key i j (inr (n, h)) (inl (e, q)) = absurd (n e)
one_intent (log.Put attempt start anchor ts k v ∷ older) key i j (inr (n, h)) (inr (n', g)) = one_intent older key i j h g
one_intent (log.Resolve attempt k fate ∷ older) key i j (h, n) (g, m) = one_intent older key i j h g
one_intent (e ∷ older) key i j h g = one_intent older key i j h g
