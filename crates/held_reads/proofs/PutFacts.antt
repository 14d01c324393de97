use Rattle.std.proofs.Common.{◌≡◌, ℕ, List, [], ◌∷◌, inl, inr, ⊎_elim, refl, sym, ap, ◌∙◌, subst, arith}
use Rattle.std.specs.Prelude.{◌⊎◌, ◌==◌, Option}
use Rattle.std.specs.List.{Contains}
use Rattle.journal.specs.declared.entries.JournalEntry.TheVariants as entry
use Rattle.mr_base.specs.Timestamps.{IsBelow}
use Rattle.mr_base.specs.declared.ids.AttemptId.{AttemptId}
use Rattle.mr_base.specs.declared.ids.RangeId.{RangeId}
use Rattle.mr_base.specs.declared.timestamps.Ts.{Ts}
use Rattle.range_log.specs.declared.entries.Entry.TheVariants as log
use Rattle.range_rules.specs.Puts.{just_above}
use Rattle.held_reads.proofs.AttemptFacts.{is_numbered}
use Rattle.held_reads.proofs.TsLemmas.{below_trans, later_least, later_left, later_owner, later_right, le_trans, not_itself}
use Rattle.held_reads.specs.KeepsReads.{KeepsReads}
use Rattle.run_laws.specs.Laid.{IsPutLaid}
use Rattle.run_words.proofs.MemberLemmas.{contains_cases, contains_first, contains_later, contains_none, picked_cases}
use Rattle.run_words.specs.Attempts.{greatest_put}
use Rattle.run_words.specs.History.{History, Made}
use Rattle.run_words.specs.Puts.{PutMade, greatest_with, puts}
use Rattle.run_words.specs.Setup.{Setup}

-- the greatest of a timestamp and those of puts
pub greatest_not_below : (ts : Ts) (ps : List PutMade) → ¬ IsBelow (greatest_with ts ps) ts
greatest_not_below ts [] = not_itself ts
greatest_not_below ts (p ∷ ps) =
    le_trans ts (greatest_with ts ps) (greatest_with ts (p ∷ ps)) (greatest_not_below ts ps) (later_left (greatest_with ts ps) p.ts)

above_by : (ts : Ts) (q : PutMade) (ps : List PutMade) (p : PutMade) → (Contains ps p → ¬ IsBelow (greatest_with ts ps) p.ts) → (q ≡ p) ⊎ Contains ps p
    → ¬ IsBelow (greatest_with ts (q ∷ ps)) p.ts
above_by ts q ps p f (inl e) = subst (λ (y : PutMade). ¬ IsBelow (greatest_with ts (q ∷ ps)) y.ts) e (later_right (greatest_with ts ps) q.ts)
above_by ts q ps p f (inr c) = le_trans p.ts (greatest_with ts ps) (greatest_with ts (q ∷ ps)) (f c) (later_left (greatest_with ts ps) q.ts)

pub greatest_above_put : (ts : Ts) (ps : List PutMade) (p : PutMade) → Contains ps p → ¬ IsBelow (greatest_with ts ps) p.ts
greatest_above_put ts [] p c = absurd (contains_none p c)
greatest_above_put ts (q ∷ ps) p c = above_by ts q ps p (greatest_above_put ts ps p) (contains_cases q p ps c)

pub greatest_least : (b ts : Ts) (ps : List PutMade) → ¬ IsBelow b ts → ((p : PutMade) → Contains ps p → ¬ IsBelow b p.ts) → ¬ IsBelow b (greatest_with ts ps)
greatest_least b ts [] n f = n
greatest_least b ts (q ∷ ps) n f =
    later_least (greatest_with ts ps) q.ts b (greatest_least b ts ps n (λ p c. f p (contains_later q p ps c))) (f q (contains_first q ps))

pub greatest_owner : (ts : Ts) (ps : List PutMade) (o : ℕ) → ts.owner ≡ o → ((p : PutMade) → Contains ps p → p.ts.owner ≡ o) → (greatest_with ts ps).owner ≡ o
greatest_owner ts [] o e f = e
greatest_owner ts (q ∷ ps) o e f =
    later_owner (greatest_with ts ps) q.ts o (greatest_owner ts ps o e (λ p c. f p (contains_later q p ps c))) (f q (contains_first q ps))

above_itself : (f : Ts) (a : AttemptId) → IsBelow f (just_above f a)
above_itself f a = grind arith

module _ (setup : Setup) (h : History) (a : AttemptId) (j : RangeId) (start : Ts) (anchor : RangeId) (p : Ts) (key : List ℕ) (value : Option (List ℕ)) (laid : IsPutLaid setup h a j start anchor p key value) where
  abbrev asked : Ts
  asked = greatest_put h a laid.attempt.read_at

  high_by : {W : Ts → Type 0} → (p ≡ asked) ⊎ ((f : Ts) × W f × IsBelow asked f × (p ≡ just_above f a)) → ¬ IsBelow p asked
  high_by (inl e) = subst (λ (t : Ts). ¬ IsBelow t asked) (sym e) (not_itself asked)
  high_by (inr (f, way, above, e)) =
      subst (λ (t : Ts). ¬ IsBelow t asked) (sym e)
      (λ low. not_itself asked (below_trans asked (just_above f a) asked (below_trans asked f (just_above f a) above (above_itself f a)) low))

  -- a put isn't below where it was asked
  pub laid_high : ¬ IsBelow p (greatest_put h a laid.attempt.read_at)
  laid_high = high_by laid.placed.at

  owner_by : {W : Ts → Type 0} → asked.owner ≡ a.0 → (p ≡ asked) ⊎ ((f : Ts) × W f × IsBelow asked f × (p ≡ just_above f a)) → p.owner ≡ a.0
  owner_by o (inl e) = ap (λ (t : Ts). t.owner) e ∙ o
  owner_by o (inr (f, way, above, e)) = ap (λ (t : Ts). t.owner) e

  -- and its attempt owns it, if it owns where it reads and its earlier puts
  pub laid_owner : laid.attempt.read_at.owner ≡ a.0 → ((q : PutMade) → Contains (puts h a) q → q.ts.owner ≡ a.0) → p.owner ≡ a.0
  laid_owner o f = owner_by (greatest_owner laid.attempt.read_at (puts h a) a.0 o f) laid.placed.at

-- an attempt owns its puts
pub put_owned : (setup : Setup) (h : History) → KeepsReads setup h → (a : AttemptId) (p : PutMade) → Contains (puts h a) p → p.ts.owner ≡ a.0
put_owned setup [] k a p c = absurd (contains_none p c)
put_owned setup (Made (entry.Append range index (log.Put b start anchor ts key value)) ∷ h) k a p c =
    ⊎_elim
    (λ (q : (b ≡ a) × (p ≡ _)). ap (λ (y : PutMade). y.ts.owner) q.1
    ∙ (laid_owner setup h b range start anchor ts key value k.0.laid (is_numbered setup h k.1 b k.0.laid.attempt k.0.laid.is_attempt).owned (put_owned setup h k.1 b)
    ∙ ap (λ (y : AttemptId). y.0) q.0))
    (λ q. put_owned setup h k.1 a p q)
    (picked_cases (b.0 == a.0) b a _ p (puts h a) refl c)
put_owned setup (x ∷ h) k a p c = put_owned setup h k.1 a p c
