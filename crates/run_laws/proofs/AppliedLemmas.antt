use Rattle.std.proofs.Common.{◌≡◌, ℕ, Bool, true, false, List, [], ◌∷◌, inl, inr, refl, ap, subst, arith}
use Rattle.std.specs.Prelude.{◌+◌, ◌≤◌, ◌==◌, ◌||◌, if◌then◌else◌, length, max, min}
use Rattle.std.proofs.lemmas.Bool.{eqb-true}
use Rattle.mr_base.specs.declared.ids.NodeId.{NodeId}
use Rattle.mr_base.specs.declared.ids.RangeId.{RangeId}
use Rattle.range_log.specs.declared.entries.Entry.{Entry}
use Rattle.journal.specs.declared.entries.JournalEntry.TheVariants as entry
use Rattle.run_laws.specs.Lawful.{IsLawful}
use Rattle.run_laws.specs.OrderEvents.{IsApplyDue}
use Rattle.run_words.specs.History.{Made, History}
use Rattle.run_words.specs.Logs.{actor, applied, is_node_of, log_of, makes_ranges}
use Rattle.run_words.specs.Setup.{Setup}
use Rattle.run_words.specs.Steps.{event_of}

appended_within : (t c : Bool) (old index : ℕ) (e : Entry) (entries : List Entry) → (t ≡ true → index ≡ length entries + 1)
    → old ≤ length entries → (if t then (if c then max old index else old) else old) ≤ length (if t then e ∷ entries else entries)
appended_within true true old index e entries f g = let at : index ≡ length entries + 1 = f refl in grind (arith, at, g)
appended_within true false old index e entries f g = grind (arith, g)
appended_within false c old index e entries f g = g

applied_within_here : (t c : Bool) (old count most : ℕ) → (t ≡ true → c ≡ true → count ≤ most) → old ≤ most
    → (if t then (if c then max old count else old) else old) ≤ most
applied_within_here true true old count most f g = let at : count ≤ most = f refl refl in grind (arith, at, g)
applied_within_here true false old count most f g = g
applied_within_here false c old count most f g = g

same_range : (r j : RangeId) → (r.0 == j.0) ≡ true → r ≡ j
same_range r j e = ap (λ (k : ℕ). let c : RangeId = record { 0 = k } in c) (eqb-true r.0 j.0 e)

-- what is due to be applied stands in the log
due_within : (setup : Setup) (h : History) (n : NodeId) (j : RangeId) (count : ℕ) → IsApplyDue setup h n j count → count ≤ length (log_of setup h j)
due_within setup h n j count (inl d) = let at : count ≡ min (applied setup h n j + d.0) (length (log_of setup h j)) = d.2 in grind (arith, at)
due_within setup h n j count (inr d) = let at : count ≡ length (log_of setup h j) = d.1 in grind (arith, at)

within_of : (setup : Setup) (h : History) (r j : RangeId) (count : ℕ) → count ≤ length (log_of setup h r) → r ≡ j → count ≤ length (log_of setup h j)
within_of setup h r j count f e = subst (λ (i : RangeId). count ≤ length (log_of setup h i)) e f

index_of : (setup : Setup) (h : History) (r j : RangeId) (index : ℕ) → index ≡ length (log_of setup h r) + 1 → r ≡ j → index ≡ length (log_of setup h j) + 1
index_of setup h r j index f e = subst (λ (i : RangeId). index ≡ length (log_of setup h i) + 1) e f

itself_within : (k : ℕ) → k ≤ k
itself_within k = omega arith

-- no node has applied more than stands in the log
pub applied_is_within : (setup : Setup) (h : History) (n : NodeId) (j : RangeId) → IsLawful setup h → applied setup h n j ≤ length (log_of setup h j)
applied_is_within setup [] n j l = itself_within (length (setup.beginning j))
applied_is_within setup (Made (entry.Append r index e) ∷ h) n j l =
    appended_within (r.0 == j.0) (makes_ranges (event_of h) || is_node_of (actor setup h r) n) (applied setup h n j) index e (log_of setup h j)
    (λ s. index_of setup h r j index l.0.appended.index_is (same_range r j s)) (applied_is_within setup h n j l.1)
applied_is_within setup (Made (entry.Apply m r count) ∷ h) n j l =
    applied_within_here (r.0 == j.0) (m.0 == n.0) (applied setup h n j) count (length (log_of setup h j))
    (λ s u. within_of setup h r j count (due_within setup h m r count l.0.order.due) (same_range r j s)) (applied_is_within setup h n j l.1)
applied_is_within setup (x ∷ h) n j l = applied_is_within setup h n j l.1
