use Rattle.std.proofs.Common.{◌≡◌, ℕ, suc, ◌+◌, ◌≤◌, Bool, true, false, cond, max, min, List, [], ◌∷◌, length, ⊎_elim, refl, sym, subst, le_refl, le_trans, arith}
use Rattle.std.specs.Prelude.{◌==◌, ◌||◌, true}
use Rattle.journal.specs.declared.entries.JournalEntry.TheVariants as entry
use Rattle.mr_base.specs.declared.ids.NodeId.{NodeId}
use Rattle.mr_base.specs.declared.ids.RangeId.{RangeId}
use Rattle.range_log.specs.declared.entries.Entry.{Entry}
use Rattle.held_reads.proofs.Basics.{ranges_same}
use Rattle.held_reads.specs.KeepsReads.{KeepsReads}
use Rattle.run_laws.specs.OrderEvents.{IsApplied}
use Rattle.run_words.specs.History.{History, Item, Made}
use Rattle.run_words.specs.Logs.{actor, applied, is_node_of, log_of, makes_ranges}
use Rattle.run_words.specs.Setup.{Setup}
use Rattle.run_words.specs.Steps.{event_of}

max_least : (m n o : ℕ) → m ≤ o → n ≤ o → max m n ≤ o
max_least m n o p q = grind (arith, p, q)

max_left : (m n : ℕ) → m ≤ max m n
max_left m n = grind arith

max_right : (m n : ℕ) → n ≤ max m n
max_right m n = grind arith

min_right : (m n : ℕ) → min m n ≤ n
min_right m n = grind arith

rises : (t u : Bool) (old new : ℕ) → old ≤ cond t (cond u (max old new) old) old
rises true true old new = max_left old new
rises true false old new = le_refl _
rises false u old new = le_refl _

-- what a replica has applied only grows
pub applied_rises : (setup : Setup) (x : Item) (h : History) (n : NodeId) (j : RangeId) → applied setup h n j ≤ applied setup (x ∷ h) n j
applied_rises setup (Made (entry.Append range index e)) h n j =
    rises (range.0 == j.0) (makes_ranges (event_of h) || is_node_of (actor setup h range) n) (applied setup h n j) index
applied_rises setup (Made (entry.Apply node range count)) h n j = rises (range.0 == j.0) (node.0 == n.0) (applied setup h n j) count
applied_rises setup x h n j = le_refl _

pub applied_begins : (setup : Setup) (h : History) (n : NodeId) (j : RangeId) → length (setup.beginning j) ≤ applied setup h n j
applied_begins setup [] n j = le_refl _
applied_begins setup (x ∷ h) n j = le_trans (applied_begins setup h n j) (applied_rises setup x h n j)

within_append : (t u : Bool) (old index : ℕ) (e : Entry) (l : List Entry) → (t ≡ true → index ≡ length l + 1) → old ≤ length l
    → cond t (cond u (max old index) old) old ≤ length (cond t (e ∷ l) l)
within_append true true old index e l f p = max_least old index (suc (length l)) (omega (arith, p)) (let q : index ≡ length l + 1 = f refl in omega arith)
within_append true false old index e l f p = omega (arith, p)
within_append false u old index e l f p = p

within_apply : (t u : Bool) (old count len : ℕ) → (t ≡ true → count ≤ len) → old ≤ len → cond t (cond u (max old count) old) old ≤ len
within_apply true true old count len f p = max_least old count len p (f refl)
within_apply true false old count len f p = p
within_apply false u old count len f p = p

count_within : (setup : Setup) (h : History) (n : NodeId) (j : RangeId) (count : ℕ) → IsApplied setup h n j count → count ≤ length (log_of setup h j)
count_within setup h n j count k =
    ⊎_elim
    (λ q. subst (λ (c : ℕ). c ≤ length (log_of setup h j)) (sym q.2) (min_right (applied setup h n j + q.0) (length (log_of setup h j))))
    (λ q. subst (λ (c : ℕ). c ≤ length (log_of setup h j)) (sym q.1) (le_refl _))
    k.due

-- and never passes the log
pub applied_within : (setup : Setup) (h : History) → KeepsReads setup h → (n : NodeId) (j : RangeId) → applied setup h n j ≤ length (log_of setup h j)
applied_within setup [] k n j = le_refl _
applied_within setup (Made (entry.Append range index e) ∷ h) k n j =
    within_append (range.0 == j.0) (makes_ranges (event_of h) || is_node_of (actor setup h range) n) (applied setup h n j) index e (log_of setup h j)
    (λ t. subst (λ (r : RangeId). index ≡ length (log_of setup h r) + 1) (ranges_same range j t) k.0.appended.index_is)
    (applied_within setup h k.1 n j)
applied_within setup (Made (entry.Apply node range count) ∷ h) k n j =
    within_apply (range.0 == j.0) (node.0 == n.0) (applied setup h n j) count (length (log_of setup h j))
    (λ t. subst (λ (r : RangeId). count ≤ length (log_of setup h r)) (ranges_same range j t) (count_within setup h node range count k.0.order))
    (applied_within setup h k.1 n j)
applied_within setup (x ∷ h) k n j = applied_within setup h k.1 n j

-- who appends has applied what it appends
pub not_by : (u : Bool) (old index len m : ℕ) → cond u (max old index) old ≤ m → m ≤ len → index ≡ len + 1 → u ≡ false
not_by true old index len m p q e = let r : index ≤ max old index = max_right old index in absurd (omega (arith, p, q, e, r))
not_by false old index len m p q e = refl

pub or_false : (a b : Bool) → (a || b) ≡ false → b ≡ false
or_false true b e = absurd cc
or_false false b e = e
