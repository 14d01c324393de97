use Rattle.std.proofs.Common.{◌≡◌, ℕ, List, [], ◌∷◌, ◌++◌, ◌≤◌, ◌<◌, ◌+◌, inl, inr, sym, ap, ◌∙◌, subst, arith}
use Rattle.std.specs.Prelude.{reverse, ◌⊎◌}
use Rattle.std.proofs.lemmas.List.{reverse-append}
use Rattle.mr_base.specs.declared.ids.RangeId.{RangeId}
use Rattle.mr_base.specs.declared.timestamps.Reading.{Reading}
use Rattle.mr_base.specs.declared.timestamps.Ts.{Ts}
use Rattle.range_log.specs.declared.entries.Entry.TheVariants as log
use Rattle.one_node_laws.specs.Words.{ServedRead, WasServed}
use Rattle.journal.specs.declared.entries.JournalEntry.{JournalEntry}
use Rattle.journal.specs.declared.entries.JournalEntry.TheVariants as entry
use Rattle.one_node.specs.Bounds.{IsBehind}
use Rattle.one_node.specs.Kept.{IsWithin, AreWithin}

-- the journal is read off its entries, the newest first
pub journal_is : (old steps new : List JournalEntry) → new ≡ old ++ steps → reverse new ≡ reverse steps ++ reverse old
journal_is old steps new e = ap reverse e ∙ reverse-append old steps

-- what isn't ahead of a clock isn't ahead of what it gives next
pub behind_next : (k : Reading) (count : ℕ) (n : Reading) → ((k.wall < n.wall) ⊎ ((k.wall ≡ n.wall) × (k.logical < n.logical))) → (ts : Ts) → IsBehind k count ts → IsBehind n (count + 1) ts
behind_next k count n ahead ts h = record { wall = grind (arith, h.wall); logical = λ e. grind (arith, h.wall, h.logical); small = grind (arith, h.small) }

step_back : (k : Reading) (count : ℕ) (n : Reading) → ((k.wall < n.wall) ⊎ ((k.wall ≡ n.wall) × (k.logical < n.logical))) → (e : JournalEntry) → IsWithin k count e → IsWithin n (count + 1) e
step_back k count n ahead (entry.Begin txn attempt gateway start limit) h = omega (arith, h)
step_back k count n ahead (entry.Serve attempt node range span at limit length by known) h = (omega (arith, h.0), behind_next k count n ahead at h.1)
step_back k count n ahead (entry.Append range index (log.Put attempt start anchor ts key value)) h = omega (arith, h)
step_back k count n ahead (entry.Append range index (log.State attempt state)) h = omega (arith, h)
step_back k count n ahead (entry.Append range index (log.Resolve attempt key fate)) h = omega (arith, h)
step_back k count n ahead e h = tt

-- what stands in a journal is within later bounds too
pub within_next : (k : Reading) (count : ℕ) (n : Reading) → ((k.wall < n.wall) ⊎ ((k.wall ≡ n.wall) × (k.logical < n.logical))) → (es : List JournalEntry) → AreWithin k count es → AreWithin n (count + 1) es
within_next k count n ahead [] h = tt
within_next k count n ahead (e ∷ es) h = (step_back k count n ahead e h.0, within_next k count n ahead es h.1)

-- an attempt that wasn't begun was served nothing
pub served_before : (k : Reading) (count : ℕ) (es : List JournalEntry) → AreWithin k count es → (r : RangeId) (x : ServedRead) → WasServed r x es → (x.read.attempt.0 ≤ count) × IsBehind k count x.read.at
served_before k count [] h r x w = absurd w
served_before k count (entry.Serve attempt node range span at limit length by known ∷ es) h r x (inl (e, q)) =
    (subst (λ (y : ServedRead). y.read.attempt.0 ≤ count) (sym q) h.0.0, subst (λ (y : ServedRead). IsBehind k count y.read.at) (sym q) h.0.1)
served_before k count (entry.Serve attempt node range span at limit length by known ∷ es) h r x (inr w) = served_before k count es h.1 r x w
served_before k count (e ∷ es) h r x w = served_before k count es h.1 r x w
