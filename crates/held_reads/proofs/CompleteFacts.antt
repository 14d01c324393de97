use Rattle.std.proofs.Common.{◌≡◌, ℕ, ◌+◌, ◌≤◌, Bool, true, false, cond, max, List, [], ◌∷◌, length, inl, inr, ⊎_elim, refl, sym, ap, ◌∙◌, subst, le_trans, true≢false, arith}
use Rattle.std.specs.Prelude.{◌⊎◌, ◌==◌, ◌||◌, Option, Some}
use Rattle.closed_ts.specs.Targets.{at_wall}
use Rattle.journal.specs.declared.entries.JournalEntry.TheVariants as entry
use Rattle.journal.specs.declared.events.Event.{Event}
use Rattle.journal.specs.declared.events.Event.TheVariants as events
use Rattle.mr_base.specs.Timestamps.{IsBelow, later}
use Rattle.mr_base.specs.declared.ids.AttemptId.{AttemptId}
use Rattle.mr_base.specs.declared.ids.NodeId.{NodeId}
use Rattle.mr_base.specs.declared.ids.RangeId.{RangeId}
use Rattle.mr_base.specs.declared.timestamps.Ts.{Ts}
use Rattle.range_log.specs.Facts.{lease_of}
use Rattle.range_log.specs.declared.entries.Entry.{Entry}
use Rattle.range_log.specs.declared.entries.Entry.TheVariants as log
use Rattle.range_log.specs.declared.entries.Lease.{Lease}
use Rattle.held_reads.proofs.AppliedFacts.{applied_rises, not_by, or_false}
use Rattle.held_reads.proofs.Basics.{cond_cases, not_none, ranges_same, some_same}
use Rattle.held_reads.proofs.LeaseFacts.{IsMoving, holder_moves, is_actor, lease_known}
use Rattle.held_reads.proofs.LogFacts.{lease_low}
use Rattle.held_reads.proofs.LogWords.{IsSuffix, PutAfter, last_lease_in, lease_later, none_after_all, suffix_full, suffix_length}
use Rattle.held_reads.proofs.TsLemmas.{later_left, le_trans as not_below_trans}
use Rattle.held_reads.specs.KeepsReads.{IsKeptForReads, KeepsReads}
use Rattle.run_laws.specs.Appended.{IsByHolder, IsLeased}
use Rattle.run_laws.specs.Beginnings.{IsSoundSetup}
use Rattle.run_words.specs.History.{History, Made, Ran}
use Rattle.run_words.specs.Logs.{actor, applied, is_node_of, log_of, makes_ranges}
use Rattle.run_words.specs.Nodes.{boot}
use Rattle.run_words.specs.Setup.{Setup}
use Rattle.run_words.specs.Steps.{event_of}

-- A log has passed by who holds an older part of it: that is the whole log; or the log's last lease has a low water no
-- lower than a bound. And no put behind that part is below the bound.
pub record IsPassed (bound : Ts) (o l : List Entry) : Type 0 where
  pub by : (o ≡ l) ⊎ ((x : Lease) × (lease_of l ≡ Some x) × (¬ IsBelow x.low bound))
  pub puts : (a : AttemptId) (p : Ts) (key : List ℕ) → PutAfter o a p key l → ¬ IsBelow p bound

passed_whole : (bound : Ts) (o l : List Entry) → o ≡ l → IsPassed bound o l
passed_whole bound o l e = record { by = inl e; puts = λ a p key h. absurd (none_after_all o l a p key e h) }

-- an entry is appended by another than the holder of an older part
module _ (setup : Setup) (h : History) (keeps : KeepsReads setup h) (j : RangeId) (n : NodeId) (o : List Entry) (x : Lease) (last : lease_of o ≡ Some x) (holds : x.holder ≡ n)
    (other : is_node_of (actor setup h j) n ≡ false) where
  abbrev bound : Ts
  bound = at_wall x.expiration

  abbrev l : List Entry
  l = log_of setup h j

  last_here : o ≡ l → lease_of l ≡ Some x
  last_here e = subst (λ (m : List Entry). lease_of m ≡ Some x) e last

  not_actor : (m : NodeId) → actor setup h j ≡ Some m → m ≡ n → ⊥
  not_actor m e q = true≢false (sym (is_actor (actor setup h j) m n e q) ∙ other)

  not_by_holder : IsByHolder setup h j → o ≡ l → ⊥
  not_by_holder by e =
      let same : by.acting.1.0 ≡ x = some_same (sym by.acting.1.2 ∙ last_here e) in
      not_actor by.node by.actor_is (sym by.acting.1.3 ∙ ap (λ (y : Lease). y.holder) same ∙ holds)

  not_moved : IsMoving (event_of h) → o ≡ l → ⊥
  not_moved m e = not_actor x.holder (holder_moves setup h keeps m j x (last_here e)) holds

  taken_low : (y : Lease) (event : Option Event) → event_of h ≡ event → IsLeased setup h j y event → o ≡ l → ¬ IsBelow y.low bound
  taken_low y (Some events.Begin) q f e = absurd (not_none (sym (ap (λ (m : List Entry). lease_of m) f.first) ∙ last_here e))
  taken_low y (Some (events.LeaseAcquire r m)) q f e =
      let same : f.0 ≡ x = some_same (sym f.1 ∙ last_here e) in
      let low : y.low ≡ later (at_wall f.0.expiration) f.0.low = f.3.2.low_is in
      subst (λ (z : Lease). ¬ IsBelow y.low (at_wall z.expiration)) same
      (subst (λ (t : Ts). ¬ IsBelow t (at_wall f.0.expiration)) (sym low) (later_left (at_wall f.0.expiration) f.0.low))
  taken_low y (Some (events.LeaseTransfer r m)) q f e = absurd (not_moved (subst (λ (v : Option Event). IsMoving v) (sym q) tt) e)
  taken_low y (Some (events.LeaseExtend r)) q f e = absurd (not_moved (subst (λ (v : Option Event). IsMoving v) (sym q) tt) e)
  taken_low y _ q f e = absurd f.3

  -- the last lease's low water after an entry that is no lease
  stays : (e : Entry) → lease_of (e ∷ l) ≡ lease_of l → IsByHolder setup h j → (o ≡ l) ⊎ ((y : Lease) × (lease_of l ≡ Some y) × (¬ IsBelow y.low bound))
      → (y : Lease) × (lease_of (e ∷ l) ≡ Some y) × (lease_of l ≡ Some y) × (¬ IsBelow y.low bound)
  stays e same by (inl whole) = absurd (not_by_holder by whole)
  stays e same by (inr (y, q, low)) = (y, same ∙ q, q, low)

  quiet : (e : Entry) → lease_of (e ∷ l) ≡ lease_of l → ((a : AttemptId) (p : Ts) (key : List ℕ) → PutAfter o a p key (e ∷ l) → PutAfter o a p key l) → IsByHolder setup h j → IsPassed bound o l
      → IsPassed bound o (e ∷ l)
  quiet e same none by old =
      let s : (y : Lease) × (lease_of (e ∷ l) ≡ Some y) × (lease_of l ≡ Some y) × (¬ IsBelow y.low bound) = stays e same by old.by in
      record { by = inr (s.0, s.1, s.3); puts = λ a p key w. old.puts a p key (none a p key w) }

  -- a log that has passed by goes on
  passes : (index : ℕ) (e : Entry) → IsKeptForReads setup h (Made (entry.Append j index e)) → IsPassed bound o l → IsPassed bound o (e ∷ l)
  passes index (log.Put b start anchor ts k v) kept old =
      let e : Entry = log.Put b start anchor ts k v in
      let s : (y : Lease) × (lease_of l ≡ Some y) × (lease_of l ≡ Some y) × (¬ IsBelow y.low bound) = stays e refl kept.appended.by old.by in
      record {
        by = inr (s.0, s.1, s.3);
        puts = λ a p key w. ⊎_elim
            (λ (q : (b ≡ a) × (ts ≡ p) × (k ≡ key) × IsSuffix o l). subst (λ (t : Ts). ¬ IsBelow t bound) q.1 (not_below_trans bound s.0.low ts s.3 (kept.laid.low s.0 s.2)))
            (λ q. old.puts a p key q) w;
      }
  passes index (log.Lease y) kept old =
      record {
        by = inr (
          y,
          refl,
          ⊎_elim (λ e. taken_low y (event_of h) refl kept.appended.by e)
              (λ (q : (z : Lease) × (lease_of l ≡ Some z) × (¬ IsBelow z.low bound)). not_below_trans bound q.0.low y.low q.2 (lease_low setup h j y (event_of h) kept.appended.by q.0 q.1)) old.by,
        );
        puts = old.puts;
      }
  passes index (log.Resolve b k f) kept old = quiet (log.Resolve b k f) refl (λ a p key w. w) kept.appended.by old
  passes index (log.State b s) kept old = quiet (log.State b s) refl (λ a p key w. w) kept.appended.by old
  passes index (log.Close ts) kept old = quiet (log.Close ts) refl (λ a p key w. w) kept.appended.by.0 old
  passes index (log.Load ts k v) kept old = absurd kept.order

-- who holds an older part of a log that it has applied is passed by the rest
module _ (setup : Setup) (sound : IsSoundSetup setup) where
  appended_passes : (h : History) → KeepsReads setup h → (range j : RangeId) (index : ℕ) (e : Entry) → IsKeptForReads setup h (Made (entry.Append range index e)) → (n : NodeId) (o : List Entry) (x : Lease)
      → lease_of o ≡ Some x → x.holder ≡ n → (IsSuffix o (log_of setup h j) → applied setup h n j ≤ length o → IsPassed (at_wall x.expiration) o (log_of setup h j)) → (t : Bool) → t ≡ (range.0 == j.0)
      → IsSuffix o (cond t (e ∷ log_of setup h j) (log_of setup h j))
      → cond t (cond (makes_ranges (event_of h) || is_node_of (actor setup h range) n) (max (applied setup h n j) index) (applied setup h n j)) (applied setup h n j) ≤ length o
      → applied setup h n j ≤ length o → IsPassed (at_wall x.expiration) o (cond t (e ∷ log_of setup h j) (log_of setup h j))
  appended_passes h keeps range j index e kept n o x last holds old false q s m a = old s a
  appended_passes h keeps range j index e kept n o x last holds old true q (inl w) m a = passed_whole (at_wall x.expiration) o (e ∷ log_of setup h j) w
  appended_passes h keeps range j index e kept n o x last holds old true q (inr s) m a =
      let same : range ≡ j = ranges_same range j (sym q) in
      let counted : index ≡ length (log_of setup h j) + 1 = subst (λ (r : RangeId). index ≡ length (log_of setup h r) + 1) same kept.appended.index_is in
      let none : (makes_ranges (event_of h) || is_node_of (actor setup h range) n) ≡ false =
      not_by (makes_ranges (event_of h) || is_node_of (actor setup h range) n) (applied setup h n j) index (length (log_of setup h j)) (length o) m (suffix_length o (log_of setup h j) s) counted in
      let other : is_node_of (actor setup h range) n ≡ false = or_false (makes_ranges (event_of h)) (is_node_of (actor setup h range) n) none in
      let before : IsPassed (at_wall x.expiration) o (log_of setup h range) = subst (λ (r : RangeId). IsPassed (at_wall x.expiration) o (log_of setup h r)) (sym same) (old s a) in
      subst (λ (r : RangeId). IsPassed (at_wall x.expiration) o (e ∷ log_of setup h r)) same (passes setup h keeps range n o x last holds other index e kept before)

  started : (old b c : ℕ) → c ≡ old + 1 → b ≡ c → b ≤ old → ⊥
  started old b c e f g = omega (arith, e, f, g)

  pub complete : (h : History) → KeepsReads setup h → (n : NodeId) (j : RangeId) (o : List Entry) (x : Lease) → IsSuffix o (log_of setup h j) → applied setup h n j ≤ length o → lease_of o ≡ Some x → x.holder ≡ n
      → x.boot ≡ boot setup h n → IsPassed (at_wall x.expiration) o (log_of setup h j)
  complete [] k n j o x s a last holds at = passed_whole (at_wall x.expiration) o (setup.beginning j) (suffix_full o (setup.beginning j) s a)
  complete (Made (entry.Append range index e) ∷ h) k n j o x s a last holds at =
      appended_passes h k.1 range j index e k.0 n o x last holds (λ t m. complete h k.1 n j o x t m last holds at) (range.0 == j.0) refl s a
      (le_trans (applied_rises setup (Made (entry.Append range index e)) h n j) a)
  complete (Made (entry.Apply node range count) ∷ h) k n j o x s a last holds at =
      complete h k.1 n j o x s (le_trans (applied_rises setup (Made (entry.Apply node range count)) h n j) a) last holds at
  complete (Ran line (events.Start m) ∷ h) k n j o x s a last holds at =
      ⊎_elim
      (λ (q : ((m.0 == n.0) ≡ _) × _).
      absurd (started (boot setup h n) x.boot (boot setup h n + 1) refl (sym q.1)
      (subst (λ (y : NodeId). x.boot ≤ boot setup h y) holds (lease_known setup sound h k.1 j x (lease_later o (log_of setup h j) x s (last_lease_in o x last))))))
      (λ (q : ((m.0 == n.0) ≡ _) × _). complete h k.1 n j o x s a last holds (sym q.1))
      (cond_cases (m.0 == n.0) _ _ x.boot (sym at))
  complete (y ∷ h) k n j o x s a last holds at = complete h k.1 n j o x s a last holds at
