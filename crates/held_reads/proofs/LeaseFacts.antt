use Rattle.std.proofs.Common.{◌≡◌, ℕ, ◌+◌, ◌≤◌, Bool, true, false, cond, List, [], ◌∷◌, inl, inr, ⊎_elim, refl, sym, ap, ◌∙◌, subst, le_refl, le_trans, option_map, arith}
use Rattle.std.specs.Prelude.{◌⊎◌, ◌==◌, ⊤, Option, Some}
use Rattle.journal.specs.declared.entries.JournalEntry.TheVariants as entry
use Rattle.journal.specs.declared.events.Event.{Event}
use Rattle.journal.specs.declared.events.Event.TheVariants as events
use Rattle.mr_base.specs.declared.ids.MsgId.{MsgId}
use Rattle.mr_base.specs.declared.ids.NodeId.{NodeId}
use Rattle.mr_base.specs.declared.ids.RangeId.{RangeId}
use Rattle.range_log.specs.Facts.{lease_of}
use Rattle.range_log.specs.declared.entries.Entry.{Entry}
use Rattle.range_log.specs.declared.entries.Entry.TheVariants as log
use Rattle.range_log.specs.declared.entries.Lease.{Lease}
use Rattle.held_reads.proofs.Basics.{same_tests}
use Rattle.held_reads.proofs.BeginningFacts.{IsBeginning, is_beginning, same_le}
use Rattle.held_reads.proofs.LogWords.{LeaseIn, last_lease_in}
use Rattle.held_reads.specs.KeepsReads.{KeepsReads}
use Rattle.run_laws.specs.Appended.{IsLeased}
use Rattle.run_laws.specs.Beginnings.{IsSoundSetup}
use Rattle.run_laws.specs.OrderEvents.{DrainsAt, IsDelivered}
use Rattle.run_words.specs.History.{History, Made, Ran, Ticked}
use Rattle.run_words.specs.Logs.{actor, actor_in, appender_at, holder_of, is_node_of, log_of}
use Rattle.run_words.specs.Nodes.{boot}
use Rattle.run_words.specs.Setup.{Setup}
use Rattle.run_words.specs.Steps.{Between, Step, event_of, has_ticked, step_of}

-- a line at which the holder moves its lease
abbrev pub IsMoving : Option Event → Type 0
IsMoving (Some (events.LeaseTransfer r n)) = ⊤
IsMoving (Some (events.LeaseExtend r)) = ⊤
IsMoving _ = ⊥

not_draining : (event : Option Event) (ticked : Bool) → IsMoving event → DrainsAt event ticked → ⊥
not_draining (Some (events.LeaseTransfer r n)) ticked m d = d
not_draining (Some (events.LeaseExtend r)) ticked m d = d
not_draining _ ticked m d = m

not_delivered : (setup : Setup) (h : History) (m : MsgId) (runs : Bool) → IsMoving (event_of h) → IsDelivered setup h m runs → ⊥
not_delivered setup h m runs moving d =
    ⊎_elim
    (λ q. subst (λ (e : Option Event). IsMoving e) q.0 moving)
    (λ q. not_draining (event_of h) (has_ticked h) moving q.0)
    d.due

-- no step goes on there
pub between : (setup : Setup) (h : History) → KeepsReads setup h → IsMoving (event_of h) → step_of h ≡ Between
between setup [] k m = absurd m
between setup (Ran line (events.Timeout t) ∷ h) k m = absurd m
between setup (Ran line event ∷ h) k m = refl
between setup (Ticked ms ∷ h) k m = refl
between setup (Made (entry.Apply node range count) ∷ h) k m = refl
between setup (Made (entry.Begin t a gateway start limit) ∷ h) k m = absurd (subst (λ (e : Option Event). IsMoving e) k.0.order.line.0 m)
between setup (Made (entry.Taken id) ∷ h) k m = absurd (not_delivered setup h id true m k.0.order)
between setup (Made (entry.Bounced id) ∷ h) k m = absurd (not_delivered setup h id false m k.0.order)
between setup (x ∷ h) k m = between setup h k.1 m

appender_moves : (event : Option Event) (o : Option NodeId) → IsMoving event → appender_at event o ≡ o
appender_moves (Some (events.LeaseTransfer r n)) o m = refl
appender_moves (Some (events.LeaseExtend r)) o m = refl
appender_moves _ o m = absurd m

-- and the holder is who appends
pub holder_moves : (setup : Setup) (h : History) → KeepsReads setup h → IsMoving (event_of h) → (j : RangeId) (x : Lease) → lease_of (log_of setup h j) ≡ Some x → actor setup h j ≡ Some x.holder
holder_moves setup h k m j x e =
    ap (λ (s : Step). actor_in h s (appender_at (event_of h) (holder_of (log_of setup h j)))) (between setup h k m)
    ∙ appender_moves (event_of h) (holder_of (log_of setup h j)) m
    ∙ ap (option_map (λ (y : Lease). y.holder)) e

-- the node that appends, as a test
pub is_actor : (o : Option NodeId) (m n : NodeId) → o ≡ Some m → m ≡ n → is_node_of o n ≡ true
is_actor o m n e q = ap (λ (y : Option NodeId). is_node_of y n) e ∙ same_tests m.0 n.0 (ap (λ (y : NodeId). y.0) q)

-- no lease is of a boot that its holder hasn't reached
known_at : (setup : Setup) (h : History) (x : Lease) (n : NodeId) → x.holder ≡ n → x.boot ≡ boot setup h n → x.boot ≤ boot setup h x.holder
known_at setup h x n e b = same_le x.boot (boot setup h x.holder) (b ∙ ap (boot setup h) (sym e))

leased_known : (setup : Setup) (h : History) (j : RangeId) (x : Lease) (event : Option Event) → ((y : Lease) → LeaseIn y (log_of setup h j) → y.boot ≤ boot setup h y.holder) → IsLeased setup h j x event
    → x.boot ≤ boot setup h x.holder
leased_known setup h j x (Some events.Begin) old f = known_at setup h x f.holder f.is.holder_is f.is.boot_is
leased_known setup h j x (Some (events.LeaseAcquire r n)) old f = known_at setup h x n f.3.2.holder_is f.3.2.boot_is
leased_known setup h j x (Some (events.LeaseTransfer r n)) old f = known_at setup h x n f.3.2.holder_is f.3.2.boot_is
leased_known setup h j x (Some (events.LeaseExtend r)) old f =
    let last : f.0.boot ≤ boot setup h f.0.holder = old f.0 (last_lease_in (log_of setup h j) f.0 f.1) in
    let mine : f.0.boot ≤ boot setup h x.holder = subst (λ (n : NodeId). f.0.boot ≤ boot setup h n) (sym f.3.1.holder_is) last in
    subst (λ (b : ℕ). b ≤ boot setup h x.holder) (sym f.3.1.boot_is) mine
leased_known setup h j x _ old f = absurd f.3

abbrev IsNoLease : Entry → Type 0
IsNoLease (log.Lease x) = ⊥
IsNoLease e = ⊤

skip_lease : (e : Entry) (t : Bool) (l : List Entry) (x : Lease) → IsNoLease e → LeaseIn x (cond t (e ∷ l) l) → LeaseIn x l
skip_lease e false l x n h = h
skip_lease (log.Lease y) true l x n h = absurd n
skip_lease e true l x n h = h

lease_cases : (t : Bool) (y x : Lease) (l : List Entry) → LeaseIn x (cond t (log.Lease y ∷ l) l) → ((t ≡ true) × (y ≡ x)) ⊎ LeaseIn x l
lease_cases true y x l (inl h) = inl (refl, h)
lease_cases true y x l (inr h) = inr h
lease_cases false y x l h = inr h

boot_rises : (t : Bool) (old : ℕ) → old ≤ cond t (old + 1) old
boot_rises true old = omega arith
boot_rises false old = le_refl _

pub lease_known : (setup : Setup) → IsSoundSetup setup → (h : History) → KeepsReads setup h → (j : RangeId) (x : Lease) → LeaseIn x (log_of setup h j) → x.boot ≤ boot setup h x.holder
lease_known setup sound [] k j x w = let b : IsBeginning (boot setup []) (setup.beginning j) = is_beginning setup sound j in b.known x w
lease_known setup sound (Made (entry.Append range index (log.Lease y)) ∷ h) k j x w =
    ⊎_elim
    (λ (q : ((range.0 == j.0) ≡ true) × (y ≡ x)). subst (λ (z : Lease). z.boot ≤ boot setup h z.holder) q.1
    (leased_known setup h range y (event_of h) (lease_known setup sound h k.1 range) k.0.appended.by))
    (λ q. lease_known setup sound h k.1 j x q)
    (lease_cases (range.0 == j.0) y x (log_of setup h j) w)
lease_known setup sound (Made (entry.Append range index e) ∷ h) k j x w =
    lease_known setup sound h k.1 j x (skip_lease e (range.0 == j.0) (log_of setup h j) x tt w)
lease_known setup sound (Ran line (events.Start m) ∷ h) k j x w =
    le_trans (lease_known setup sound h k.1 j x w) (boot_rises (m.0 == x.holder.0) (boot setup h x.holder))
lease_known setup sound (y ∷ h) k j x w = lease_known setup sound h k.1 j x w
