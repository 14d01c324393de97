use Rattle.std.proofs.Common.{◌≡◌, ◌≢◌, ◌<◌, ◌≤◌, ◌+◌, ◌∙◌, ◌⊎◌, ℕ, suc, Bool, true, false, List, [], ◌∷◌, ◌++◌, Option, None, Some, inl, inr, refl, sym, ap, ap₂, subst, length, map, take, get_or, arith, max}
use Rattle.std.specs.Prelude.{◌==◌, ◌||◌, if◌then◌else◌}
use Rattle.std.specs.List.{All}
use Rattle.std.proofs.lemmas.List.{length-append, map-append}
use Rattle.std.proofs.lemmas.List.Elements.{All-push}
use Rattle.std.proofs.Math.Seq.{take-suc}
use Rattle.journal.specs.declared.entries.JournalEntry.TheVariants as entry
use Rattle.journal.specs.declared.events.Event.TheVariants as events
use Rattle.journal.specs.declared.events.Event.{Event}
use Rattle.mr_base.specs.declared.ids.NodeId.{NodeId}
use Rattle.mr_base.specs.declared.ids.RangeId.{RangeId}
use Rattle.node_states.specs.Stage.{AreNumbered}
use Rattle.range_log.specs.declared.entries.Entry.TheVariants as log
use Rattle.range_log.specs.declared.entries.Entry.{Entry}
use Rattle.range_log.specs.declared.entries.Lease.{Lease}
use Rattle.range_replicas.specs.RangeValue.{RangeValue}
use Rattle.range_replicas.specs.Sound.{IsSound}
use Rattle.range_server.specs.declared.standing.Standing.{Standing}
use Rattle.replica_states.proofs.OneRange.{range_number_at}
use Rattle.replica_states.specs.Making.{AreMade, IsMaking, IsReachedTo}
use Rattle.replica_states.specs.RangeTies.{IsRangeTied, RangesTied, planned}
use Rattle.run_laws.specs.RangeLines.{IsBehind}
use Rattle.run_words.specs.History.{History, Item, Made}
use Rattle.run_words.specs.Logs.{applied, actor, is_node_of, log_of, makes_ranges}
use Rattle.run_words.specs.Nodes.{boot}
use Rattle.run_words.specs.Setup.{RangeSetup, Setup}
use Rattle.run_words.specs.Steps.{event_of}

-- A range is made: its first lease is appended, and each replica has it.

abbrev pub first_item : RangeId → Lease → Item
first_item j lease = Made (entry.Append j 1 (log.Lease lease))

apart : (j i : RangeId) → i.0 ≢ j.0 → (j.0 == i.0) ≡ false
apart j i ne = grind (arith, ne)

same_test : (j i : RangeId) → i.0 ≡ j.0 → (j.0 == i.0) ≡ true
same_test j i e = grind (arith, e)

pub log_other : (setup : Setup) (h : History) (j i : RangeId) (lease : Lease) → i.0 ≢ j.0 → log_of setup (first_item j lease ∷ h) i ≡ log_of setup h i
log_other setup h j i lease ne = ap (λ (t : Bool). if t then log.Lease lease ∷ log_of setup h i else log_of setup h i) (apart j i ne)

pub log_same : (setup : Setup) (h : History) (j i : RangeId) (lease : Lease) → i.0 ≡ j.0 → log_of setup (first_item j lease ∷ h) i ≡ log.Lease lease ∷ log_of setup h i
log_same setup h j i lease e = ap (λ (t : Bool). if t then log.Lease lease ∷ log_of setup h i else log_of setup h i) (same_test j i e)

applied_other : (setup : Setup) (h : History) (j i : RangeId) (lease : Lease) (n : NodeId) → i.0 ≢ j.0 → applied setup (first_item j lease ∷ h) n i ≡ applied setup h n i
applied_other setup h j i lease n ne =
    ap (λ (t : Bool). if t then (if makes_ranges (event_of h) || is_node_of (actor setup h j) n then max (applied setup h n i) 1 else applied setup h n i) else applied setup h n i) (apart j i ne)

applied_same : (setup : Setup) (h : History) (j i : RangeId) (lease : Lease) (n : NodeId) → event_of h ≡ Some events.Begin → i.0 ≡ j.0 → applied setup h n i ≡ 0
    → applied setup (first_item j lease ∷ h) n i ≡ 1
applied_same setup h j i lease n line e none =
    ap (λ (t : Bool). if t then (if makes_ranges (event_of h) || is_node_of (actor setup h j) n then max (applied setup h n i) 1 else applied setup h n i) else applied setup h n i) (same_test j i e)
    ∙ ap (λ (v : Option Event). if makes_ranges v || is_node_of (actor setup h j) n then max (applied setup h n i) 1 else applied setup h n i) line
    ∙ ap (λ (k : ℕ). max k 1) none

-- ---- how far the ranges are made then

not_empty : (e : Entry) (older : List Entry) → e ∷ older ≡ [] → ⊥
not_empty e older q = cc

number_or_not : (a b : ℕ) → (a ≡ b) ⊎ (a ≢ b)
number_or_not a b = grind arith

made_next : (setup : Setup) (h : History) (upto : ℕ) (j i : RangeId) (lease : Lease) → AreMade setup h upto → j.0 ≡ upto + 1 → 1 ≤ i.0 → i.0 ≤ upto + 1 → (i.0 ≡ j.0) ⊎ (i.0 ≢ j.0)
    → log_of setup (first_item j lease ∷ h) i ≢ []
made_next setup h upto j i lease made number low high (inl e) q = not_empty (log.Lease lease) (log_of setup h i) (sym (log_same setup h j i lease e) ∙ q)
made_next setup h upto j i lease made number low high (inr ne) q = made i low (omega (arith, ne, number, high)) (sym (log_other setup h j i lease ne) ∙ q)

pub making_next : (setup : Setup) (h : History) (upto : ℕ) (j : RangeId) (lease : Lease) → IsMaking setup h upto → j.0 ≡ upto + 1 → IsMaking setup (first_item j lease ∷ h) (upto + 1)
making_next setup h upto j lease m number =
    record {
      line = m.line;
      unmade = λ i above.
          let ne : i.0 ≢ j.0 = λ e. omega (arith, e, above, number) in
          let old : (log_of setup h i ≡ []) × ((n : NodeId) → applied setup h n i ≡ 0) = m.unmade i (omega (arith, above)) in
          (log_other setup h j i lease ne ∙ old.0, λ n. applied_other setup h j i lease n ne ∙ old.1 n);
      reached_to = omega (arith, number);
      made = λ i low high. made_next setup h upto j i lease m.made number low high (number_or_not i.0 j.0);
    }

pub is_behind : (r : Option RangeId) (upto : ℕ) (j : RangeId) → IsReachedTo r upto → j.0 ≡ upto + 1 → IsBehind r j
is_behind None upto j t number = tt
is_behind (Some r) upto j t number = omega (arith, t, number)

-- ---- the ties of ranges

old_range : (setup : Setup) (h : History) (j : RangeId) (lease : Lease) (r : RangeValue) → r.number.0 ≢ j.0 → IsRangeTied (log_of setup h) (applied setup h) (boot setup h) r
    → IsRangeTied (log_of setup (first_item j lease ∷ h)) (applied setup (first_item j lease ∷ h)) (boot setup (first_item j lease ∷ h)) r
old_range setup h j lease r ne t =
    record {
      sound = t.sound;
      log_is = t.log_is ∙ sym (log_other setup h j r.number lease ne);
      servers_are = λ k d l. record {
        applied_is = (t.servers_are k d l).applied_is ∙ sym (applied_other setup h j r.number lease (get_or r.servers k d).node ne);
        boot_is = (t.servers_are k d l).boot_is;
      };
    }

-- the range that was made has its boots from the nodes
pub record IsNewRange (setup : Setup) (h : History) (lease : Lease) (r : RangeValue) : Type 0 where
  pub sound : IsSound r
  pub log_is : r.log.entries ≡ log.Lease lease ∷ []
  pub applied_are : All (λ (s : Standing). s.replica.applied ≡ 1) r.servers
  pub boots_are : All (λ (s : Standing). s.boot ≡ boot setup h s.node) r.servers

new_range : (setup : Setup) (h : History) (upto : ℕ) (lease : Lease) (r : RangeValue) → IsMaking setup h upto → r.number.0 ≡ upto + 1 → IsNewRange setup h lease r
    → IsRangeTied (log_of setup (first_item r.number lease ∷ h)) (applied setup (first_item r.number lease ∷ h)) (boot setup (first_item r.number lease ∷ h)) r
new_range setup h upto lease r m number n =
    let old : (log_of setup h r.number ≡ []) × ((n : NodeId) → applied setup h n r.number ≡ 0) = m.unmade r.number (omega (arith, number)) in
    record {
      sound = n.sound;
      log_is = n.log_is ∙ sym (log_same setup h r.number r.number lease refl ∙ ap (λ (es : List Entry). log.Lease lease ∷ es) old.0);
      servers_are = λ k d l. record {
        applied_is = n.applied_are k d l ∙ sym (applied_same setup h r.number r.number lease (get_or r.servers k d).node m.line refl (old.1 (get_or r.servers k d).node));
        boot_is = n.boots_are k d l;
      };
    }

plus_one : (k : ℕ) → k + 1 ≡ suc k
plus_one k = omega arith

plans_next : (plans : List RangeSetup) (ranges : List RangeValue) (r : RangeValue) → length ranges < length plans → map planned ranges ≡ take (length ranges) plans
    → planned r ≡ get_or plans (length ranges) (planned r) → map planned (ranges ++ r ∷ []) ≡ take (length (ranges ++ r ∷ [])) plans
plans_next plans ranges r within old new =
    map-append planned ranges (r ∷ []) ∙ ap₂ (λ (a : List RangeSetup) (b : RangeSetup). a ++ b ∷ []) old new ∙ sym (take-suc plans (length ranges) (planned r) within)
    ∙ ap (λ (k : ℕ). take k plans) (sym (length-append ranges (r ∷ []) ∙ plus_one (length ranges)))

log_made : (setup : Setup) (h : History) (upto : ℕ) (j i : RangeId) (lease : Lease) → ((i : RangeId) → log_of setup h i ≢ [] → (1 ≤ i.0) × (i.0 ≤ upto)) → j.0 ≡ upto + 1
    → log_of setup (first_item j lease ∷ h) i ≢ [] → (i.0 ≡ j.0) ⊎ (i.0 ≢ j.0) → (1 ≤ i.0) × (i.0 ≤ upto + 1)
log_made setup h upto j i lease old number some (inl e) = (omega (arith, e, number), omega (arith, e, number))
log_made setup h upto j i lease old number some (inr ne) =
    let was : (1 ≤ i.0) × (i.0 ≤ upto) = old i (λ q. some (log_other setup h j i lease ne ∙ q)) in (was.0, omega (arith, was.1))

pub ranges_next : (setup : Setup) (h : History) (ranges : List RangeValue) (lease : Lease) (r : RangeValue) → RangesTied setup h ranges → AreNumbered 0 (map (λ (x : RangeValue). x.number.0) ranges)
    → IsMaking setup h (length ranges) → r.number.0 ≡ length ranges + 1 → length ranges < length setup.ranges → planned r ≡ get_or setup.ranges (length ranges) (planned r) → IsNewRange setup h lease r
    → RangesTied setup (first_item r.number lease ∷ h) (ranges ++ r ∷ [])
ranges_next setup h ranges lease r t numbered m number within plan n =
    record {
      each = All-push (IsRangeTied (log_of setup (first_item r.number lease ∷ h)) (applied setup (first_item r.number lease ∷ h)) (boot setup (first_item r.number lease ∷ h))) ranges r
          (λ k d l. old_range setup h r.number lease (get_or ranges k d)
          (λ e. let at : (get_or ranges k d).number.0 ≡ 0 + k + 1 = range_number_at 0 ranges k d numbered l in omega (arith, e, at, number, l)) (t.each k d l))
          (new_range setup h (length ranges) lease r m number n);
      plans_are = plans_next setup.ranges ranges r within t.plans_are plan;
      made = λ i some. subst (λ (k : ℕ). (1 ≤ i.0) × (i.0 ≤ k)) (sym (length-append ranges (r ∷ []) ∙ plus_one (length ranges)))
          (subst (λ (k : ℕ). (1 ≤ i.0) × (i.0 ≤ k)) (plus_one (length ranges)) (log_made setup h (length ranges) r.number i lease t.made number some (number_or_not i.0 r.number.0)));
    }
