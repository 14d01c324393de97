-- What the words say behind entries that a request appends.
use Rattle.std.proofs.Common.{◌≡◌, ℕ, ◌+◌, ◌-◌, ◌≤◌, Bool, true, false, List, [], ◌∷◌, ◌++◌, length, max, refl, ap, ◌∙◌, arith, Some, None, inl, ⊎_elim, length-append}
use Rattle.std.specs.Prelude.{◌==◌, ◌||◌, if◌then◌else◌, IsSome, Option}
use Rattle.mr_base.specs.declared.ids.MsgId.{MsgId}
use Rattle.mr_base.specs.declared.ids.NodeId.{NodeId}
use Rattle.mr_base.specs.declared.ids.RangeId.{RangeId}
use Rattle.range_log.specs.Facts.{first_entries, lease_of}
use Rattle.range_log.specs.declared.entries.Entry.{Entry}
use Rattle.range_log.specs.declared.entries.Entry.TheVariants as log
use Rattle.journal.specs.declared.entries.JournalEntry.TheVariants as entry
use Rattle.journal.specs.declared.events.Event.{Event}
use Rattle.journal.specs.declared.events.Event.TheVariants as events
use Rattle.node_states.specs.Appends.{AreChanges, IsChange, appends}
use Rattle.node_states.specs.Placed.{IsAppendPlaced, KeepsLaws}
use Rattle.run_laws.specs.Appended.{IsByHolder}
use Rattle.run_laws.specs.Order.{IsAppendDue}
use Rattle.run_laws.specs.OrderEvents.{ActsAt, DrainsAt, IsInStep}
use Rattle.run_laws.specs.Places.{stepping}
use Rattle.run_words.specs.History.{History, Made, Ran, Ticked}
use Rattle.run_words.specs.Logs.{actor, actor_in, applied, appender_at, holder_of, is_node_of, log_of, makes_ranges, prefix}
use Rattle.run_words.specs.Nodes.{is_running}
use Rattle.run_words.specs.Ranges.{HasQuorum, range_of}
use Rattle.run_words.specs.Serving.{IsHolder}
use Rattle.run_words.specs.Setup.{Setup}
use Rattle.run_words.specs.Steps.{Between, Bounces, Own, Step, Takes, event_of, step_of}

itself : (k : ℕ) → (k == k) ≡ true
itself k = grind arith

-- a word at which appends don't look
pub behind_appends : {X : Type 0} (W : History → X) (j : RangeId) → ((index : ℕ) (e : Entry) (g : History) → W (Made (entry.Append j index e) ∷ g) ≡ W g)
    → (count : ℕ) (added : List Entry) (h : History) → W (appends j count added ++ h) ≡ W h
behind_appends W j s count [] h = refl
behind_appends W j s count (e ∷ added) h = s (count + length added + 1) e (appends j count added ++ h) ∙ behind_appends W j s count added h

-- a step isn't between steps
acts_not_between : (event : Option Event) → ActsAt event Between → ⊥
acts_not_between None a = a
acts_not_between (Some (events.Timeout t)) a = a
acts_not_between (Some e) a = a

acts_not_bounces : (event : Option Event) (m : MsgId) → ActsAt event (Bounces m) → ⊥
acts_not_bounces None m a = a
acts_not_bounces (Some (events.Timeout t)) m a = a
acts_not_bounces (Some e) m a = a

-- in a step the actor is the node whose step it is
acting : (h : History) (event : Option Event) (s : Step) (x y : Option NodeId) → ActsAt event s → actor_in h s x ≡ actor_in h s y
acting h event Between x y a = absurd (acts_not_between event a)
acting h event (Own t) x y a = refl
acting h event (Takes m) x y a = refl
acting h event (Bounces m) x y a = refl

pub actor_stepping : (setup : Setup) (h : History) (j : RangeId) (a : NodeId) → IsInStep h → stepping h ≡ Some a → actor setup h j ≡ Some a
actor_stepping setup h j a acts e = acting h (event_of h) (step_of h) (appender_at (event_of h) (holder_of (log_of setup h j))) None acts ∙ e

step_stays : (j : RangeId) (index : ℕ) (e : Entry) (g : History) (s : Step) → actor_in (Made (entry.Append j index e) ∷ g) s None ≡ actor_in g s None
step_stays j index e g Between = refl
step_stays j index e g (Own t) = refl
step_stays j index e g (Takes m) = refl
step_stays j index e g (Bounces m) = refl

pub stepping_stays : (j : RangeId) (index : ℕ) (e : Entry) (g : History) → stepping (Made (entry.Append j index e) ∷ g) ≡ stepping g
stepping_stays j index e g = step_stays j index e g (step_of g)

-- the logs
log_here : (t : Bool) (e : Entry) (old : List Entry) → t ≡ true → (if t then e ∷ old else old) ≡ e ∷ old
log_here true e old q = refl
log_here false e old q = absurd (cc)

log_there : (t : Bool) (e : Entry) (old : List Entry) → t ≡ false → (if t then e ∷ old else old) ≡ old
log_there true e old q = absurd (cc)
log_there false e old q = refl

pub log_with : (setup : Setup) (h : History) (j : RangeId) (count : ℕ) (added : List Entry) → log_of setup (appends j count added ++ h) j ≡ added ++ log_of setup h j
log_with setup h j count [] = refl
log_with setup h j count (e ∷ added) =
    log_here (j.0 == j.0) e (log_of setup (appends j count added ++ h) j) (itself j.0) ∙ ap (λ (es : List Entry). e ∷ es) (log_with setup h j count added)

pub log_apart : (setup : Setup) (h : History) (j i : RangeId) (count : ℕ) (added : List Entry) → (j.0 == i.0) ≡ false
    → log_of setup (appends j count added ++ h) i ≡ log_of setup h i
log_apart setup h j i count [] q = refl
log_apart setup h j i count (e ∷ added) q = log_there (j.0 == i.0) e (log_of setup (appends j count added ++ h) i) q ∙ log_apart setup h j i count added q

-- what replicas have applied
abbrev applied_with : Bool → Bool → Bool → ℕ → ℕ → ℕ
applied_with here makes acts index old = if here then (if makes || acts then max old index else old) else old

applied_all : (here makes acts : Bool) (index old : ℕ) → here ≡ true → acts ≡ true → applied_with here makes acts index old ≡ max old index
applied_all true true true index old p q = refl
applied_all true false true index old p q = refl
applied_all true makes false index old p q = absurd (cc)
applied_all false makes acts index old p q = absurd (cc)

applied_none : (here makes acts : Bool) (index old : ℕ) → makes ≡ false → acts ≡ false → applied_with here makes acts index old ≡ old
applied_none true false false index old p q = refl
applied_none false false false index old p q = refl
applied_none here true acts index old p q = absurd (cc)
applied_none here false true index old p q = absurd (cc)

applied_elsewhere : (here makes acts : Bool) (index old : ℕ) → here ≡ false → applied_with here makes acts index old ≡ old
applied_elsewhere false makes acts index old p = refl
applied_elsewhere true makes acts index old p = absurd (cc)

acts_itself : (o : Option NodeId) (a : NodeId) → o ≡ Some a → is_node_of o a ≡ true
acts_itself o a e = ap (λ (x : Option NodeId). is_node_of x a) e ∙ itself a.0

acts_other : (o : Option NodeId) (a n : NodeId) → o ≡ Some a → (a.0 == n.0) ≡ false → is_node_of o n ≡ false
acts_other o a n e q = ap (λ (x : Option NodeId). is_node_of x n) e ∙ q

pub applied_append : (setup : Setup) (g : History) (j : RangeId) (index : ℕ) (e : Entry) (a : NodeId) → actor setup g j ≡ Some a
    → applied setup (Made (entry.Append j index e) ∷ g) a j ≡ max (applied setup g a j) index
applied_append setup g j index e a q =
    applied_all (j.0 == j.0) (makes_ranges (event_of g)) (is_node_of (actor setup g j) a) index (applied setup g a j) (itself j.0) (acts_itself (actor setup g j) a q)

abbrev with_entries : RangeId → ℕ → List Entry → History → History
with_entries j count added h = appends j count added ++ h

abbrev actor_behind : Setup → RangeId → ℕ → List Entry → History → Option NodeId
actor_behind setup j count added h = actor setup (appends j count added ++ h) j

pub step_behind : (j : RangeId) (count : ℕ) (added : List Entry) (h : History) → IsInStep h → IsInStep (appends j count added ++ h)
step_behind j count [] h acts = acts
step_behind j count (e ∷ added) h acts = step_behind j count added h acts

pub stepping_behind : (j : RangeId) (count : ℕ) (added : List Entry) (h : History) → stepping (appends j count added ++ h) ≡ stepping h
stepping_behind j count added h = behind_appends stepping j (stepping_stays j) count added h

pub applied_apart : (setup : Setup) (h : History) (j i : RangeId) (n : NodeId) (count : ℕ) (added : List Entry) → (j.0 == i.0) ≡ false
    → applied setup (appends j count added ++ h) n i ≡ applied setup h n i
applied_apart setup h j i n count [] q = refl
applied_apart setup h j i n count (e ∷ added) q =
    applied_elsewhere (j.0 == i.0) (makes_ranges (event_of (appends j count added ++ h))) (is_node_of (actor setup (appends j count added ++ h) j) n)
    (count + length added + 1) (applied setup (appends j count added ++ h) n i) q
    ∙ applied_apart setup h j i n count added q

pub applied_others : (setup : Setup) (h : History) (j : RangeId) (a n : NodeId) (count : ℕ) (added : List Entry) → IsInStep h → stepping h ≡ Some a
    → makes_ranges (event_of h) ≡ false → (a.0 == n.0) ≡ false → applied setup (appends j count added ++ h) n j ≡ applied setup h n j
applied_others setup h j a n count [] acts e none q = refl
applied_others setup h j a n count (x ∷ added) acts e none q =
    let g : History = appends j count added ++ h in
    let event : event_of g ≡ event_of h = behind_appends event_of j (λ index y k. refl) count added h in
    let by : actor setup g j ≡ Some a = actor_stepping setup g j a (step_behind j count added h acts) (stepping_behind j count added h ∙ e) in
    applied_none (j.0 == j.0) (makes_ranges (event_of g)) (is_node_of (actor setup g j) n) (count + length added + 1) (applied setup g n j)
    (ap makes_ranges event ∙ none) (acts_other (actor setup g j) a n by q)
    ∙ applied_others setup h j a n count added acts e none q

at_most : (setup : Setup) (h : History) (j : RangeId) (a : NodeId) (count : ℕ) (added : List Entry) → IsInStep h → stepping h ≡ Some a
    → applied setup h a j ≤ count → applied setup (appends j count added ++ h) a j ≤ count + length added
at_most setup h j a count [] acts e l = omega (arith, l)
at_most setup h j a count (x ∷ added) acts e l =
    let g : History = appends j count added ++ h in
    let by : actor setup g j ≡ Some a = actor_stepping setup g j a (step_behind j count added h acts) (stepping_behind j count added h ∙ e) in
    let old : applied setup g a j ≤ count + length added = at_most setup h j a count added acts e l in
    let new : applied setup (Made (entry.Append j (count + length added + 1) x) ∷ g) a j ≡ max (applied setup g a j) (count + length added + 1) =
    applied_append setup g j (count + length added + 1) x a by in
    rw new (omega (arith, old))

pub applied_actor : (setup : Setup) (h : History) (j : RangeId) (a : NodeId) (count : ℕ) (e : Entry) (added : List Entry) → IsInStep h → stepping h ≡ Some a
    → applied setup h a j ≤ count → applied setup (appends j count (e ∷ added) ++ h) a j ≡ count + length added + 1
applied_actor setup h j a count x added acts e l =
    let g : History = appends j count added ++ h in
    let by : actor setup g j ≡ Some a = actor_stepping setup g j a (step_behind j count added h acts) (stepping_behind j count added h ∙ e) in
    let old : applied setup g a j ≤ count + length added = at_most setup h j a count added acts e l in
    let new : applied setup (Made (entry.Append j (count + length added + 1) x) ∷ g) a j ≡ max (applied setup g a j) (count + length added + 1) =
    applied_append setup g j (count + length added + 1) x a by in
    new ∙ omega (arith, old)

-- who appends stays the holder
same_lease : (e : Entry) (older : List Entry) → IsChange e → lease_of (e ∷ older) ≡ lease_of older
same_lease (log.Put attempt start anchor ts key value) older c = refl
same_lease (log.Resolve attempt key fate) older c = refl
same_lease (log.State attempt state) older c = refl
same_lease (log.Lease lease) older c = absurd c
same_lease (log.Close ts) older c = absurd c
same_lease (log.Load ts key value) older c = absurd c

whole : (old index : ℕ) (es : List Entry) → length es ≤ index → first_entries (max old index) es ≡ es
whole old index es l = let none : length es - max old index ≡ 0 = omega (arith, l) in rw none refl

pub holder_stays : (setup : Setup) (g : History) (j : RangeId) (index : ℕ) (e : Entry) (a : NodeId) → actor setup g j ≡ Some a → IsChange e
    → index ≡ length (log_of setup g j) + 1 → IsHolder setup g a j → IsHolder setup (Made (entry.Append j index e) ∷ g) a j
holder_stays setup g j index e a by c i holds =
    let es : List Entry = log_of setup g j in
    let log_is : log_of setup (Made (entry.Append j index e) ∷ g) j ≡ e ∷ es = log_here (j.0 == j.0) e es (itself j.0) in
    let count : applied setup (Made (entry.Append j index e) ∷ g) a j ≡ max (applied setup g a j) index = applied_append setup g j index e a by in
    let all : prefix setup (Made (entry.Append j index e) ∷ g) a j ≡ e ∷ es =
    ap (λ (k : ℕ). first_entries k (log_of setup (Made (entry.Append j index e) ∷ g) j)) count
    ∙ ap (λ (xs : List Entry). first_entries (max (applied setup g a j) index) xs) log_is
    ∙ whole (applied setup g a j) index (e ∷ es) (omega (arith, i)) in
    let last : lease_of (e ∷ es) ≡ Some holds.0 = same_lease e es c ∙ holds.2 in
    (holds.0, ap lease_of all ∙ last, ap lease_of log_is ∙ last, holds.3, holds.4)

-- each entry that the holder appends in a step keeps the laws
append_due : (h : History) (j : RangeId) (e : Entry) → IsInStep h → IsChange e → IsAppendDue h j e
append_due h j (log.Put attempt start anchor ts key value) acts c = acts
append_due h j (log.Resolve attempt key fate) acts c = acts
append_due h j (log.State attempt state) acts c = inl acts
append_due h j (log.Lease lease) acts c = absurd c
append_due h j (log.Close ts) acts c = absurd c
append_due h j (log.Load ts key value) acts c = absurd c

change_placed : (setup : Setup) (h : History) (j : RangeId) (index : ℕ) (e : Entry) → IsChange e → IsSome (range_of setup h j)
    → index ≡ length (log_of setup h j) + 1 → IsByHolder setup h j → IsAppendPlaced setup h j index e
change_placed setup h j index (log.Put attempt start anchor ts key value) c live i by = record { live = live; index_is = i; by = by }
change_placed setup h j index (log.Resolve attempt key fate) c live i by = record { live = live; index_is = i; by = by }
change_placed setup h j index (log.State attempt state) c live i by = record { live = live; index_is = i; by = by }
change_placed setup h j index (log.Lease lease) c live i by = absurd c
change_placed setup h j index (log.Close ts) c live i by = absurd c
change_placed setup h j index (log.Load ts key value) c live i by = absurd c

quorum_behind : (setup : Setup) (j : RangeId) (count : ℕ) (added : List Entry) (h : History) → HasQuorum setup h j → HasQuorum setup (appends j count added ++ h) j
quorum_behind setup j count [] h q = q
quorum_behind setup j count (e ∷ added) h q = quorum_behind setup j count added h q

pub appends_keep : (setup : Setup) (h : History) (j : RangeId) (a : NodeId) (count : ℕ) (added : List Entry) → IsInStep h → stepping h ≡ Some a
    → is_running setup h a ≡ true → IsHolder setup h a j → HasQuorum setup h j → IsSome (range_of setup h j) → count ≡ length (log_of setup h j)
    → AreChanges added → KeepsLaws setup h → KeepsLaws setup (appends j count added ++ h) × IsHolder setup (appends j count added ++ h) a j
appends_keep setup h j a count [] acts e runs holds quorum live c changes laws = (laws, holds)
appends_keep setup h j a count (x ∷ added) acts e runs holds quorum live c changes laws =
    let g : History = appends j count added ++ h in
    let before : KeepsLaws setup g × IsHolder setup g a j = appends_keep setup h j a count added acts e runs holds quorum live c changes.1 laws in
    let inside : IsInStep g = step_behind j count added h acts in
    let by : actor setup g j ≡ Some a = actor_stepping setup g j a inside (stepping_behind j count added h ∙ e) in
    let up : is_running setup g a ≡ true = behind_appends (λ (k : History). is_running setup k a) j (λ index y k. refl) count added h ∙ runs in
    let most : HasQuorum setup g j = quorum_behind setup j count added h quorum in
    let index_is : count + length added + 1 ≡ length (log_of setup g j) + 1 =
    omega (arith, c, ap length (log_with setup h j count added), length-append added (log_of setup h j)) in
    let by_holder : IsByHolder setup g j = record { node = a; actor_is = by; acting = (up, before.1); quorum = most } in (
      (
        record {
          order = append_due g j x inside changes.0;
          message = tt;
          append = change_placed setup g j (count + length added + 1) x changes.0 live index_is by_holder;
          waited = tt;
          begun = tt;
        },
        before.0,
      ),
      holder_stays setup g j (count + length added + 1) x a by changes.0 index_is before.1,
    )

-- no ranges are made at a line where a node makes a step
abbrev IsStep : Step → Type 0
IsStep Between = ⊥
IsStep s = Unit {0}

drains_make_none : (event : Option Event) (ticked : Bool) → DrainsAt event ticked → makes_ranges event ≡ false
drains_make_none (Some events.Drain) ticked d = refl
drains_make_none (Some (events.Settle ms)) ticked d = refl
drains_make_none None ticked d = absurd d
drains_make_none (Some e) ticked d = absurd d

pub steps_make_none : (setup : Setup) (h : History) → KeepsLaws setup h → IsStep (step_of h) → makes_ranges (event_of h) ≡ false
steps_make_none setup [] laws s = absurd s
steps_make_none setup (Ran line (events.Timeout t) ∷ h) laws s = refl
steps_make_none setup (Ran line event ∷ h) laws s = absurd s
steps_make_none setup (Ticked ms ∷ h) laws s = absurd s
steps_make_none setup (Made (entry.Apply n j count) ∷ h) laws s = absurd s
steps_make_none setup (Made (entry.Begin t a gateway start limit) ∷ h) laws s = ap makes_ranges laws.0.order.line.0
steps_make_none setup (Made (entry.Taken m) ∷ h) laws s =
    ⊎_elim (λ first. ap makes_ranges first.0) (λ drains. drains_make_none _ _ drains.0) laws.0.order.due
steps_make_none setup (Made (entry.Bounced m) ∷ h) laws s =
    ⊎_elim (λ first. ap makes_ranges first.0) (λ drains. drains_make_none _ _ drains.0) laws.0.order.due
steps_make_none setup (Made made ∷ h) laws s = steps_make_none setup h laws.1 s

pub step_is : (event : Option Event) (s : Step) → ActsAt event s → IsStep s
step_is event Between a = absurd (acts_not_between event a)
step_is event (Own t) a = tt
step_is event (Takes m) a = tt
step_is event (Bounces m) a = tt
