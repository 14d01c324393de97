use Rattle.std.proofs.Common.{◌≡◌, ◌≢◌, ℕ, zero, suc, Bool, true, false, List, [], ◌∷◌, Option, Some, inl, inr, refl, sym, ap, ◌∙◌, subst, map, length, set, get_or, arith}
use Rattle.std.specs.Prelude.{◌+◌, ◌<◌, ◌==◌, if◌then◌else◌}
use Rattle.std.proofs.lemmas.Bool.{eqb-true}
use Rattle.hlc.specs.Readings.{IsEarlier, greater, reading_lt}
use Rattle.journal.specs.declared.entries.JournalEntry.TheVariants as entry
use Rattle.mr_base.specs.declared.ids.AttemptId.{AttemptId}
use Rattle.mr_base.specs.declared.ids.MsgId.{MsgId}
use Rattle.mr_base.specs.declared.ids.NodeId.{NodeId}
use Rattle.mr_base.specs.declared.ids.TxnId.{TxnId}
use Rattle.mr_base.specs.declared.nodes.NodeSet.{NodeSet}
use Rattle.mr_base.specs.declared.timestamps.Reading.{Reading}
use Rattle.mr_base.specs.declared.timestamps.Ts.{Ts}
use Rattle.node_states.proofs.RunningLemmas.{number_at}
use Rattle.node_states.specs.Moves.{with_kept}
use Rattle.node_states.specs.Stage.{AreNumbered}
use Rattle.node_states.specs.Ties.{AreNodesTied, IsAmong, IsNodeTied, NodesTied}
use Rattle.node_states.specs.declared.states.NodeState.{NodeState}
use Rattle.run_words.specs.Clocks.{phys, reading_at, seen, seen_by, seen_with}
use Rattle.run_words.specs.History.{History, Made}
use Rattle.run_words.specs.Messages.{Mail, mail}
use Rattle.run_words.specs.Nodes.{boot, is_running}
use Rattle.run_words.specs.Setup.{Setup}

-- What one node's clock keeps is changed.

-- an element that is set, and the others
at_set : (nodes : List NodeState) (i k : ℕ) (v d : NodeState) (P : NodeState → Type 0) → k < length (set nodes i v) → (i ≡ k → P v) → (k ≢ i → P (get_or nodes k d))
    → P (get_or (set nodes i v) k d)
at_set [] i k v d P l f g = absurd (omega arith)
at_set (node ∷ nodes) zero zero v d P l f g = f refl
at_set (node ∷ nodes) zero (suc k) v d P l f g = g (λ e. omega (arith, e))
at_set (node ∷ nodes) (suc i) zero v d P l f g = g (λ e. omega (arith, e))
at_set (node ∷ nodes) (suc i) (suc k) v d P l f g = at_set nodes i k v d P (omega arith) (λ e. f (ap suc e)) (λ ne. g (λ e. ne (omega (arith, e))))

length_set : (nodes : List NodeState) (i : ℕ) (v : NodeState) → length (set nodes i v) ≡ length nodes
length_set [] i v = refl
length_set (node ∷ nodes) zero v = refl
length_set (node ∷ nodes) (suc i) v = ap suc (length_set nodes i v)

shorter : (nodes : List NodeState) (i k : ℕ) (v : NodeState) → k < length (set nodes i v) → k < length nodes
shorter nodes i k v l = subst (λ (n : ℕ). k < n) (length_set nodes i v) l

set_numbers : (nodes : List NodeState) (i from : ℕ) (d v : NodeState) → v.id ≡ (get_or nodes i d).id → AreNumbered from (map (λ node. node.id.0) nodes) → i < length nodes
    → AreNumbered from (map (λ node. node.id.0) (set nodes i v))
set_numbers [] i from d v e a l = tt
set_numbers (node ∷ nodes) zero from d v e a l = (ap (λ (n : NodeId). n.0) e ∙ a.0, a.1)
set_numbers (node ∷ nodes) (suc i) from d v e a l = (a.0, set_numbers nodes i (from + 1) d v e a.1 (omega arith))

-- the number of a node at a place is that place's, and that of no other
other_number : (nodes : List NodeState) (i k : ℕ) (d : NodeState) → AreNumbered 0 (map (λ node. node.id.0) nodes) → i < length nodes → k < length nodes → k ≢ i
    → (get_or nodes k d).id.0 ≢ (get_or nodes i d).id.0
other_number nodes i k d a li lk ne e =
    let at : (get_or nodes k d).id.0 ≡ 0 + k + 1 = number_at 0 nodes k d a lk in
    let there : (get_or nodes i d).id.0 ≡ 0 + i + 1 = number_at 0 nodes i d a li in
    ne (grind (arith, at, there, e))

kept_at : (phys : NodeId → ℕ) (seen later : NodeId → Reading) (boot : NodeId → ℕ) (runs : NodeId → Bool) (node : NodeState) → IsNodeTied phys seen boot runs node
    → later node.id ≡ seen node.id → IsNodeTied phys later boot runs node
kept_at phys seen later boot runs node t e = record { physical = t.physical; kept = t.kept ∙ sym e; boot_is = t.boot_is; runs_is = t.runs_is }

-- the default doesn't matter within a list
any_default : (nodes : List NodeState) (i : ℕ) (d e : NodeState) → i < length nodes → get_or nodes i d ≡ get_or nodes i e
any_default [] i d e l = absurd (omega arith)
any_default (node ∷ nodes) zero d e l = refl
any_default (node ∷ nodes) (suc i) d e l = any_default nodes i d e (omega arith)

others_apart : (nodes : List NodeState) (i k : ℕ) (d e : NodeState) → AreNumbered 0 (map (λ node. node.id.0) nodes) → i < length nodes → k < length nodes → k ≢ i
    → (get_or nodes k e).id.0 ≢ (get_or nodes i d).id.0
others_apart nodes i k d e a li lk ne =
    subst (λ (y : NodeState). (get_or nodes k e).id.0 ≢ y.id.0) (any_default nodes i e d li) (other_number nodes i k e a li lk ne)

-- what one clock keeps is changed, and nothing is seen by others
pub kept_keeps : (phys : NodeId → ℕ) (seen later : NodeId → Reading) (boot : NodeId → ℕ) (runs : NodeId → Bool) (nodes : List NodeState) (running : NodeSet) (i : ℕ) (r : Reading) (d : NodeState)
    → AreNodesTied phys seen boot runs nodes running → i < length nodes → later (get_or nodes i d).id ≡ r
    → ((n : NodeId) → n.0 ≢ (get_or nodes i d).id.0 → later n ≡ seen n)
    → AreNodesTied phys later boot runs (set nodes i (with_kept r (get_or nodes i d))) running
kept_keeps phys seen later boot runs nodes running i r d t l new others =
    let v : NodeState = with_kept r (get_or nodes i d) in
    let tied : IsNodeTied phys seen boot runs (get_or nodes i d) = t.each i d l in
    record {
      each = λ k e lk. at_set nodes i k v e (IsNodeTied phys later boot runs) lk
          (λ same. record { physical = tied.physical; kept = sym new; boot_is = tied.boot_is; runs_is = tied.runs_is })
          (λ ne. kept_at phys seen later boot runs (get_or nodes k e) (t.each k e (shorter nodes i k v lk)) (others (get_or nodes k e).id (others_apart nodes i k d e t.numbered l (shorter nodes i k v lk) ne)));
      numbered = set_numbers nodes i 0 d v refl t.numbered l;
      running_are = λ k e lk. at_set nodes i k v e (IsAmong running) lk (λ same. t.running_are i d l) (λ ne. t.running_are k e (shorter nodes i k v lk));
    }

-- ---- a transaction begins

earlier_lt : (a b : Reading) → IsEarlier a b → reading_lt a b ≡ true
earlier_lt a b (inl l) = grind (arith, l)
earlier_lt a b (inr x) = let e : a.wall ≡ b.wall = x.0 in let l : a.logical < b.logical = x.1 in grind (arith, e, l)

pub later_is_greater : (a b : Reading) → IsEarlier a b → greater a b ≡ b
later_is_greater a b e = ap (λ (t : Bool). if t then b else a) (earlier_lt a b e)

-- a test on the number of another node
pub other_test : (m n : NodeId) → n.0 ≢ m.0 → (m.0 == n.0) ≡ false
other_test m n ne = elim (m.0 == n.0) as (λ b. (m.0 == n.0) ≡ b → b ≡ false) [ true ↦ λ e. absurd (ne (sym (eqb-true m.0 n.0 e))) | false ↦ λ e. refl ] refl

pub itself : (k : ℕ) → (k == k) ≡ true
itself k = grind arith

begin_sees : (setup : Setup) (h : History) (t : TxnId) (a : AttemptId) (gateway : NodeId) (start : Ts) (limit : Option ℕ) (n : NodeId) → n.0 ≢ gateway.0
    → seen setup (Made (entry.Begin t a gateway start limit) ∷ h) n ≡ seen setup h n
begin_sees setup h t a gateway start limit n ne =
    ap (λ (b : Bool). if b then greater (seen setup h n) (reading_at start) else seen setup h n) (other_test gateway n ne)

begin_gives : (setup : Setup) (h : History) (t : TxnId) (a : AttemptId) (gateway : NodeId) (start : Ts) (limit : Option ℕ) (r : Reading) → reading_at start ≡ r → IsEarlier (seen setup h gateway) r
    → seen setup (Made (entry.Begin t a gateway start limit) ∷ h) gateway ≡ r
begin_gives setup h t a gateway start limit r e later =
    ap (λ (b : Bool). if b then greater (seen setup h gateway) (reading_at start) else seen setup h gateway) (itself gateway.0)
    ∙ ap (greater (seen setup h gateway)) e ∙ later_is_greater (seen setup h gateway) r later

-- a transaction begins at the next reading of its gateway's clock, which is kept
pub begin_keeps : (setup : Setup) (h : History) (nodes : List NodeState) (running : NodeSet) (i : ℕ) (d : NodeState) (t : TxnId) (a : AttemptId) (gateway : NodeId) (start : Ts) (limit : Option ℕ)
    (r : Reading) → NodesTied setup h nodes running → i < length nodes → (get_or nodes i d).id ≡ gateway → reading_at start ≡ r → IsEarlier (get_or nodes i d).clock.kept r
    → NodesTied setup (Made (entry.Begin t a gateway start limit) ∷ h) (set nodes i (with_kept r (get_or nodes i d))) running
begin_keeps setup h nodes running i d t a gateway start limit r tied l at e later =
    kept_keeps (phys setup h) (seen setup h) (seen setup (Made (entry.Begin t a gateway start limit) ∷ h)) (boot setup h) (is_running setup h) nodes running i r d tied l
    (ap (seen setup (Made (entry.Begin t a gateway start limit) ∷ h)) at
    ∙ begin_gives setup h t a gateway start limit r e (subst (λ (x : Reading). IsEarlier x r) ((tied.each i d l).kept ∙ ap (seen setup h) at) later))
    (λ n ne. begin_sees setup h t a gateway start limit n (subst (λ (m : NodeId). n.0 ≢ m.0) at ne))

-- ---- a message is taken

-- what a receiver has seen, with the clock of the message
taken_sees : (setup : Setup) (h : History) (m : MsgId) (sent : Mail) (n : NodeId) → mail h m ≡ Some sent → n.0 ≢ sent.to.0
    → seen setup (Made (entry.Taken m) ∷ h) n ≡ seen setup h n
taken_sees setup h m sent n e ne =
    ap (λ (o : Option Mail). seen_by o n (seen setup h n)) e
    ∙ ap (λ (b : Bool). if b then seen_with sent.clock (seen setup h n) else seen setup h n) (other_test sent.to n ne)

taken_gives : (setup : Setup) (h : History) (m : MsgId) (sent : Mail) → mail h m ≡ Some sent
    → seen setup (Made (entry.Taken m) ∷ h) sent.to ≡ seen_with sent.clock (seen setup h sent.to)
taken_gives setup h m sent e =
    ap (λ (o : Option Mail). seen_by o sent.to (seen setup h sent.to)) e
    ∙ ap (λ (b : Bool). if b then seen_with sent.clock (seen setup h sent.to) else seen setup h sent.to) (itself sent.to.0)

-- its receiver's clock takes the message's reading in
pub taken_keeps : (setup : Setup) (h : History) (nodes : List NodeState) (running : NodeSet) (i : ℕ) (d : NodeState) (m : MsgId) (sent : Mail)
    → NodesTied setup h nodes running → i < length nodes → (get_or nodes i d).id ≡ sent.to → mail h m ≡ Some sent
    → NodesTied setup (Made (entry.Taken m) ∷ h) (set nodes i (with_kept (seen_with sent.clock (get_or nodes i d).clock.kept) (get_or nodes i d))) running
taken_keeps setup h nodes running i d m sent tied l at e =
    kept_keeps (phys setup h) (seen setup h) (seen setup (Made (entry.Taken m) ∷ h)) (boot setup h) (is_running setup h) nodes running i (seen_with sent.clock (get_or nodes i d).clock.kept) d tied l
    (ap (seen setup (Made (entry.Taken m) ∷ h)) at ∙ taken_gives setup h m sent e ∙ ap (seen_with sent.clock) (sym ((tied.each i d l).kept ∙ ap (seen setup h) at)))
    (λ n ne. taken_sees setup h m sent n e (subst (λ (k : NodeId). n.0 ≢ k.0) at ne))

-- ---- the node of a number

-- the node at the place of a number has that number
pub node_at_place : (nodes : List NodeState) (n : NodeId) (place : ℕ) (d : NodeState) → AreNumbered 0 (map (λ node. node.id.0) nodes) → place + 1 ≡ n.0 → place < length nodes
    → (get_or nodes place d).id ≡ n
node_at_place nodes n place d a e l =
    let at : (get_or nodes place d).id.0 ≡ 0 + place + 1 = number_at 0 nodes place d a l in
    let same : (get_or nodes place d).id.0 ≡ n.0 = grind (arith, at, e) in
    ap (λ (k : ℕ). let m : NodeId = record { 0 = k } in m) same

-- what is kept there is what the words say of that node
pub node_tied_at : (setup : Setup) (h : History) (nodes : List NodeState) (running : NodeSet) (n : NodeId) (place : ℕ) (d : NodeState) → NodesTied setup h nodes running
    → place + 1 ≡ n.0 → place < length nodes
    → ((get_or nodes place d).clock.physical ≡ phys setup h n) × ((get_or nodes place d).clock.kept ≡ seen setup h n) × ((get_or nodes place d).boot ≡ boot setup h n) × ((get_or nodes place d).runs ≡ is_running setup h n)
node_tied_at setup h nodes running n place d t e l =
    let i : (get_or nodes place d).id ≡ n = node_at_place nodes n place d t.numbered e l in
    let at : IsNodeTied (phys setup h) (seen setup h) (boot setup h) (is_running setup h) (get_or nodes place d) = t.each place d l in
    (at.physical ∙ ap (phys setup h) i, at.kept ∙ ap (seen setup h) i, at.boot_is ∙ ap (boot setup h) i, at.runs_is ∙ ap (is_running setup h) i)
