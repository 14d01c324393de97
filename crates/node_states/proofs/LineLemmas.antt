use Rattle.std.proofs.Common.{◌≡◌, ℕ, Bool, true, false, List, [], ◌∷◌, Option, Some, None, refl, sym, ap, ◌∙◌, subst, map}
use Rattle.std.specs.Prelude.{◌+◌, ◌==◌, if◌then◌else◌, slice_index_or}
use Rattle.std.specs.List.{All}
use Rattle.std.proofs.lemmas.List.Elements.{All-map}
use Rattle.hlc.specs.Readings.{nothing}
use Rattle.mr_base.specs.declared.ids.NodeId.{NodeId}
use Rattle.mr_base.specs.declared.timestamps.Reading.{Reading}
use Rattle.mr_base.specs.declared.timestamps.Ts.{Ts}
use Rattle.journal.specs.declared.entries.JournalEntry.TheVariants as entry
use Rattle.journal.specs.declared.events.Event.{Event}
use Rattle.journal.specs.declared.events.Event.TheVariants as events
use Rattle.node_states.specs.Moves.{moved, move_of, ticked, stopped, started}
use Rattle.node_states.specs.Placed.{KeepsLaws}
use Rattle.node_states.specs.Stage.{AreNumbered, setup_of}
use Rattle.mr_base.specs.declared.nodes.NodeSet.{NodeSet}
use Rattle.node_states.specs.Ties.{IsAmong, IsNodeTied, NodesTied}
use Rattle.node_states.specs.declared.moves.Move.{Move}
use Rattle.node_states.specs.declared.moves.Move.TheVariants as moves
use Rattle.node_states.specs.declared.stage.Stage.{Stage}
use Rattle.node_states.specs.declared.states.NodeState.{NodeState}
use Rattle.run_words.specs.Clocks.{phys, schema, seen, seen_at_start}
use Rattle.run_words.specs.History.{History, Made, Ran, Ticked}
use Rattle.run_words.specs.Nodes.{boot, is_running}
use Rattle.run_words.specs.Setup.{Setup}

-- no schema change is made
pub no_schema : (stage : Stage) (h : History) → KeepsLaws (setup_of stage) h → schema (setup_of stage) h ≡ None
no_schema stage [] l = refl
no_schema stage (Made (entry.Schema ts) ∷ h) l = absurd l.0.order
no_schema stage (x ∷ h) l = no_schema stage h l.1

-- what a node's tie says, word by word
abbrev Tied : ℕ → Reading → ℕ → Bool → NodeState → Type 0
Tied phys seen boot runs node = IsNodeTied (λ n. phys) (λ n. seen) (λ n. boot) (λ n. runs) node

tick_keeps : (t : Bool) (ms p : ℕ) (r : Reading) (b : ℕ) (u : Bool) (node : NodeState) → Tied p r b u node
    → Tied (if t then p + ms else p) r b u (if t then ticked ms node else node)
tick_keeps true ms p r b u node t = record { physical = ap (λ x. x + ms) t.physical; kept = t.kept; boot_is = t.boot_is; runs_is = t.runs_is }
tick_keeps false ms p r b u node t = t

stop_keeps : (t : Bool) (p : ℕ) (r : Reading) (b : ℕ) (u : Bool) (node : NodeState) → Tied p r b u node
    → Tied p r b (if t then false else u) (if t then stopped node else node)
stop_keeps true p r b u node t = record { physical = t.physical; kept = t.kept; boot_is = t.boot_is; runs_is = refl }
stop_keeps false p r b u node t = t

start_keeps : (t : Bool) (p : ℕ) (r : Reading) (b : ℕ) (u : Bool) (node : NodeState) → Tied p r b u node
    → Tied p (if t then nothing else r) (if t then b + 1 else b) (if t then true else u) (if t then started node else node)
start_keeps true p r b u node t = record { physical = t.physical; kept = refl; boot_is = ap (λ x. x + 1) t.boot_is; runs_is = refl }
start_keeps false p r b u node t = t

words : (setup : Setup) (h : History) (node : NodeState) → IsNodeTied (phys setup h) (seen setup h) (boot setup h) (is_running setup h) node
    → Tied (phys setup h node.id) (seen setup h node.id) (boot setup h node.id) (is_running setup h node.id) node
words setup h node t = record { physical = t.physical; kept = t.kept; boot_is = t.boot_is; runs_is = t.runs_is }

-- a change that keeps the node's number keeps what is said at that number
at_id : (t : Bool) (f : NodeState → NodeState) (node : NodeState) → (f node).id ≡ node.id → (phys : NodeId → ℕ) (seen : NodeId → Reading) (boot : NodeId → ℕ) (runs : NodeId → Bool)
    → Tied (phys node.id) (seen node.id) (boot node.id) (runs node.id) (if t then f node else node)
    → IsNodeTied phys seen boot runs (if t then f node else node)
at_id true f node e phys seen boot runs t =
    record {
      physical = t.physical ∙ ap phys (sym e);
      kept = t.kept ∙ ap seen (sym e);
      boot_is = t.boot_is ∙ ap boot (sym e);
      runs_is = t.runs_is ∙ ap runs (sym e);
    }
at_id false f node e phys seen boot runs t = record { physical = t.physical; kept = t.kept; boot_is = t.boot_is; runs_is = t.runs_is }

-- a line keeps the tie of a node that it moves
moved_node : (setup : Setup) (h : History) (line : ℕ) (event : Event) (node : NodeState) → schema setup h ≡ None
    → IsNodeTied (phys setup h) (seen setup h) (boot setup h) (is_running setup h) node
    → IsNodeTied (phys setup (Ran line event ∷ h)) (seen setup (Ran line event ∷ h)) (boot setup (Ran line event ∷ h)) (is_running setup (Ran line event ∷ h)) (moved (move_of event) node)
moved_node setup h line (events.Tick None ms) node e t =
    record { physical = ap (λ x. x + ms) t.physical; kept = t.kept; boot_is = t.boot_is; runs_is = t.runs_is }
moved_node setup h line (events.Tick (Some n) ms) node e t =
    let m : Tied (if n.0 == node.id.0 then phys setup h node.id + ms else phys setup h node.id) (seen setup h node.id) (boot setup h node.id) (is_running setup h node.id)
    (if n.0 == node.id.0 then ticked ms node else node) =
    tick_keeps (n.0 == node.id.0) ms (phys setup h node.id) (seen setup h node.id) (boot setup h node.id) (is_running setup h node.id) node (words setup h node t) in
    at_id (n.0 == node.id.0) (ticked ms) node refl (phys setup (Ran line (events.Tick (Some n) ms) ∷ h)) (seen setup h) (boot setup h) (is_running setup h) m
moved_node setup h line (events.Stop n) node e t =
    let m : Tied (phys setup h node.id) (seen setup h node.id) (boot setup h node.id) (if n.0 == node.id.0 then false else is_running setup h node.id)
    (if n.0 == node.id.0 then stopped node else node) =
    stop_keeps (n.0 == node.id.0) (phys setup h node.id) (seen setup h node.id) (boot setup h node.id) (is_running setup h node.id) node (words setup h node t) in
    at_id (n.0 == node.id.0) stopped node refl (phys setup h) (seen setup h) (boot setup h) (is_running setup (Ran line (events.Stop n) ∷ h)) m
moved_node setup h line (events.Start n) node e t =
    let m : Tied (phys setup h node.id) (if n.0 == node.id.0 then nothing else seen setup h node.id) (if n.0 == node.id.0 then boot setup h node.id + 1 else boot setup h node.id)
    (if n.0 == node.id.0 then true else is_running setup h node.id) (if n.0 == node.id.0 then started node else node) =
    start_keeps (n.0 == node.id.0) (phys setup h node.id) (seen setup h node.id) (boot setup h node.id) (is_running setup h node.id) node (words setup h node t) in
    let r : Tied (phys setup h node.id) (if n.0 == node.id.0 then seen_at_start (schema setup h) else seen setup h node.id) (if n.0 == node.id.0 then boot setup h node.id + 1 else boot setup h node.id)
    (if n.0 == node.id.0 then true else is_running setup h node.id) (if n.0 == node.id.0 then started node else node) =
    subst (λ (o : Option Ts). Tied (phys setup h node.id) (if n.0 == node.id.0 then seen_at_start o else seen setup h node.id) (if n.0 == node.id.0 then boot setup h node.id + 1 else boot setup h node.id)
    (if n.0 == node.id.0 then true else is_running setup h node.id) (if n.0 == node.id.0 then started node else node)) (sym e) m in
    at_id (n.0 == node.id.0) started node refl (phys setup h) (seen setup (Ran line (events.Start n) ∷ h)) (boot setup (Ran line (events.Start n) ∷ h)) (is_running setup (Ran line (events.Start n) ∷ h)) r
moved_node setup h line event node e t = t

-- a move keeps the number of a node
either_id : (t : Bool) (x y : NodeState) → x.id ≡ y.id → (if t then x else y).id ≡ y.id
either_id true x y e = e
either_id false x y e = refl

moved_id : (m : Move) (node : NodeState) → (moved m node).id ≡ node.id
moved_id moves.Nothing node = refl
moved_id (moves.TickAll ms) node = refl
moved_id (moves.Tick n ms) node = either_id (n.0 == node.id.0) (ticked ms node) node refl
moved_id (moves.Stop n) node = either_id (n.0 == node.id.0) (stopped node) node refl
moved_id (moves.Start n) node = either_id (n.0 == node.id.0) (started node) node refl

pub moved_numbers : (m : Move) (k : ℕ) (nodes : List NodeState) → AreNumbered k (map (λ node. node.id.0) nodes) → AreNumbered k (map (λ node. node.id.0) (map (moved m) nodes))
moved_numbers m k [] a = tt
moved_numbers m k (node ∷ nodes) a = (ap (λ (n : NodeId). n.0) (moved_id m node) ∙ a.0, moved_numbers m (k + 1) nodes a.1)

-- a line keeps the ties of the nodes that it moves, where the set of those that run is made anew
pub line_keeps : (stage : Stage) (h : History) (line : ℕ) (event : Event) (nodes : List NodeState) (old running : NodeSet) → KeepsLaws (setup_of stage) h
    → NodesTied (setup_of stage) h nodes old → All (IsAmong running) (map (moved (move_of event)) nodes)
    → NodesTied (setup_of stage) (Ran line event ∷ h) (map (moved (move_of event)) nodes) running
line_keeps stage h line event nodes old running laws t among =
    record {
      each = All-map (IsNodeTied (phys (setup_of stage) (Ran line event ∷ h)) (seen (setup_of stage) (Ran line event ∷ h)) (boot (setup_of stage) (Ran line event ∷ h)) (is_running (setup_of stage) (Ran line event ∷ h)))
          (moved (move_of event)) nodes
          (λ k d l. moved_node (setup_of stage) h line event (slice_index_or nodes k d) (no_schema stage h laws) (t.each k d l));
      numbered = moved_numbers (move_of event) 0 nodes t.numbered;
      running_are = among;
    }

ticked_node : (setup : Setup) (h : History) (ms : ℕ) (node : NodeState) → IsNodeTied (phys setup h) (seen setup h) (boot setup h) (is_running setup h) node
    → IsNodeTied (phys setup (Ticked ms ∷ h)) (seen setup (Ticked ms ∷ h)) (boot setup (Ticked ms ∷ h)) (is_running setup (Ticked ms ∷ h)) (ticked ms node)
ticked_node setup h ms node t = record { physical = ap (λ x. x + ms) t.physical; kept = t.kept; boot_is = t.boot_is; runs_is = t.runs_is }

-- so does the tick inside a `settle` line
pub ticked_keeps : (stage : Stage) (h : History) (ms : ℕ) (nodes : List NodeState) (old running : NodeSet) → NodesTied (setup_of stage) h nodes old
    → All (IsAmong running) (map (moved (moves.TickAll ms)) nodes) → NodesTied (setup_of stage) (Ticked ms ∷ h) (map (moved (moves.TickAll ms)) nodes) running
ticked_keeps stage h ms nodes old running t among =
    record {
      each = All-map (IsNodeTied (phys (setup_of stage) (Ticked ms ∷ h)) (seen (setup_of stage) (Ticked ms ∷ h)) (boot (setup_of stage) (Ticked ms ∷ h)) (is_running (setup_of stage) (Ticked ms ∷ h)))
          (moved (moves.TickAll ms)) nodes (λ k d l. ticked_node (setup_of stage) h ms (slice_index_or nodes k d) (t.each k d l));
      numbered = moved_numbers (moves.TickAll ms) 0 nodes t.numbered;
      running_are = among;
    }
