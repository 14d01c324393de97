use Rattle.std.specs.Prelude.{List, ℕ, ◌++◌, ◌≡◌, ◌≤◌, length}
use Rattle.mr_base.specs.declared.ids.NodeId.{NodeId}
use Rattle.node_states.specs.Placed.{KeepsLaws}
use Rattle.node_states.specs.Stage.{IsStage, setup_of}
use Rattle.node_states.specs.Ties.{MailsTied, NodesTied}
use Rattle.node_states.specs.declared.stage.Stage.{Stage}
use Rattle.replica_states.specs.RangeTies.{RangesTied}
use Rattle.run_words.specs.History.{History}
use Rattle.run_words.specs.Messages.{messages}
use Rattle.run_words.specs.Setup.{Setup}
use Rattle.run_words.specs.Transactions.{attempts}
use Rattle.cluster_state.specs.declared.state.State.{State}

-- How all that is kept stands to what happened. No public clause cites this.

abbrev pub the_setup : State → Setup
the_setup s = setup_of s.stage

abbrev pub past : State → History
past s = s.ledger.history

-- a node of this stage
abbrev pub IsThere : Stage → NodeId → Type 0
IsThere stage n = (1 ≤ n.0) × (n.0 ≤ length stage.nodes)

-- what is kept is what the words say of this history
pub record IsTiedTo (h : History) (s : State) : Type 0 where
  pub staged : IsStage s.stage
  pub laws : KeepsLaws (the_setup s) h
  pub count : length s.nodes.items ≡ length s.stage.nodes
  pub nodes_are : NodesTied (the_setup s) h s.nodes.items s.running
  pub ranges_are : RangesTied (the_setup s) h s.ranges.items
  pub mails_are : MailsTied (the_setup s) h (length s.stage.nodes) s.sent s.flight.messages
  pub begun_are : s.attempts ≡ attempts (the_setup s) h
  pub sent_are : s.sent ≡ messages (the_setup s) h

abbrev pub IsTied : State → Type 0
IsTied s = IsTiedTo (past s) s

-- a call has made these items, and left all tied
pub record HasMade (items : History) (old new : State) : Type 0 where
  pub stage : new.stage ≡ old.stage
  pub history : past new ≡ items ++ past old
  pub tied : IsTied new

-- a call that failed for want of memory has done nothing that is recorded
pub record IsUnrecorded (old new : State) : Type 0 where
  pub stage : new.stage ≡ old.stage
  pub history : past new ≡ past old
