use Rattle.std.specs.Prelude.{Bool, false, true, ◌++◌, ◌≡◌}
use Rattle.node_states.specs.Placed.{KeepsLaws}
use Rattle.node_states.specs.Stage.{setup_of}
use Rattle.node_states.specs.declared.stage.Stage.{Stage}
use Rattle.run_words.specs.History.{History}
use Rattle.run_words.specs.Setup.{Setup}
use Rattle.cluster_state.specs.Tied.{IsTied, past, the_setup}
use Rattle.cluster_state.specs.declared.state.State.{State}

-- The nodes as contracts see them: with what they began, what has happened, and whether a call has failed for want of
-- memory, after which there is none.
pub record NodesValue : Type 0 where
  pub stage : Stage
  pub history : History
  pub ended : Bool

-- With what their history begins.
abbrev pub setup : NodesValue → Setup
setup n = setup_of n.stage

-- These items have happened since.
abbrev pub with_items : History → NodesValue → NodesValue
with_items items n = record n { history = items ++ n.history }

-- After want of memory no call follows, and what was recorded stands.
abbrev pub ended_as : NodesValue → NodesValue
ended_as n = record n { ended = true }

-- What is kept: these laws hold of what happened and, unless a call has failed, all is as it says. No public clause cites
-- this.
pub record IsKept (s : State) (ended : Bool) : Type 0 where
  pub laws : KeepsLaws (the_setup s) (past s)
  pub tied : ended ≡ false → IsTied s
