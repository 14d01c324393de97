use Rattle.std.specs.Prelude.{All, List, None, [], map, true, ℕ, ⊤, ◌+◌, ◌++◌, ◌∷◌, ◌≡◌, ◌≢◌, ◌≤◌, length}
use Rattle.descriptors.specs.Sound.{AreDistinct}
use Rattle.hlc.specs.Readings.{nothing}
use Rattle.mr_base.specs.declared.ids.NodeId.{NodeId}
use Rattle.node_states.specs.declared.stage.NodePlan.{NodePlan}
use Rattle.node_states.specs.declared.stage.RangePlan.{RangePlan}
use Rattle.node_states.specs.declared.stage.Stage.{Stage}
use Rattle.run_words.specs.Setup.{NodeSetup, RangeSetup, Setup}

-- With what a whole run begins: all nodes run, at their first boot, and nothing has been done. (This project's profile.)

abbrev pub node_setup : NodePlan → NodeSetup
node_setup plan = record { info = plan.info; clock = plan.clock; seen = nothing; boot = 1; runs = true }

abbrev pub range_setup : RangePlan → RangeSetup
range_setup plan =
    record { number = plan.number; voters = plan.voters; others = plan.others; is_global = plan.is_global }

abbrev pub setup_of : Stage → Setup
setup_of stage =
    record {
      settings = stage.settings;
      nodes = map node_setup stage.nodes;
      layout = record { catalog = stage.catalog; first_ranges = stage.first_ranges };
      ranges = map range_setup stage.ranges;
      beginning = λ j. [];
      rows = λ place. [];
      schema = None;
      attempts = 0;
      messages = 0;
    }

-- Numbers that rise by one, from the one after a number on.
abbrev pub AreNumbered : ℕ → List ℕ → Type 0
AreNumbered k [] = ⊤
AreNumbered k (n ∷ ns) = (n ≡ k + 1) × AreNumbered (k + 1) ns

-- The nodes are numbered from 1, and are at most 64. (The limit is this project's profile.)
pub record AreNodes (nodes : List NodePlan) : Type 0 where
  pub numbered : AreNumbered 0 (map (λ plan. plan.info.id.0) nodes)
  pub few : length nodes ≤ 64

-- A replica is of a node that is there.
abbrev pub IsOfNode : ℕ → NodeId → Type 0
IsOfNode count n = (1 ≤ n.0) × (n.0 ≤ count)

-- A range has a voter, and each of its replicas a node of its own.
pub record IsPlaced (count : ℕ) (plan : RangePlan) : Type 0 where
  pub voters : plan.voters ≢ []
  pub apart : AreDistinct (plan.voters ++ plan.others)
  pub nodes : All (IsOfNode count) (plan.voters ++ plan.others)

pub record IsStage (stage : Stage) : Type 0 where
  pub nodes : AreNodes stage.nodes
  pub numbered : AreNumbered 0 (map (λ plan. plan.number.0) stage.ranges)
  pub placed : All (IsPlaced (length stage.nodes)) stage.ranges
