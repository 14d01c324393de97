use Rattle.std.specs.Prelude.{false, [], slice_index_or, ◌-◌}
use Rattle.mr_base.specs.declared.ids.RangeId.{RangeId}
use Rattle.range_replicas.specs.RangeValue.{RangeValue}
use Rattle.cluster_state.specs.declared.state.State.{State}

-- The ranges by their numbers. No public clause cites this.

-- no range
abbrev pub no_range : RangeValue
no_range =
    record {
      number = record { 0 = 0 };
      voters = [];
      others = [];
      is_global = false;
      log = record { voters = record { 0 = 0 }; entries = []; room = 0 };
      servers = [];
    }

-- the range of a number, where it has been made
abbrev pub range_at : RangeId → State → RangeValue
range_at j s = slice_index_or s.ranges.items (j.0 - 1) no_range
