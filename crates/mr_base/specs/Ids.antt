use Rattle.std.specs.Prelude.{ℕ, List, ◌++◌, codes}
use Rattle.std.specs.Fmt.{decimal}
use Rattle.mr_base.specs.declared.ids.NodeId.{NodeId}
use Rattle.mr_base.specs.declared.ids.RangeId.{RangeId}
use Rattle.mr_base.specs.declared.ids.AttemptId.{AttemptId}
use Rattle.mr_base.specs.declared.ids.MsgId.{MsgId}

abbrev pub node_text : NodeId → List ℕ
node_text n = codes "n" ++ decimal n.0

abbrev pub range_text : RangeId → List ℕ
range_text r = codes "r" ++ decimal r.0

abbrev pub attempt_text : AttemptId → List ℕ
attempt_text a = codes "a" ++ decimal a.0

abbrev pub message_text : MsgId → List ℕ
message_text m = codes "m" ++ decimal m.0
