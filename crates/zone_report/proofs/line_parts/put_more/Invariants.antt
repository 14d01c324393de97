use Rattle.std.proofs.Common.{◌≡◌, ◌++◌, codes, take}
use Rattle.std.specs.List.{flat_map}
use Rattle.zone_report.specs.Report.{node_text}
use Rattle.zone_report.proofs.line_parts.put_more.Given as goal

abbrev pub invariant-loop-node : goal.invariant-loop-node
invariant-loop-node l = l.out.items ≡ l.fn.out.items ++ flat_map (λ n. codes " " ++ node_text n) (take l.node-index l.nodes)
