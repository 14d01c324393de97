use Rattle.scenario.proofs.first_path.node_line.Goals as goal

pub returns-in_default-clause-only : goal.returns-in_default-clause-only
returns-in_default-clause-only c n h = c.in_default.ensures.only _ h.1
