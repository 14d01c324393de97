use Rattle.planner.proofs.PlaceLemmas.{kept_with}
use Rattle.planner.proofs.own_writes.OwnWrites.write.Goals as goal

pub returns-clause-ok : goal.returns-clause-ok
returns-clause-ok c = kept_with c.args.place c.args.before c.args.after c.in_ok-first.first _ c.args.self.now _ c.self.view_is c.in_ok-first.ensures c.in_ok-insert.ensures.entries
