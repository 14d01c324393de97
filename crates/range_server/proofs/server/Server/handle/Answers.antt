use Rattle.std.proofs.lemmas.Result.{IfOk-weaker}
use Rattle.range_server.proofs.HandleLemmas.{handled_applied, handled_held, handled_licensed}
use Rattle.range_server.proofs.server.Server.handle.Goals as goal

pub returns-clause-licensed : goal.returns-clause-licensed
returns-clause-licensed c =
    rw (← c.self.view_is)
    (IfOk-weaker c.handle.result _ _ (λ handled h. handled_licensed _ c.args.q.now handled c.handle.new.log c.handle.new.self h) c.handle.ensures)

pub returns-clause-applied : goal.returns-clause-applied
returns-clause-applied c =
    rw (← c.self.view_is)
    (IfOk-weaker c.handle.result _ _ (λ handled h. handled_applied _ c.args.q.now handled c.handle.new.log c.handle.new.self h) c.handle.ensures)

pub returns-clause-held : goal.returns-clause-held
returns-clause-held c =
    rw (← c.self.view_is)
    (IfOk-weaker c.handle.result _ _ (λ handled h. handled_held _ c.args.q.now handled c.handle.new.log c.handle.new.self h) c.handle.ensures)
