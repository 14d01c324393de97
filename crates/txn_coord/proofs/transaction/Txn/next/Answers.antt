use Rattle.txn_coord.specs.Machine.{machine_at}
use Rattle.txn_coord.proofs.ConcludeLemmas.{ack_done}
use Rattle.txn_coord.proofs.OkLemmas.{if_ok_both}
use Rattle.txn_coord.proofs.transaction.Txn.next.Goals as goal

pub returns-clause-acknowledged : goal.returns-clause-acknowledged
returns-clause-acknowledged g c =
    let old = machine_at g.S.Script.program g.S.Script.fed c.self.inside.script c.self.inside.progress in
    let new = machine_at g.S.Script.program g.S.Script.fed c.next_move.new.script c.next_move.new.t in
    if_ok_both _ _ c.next_move.result (λ made moves sound. ack_done (g.S.Script.done c.next_move.new.script) old c.args.clock c.args.fresh made new moves sound) c.next_move.ensures.moves c.next_move.ensures.sound
