use Rattle.run_ledger.proofs.KeptLemmas.{write_kept}
use Rattle.run_ledger.proofs.ledger.Ledger.write.Goals as goal

pub invariant_of-self : goal.invariant_of-self
invariant_of-self c =
    let l = c.self.inside in
    rw c.push_reserved.ensures.items
    (write_kept l.behind c.args.made l.entries.items l.marks.items l.events.items l.has_entry l.has_ticked c.self.invariant)
