use Rattle.run_ledger.proofs.KeptLemmas.{line_kept}
use Rattle.run_ledger.proofs.ledger.Ledger.line.Goals as goal

pub invariant_of-self-2 : goal.invariant_of-self-2
invariant_of-self-2 c =
    let l = c.self.inside in
    rw (c.push_reserved-2.ensures.items, c.push_reserved.ensures.items, c.in_ok-push.ensures.items, c.in_ok-reserve.ensures.items, c.in_ok-reserve-2.ensures.items)
    (line_kept c.args.number l.behind c.args.event l.entries.items l.marks.items l.events.items l.has_entry l.has_ticked c.self.invariant)
