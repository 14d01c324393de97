use Rattle.std.proofs.Common.{ap, refl}
use Rattle.run_ledger.specs.LedgerValue.{LedgerValue}
use Rattle.cluster_state.proofs.LineLemmas.{ticked_tied, with_nodes}
use Rattle.cluster_state.proofs.Written.{made_item}
use Rattle.cluster_state.proofs.state.State.ticked.Goals as goal

pub returns-clause-made : goal.returns-clause-made
returns-clause-made c =
    made_item c.args.self.now (with_nodes c.args.self.now c.move_all-self.new.nodes c.move_all-self.result) refl c.ticked.new.self _
    (ap (λ (l : LedgerValue). l.history) c.in_ok-ticked.ensures.ticked)
    (ticked_tied c.args.self.now c.args.ms c.as_mut_slice.result.now c.move_all-self.new.nodes c.move_all-self.result c.requires.tied c.requires.line c.requires.once
    c.as_mut_slice.ensures.value c.as_mut_slice.ensures.len c.move_all-self.ensures.nodes c.move_all-self.ensures.running)
