use Rattle.std.proofs.Common.{Option, ap, subst, sym, ◌∙◌}
use Rattle.mvcc_range.proofs.RecordLemmas.{record_told}
use Rattle.mvcc_range.specs.Follows.{ReplicaValue, record_in}
use Rattle.mvcc_range.specs.Lookups.{IsStateOf}
use Rattle.range_log.specs.declared.entries.TxnState.{TxnState}
use Rattle.mvcc_range.proofs.replica.Replica.state_of.Goals as goal

pub returns : goal.returns
returns c = λ entries follows.
    let is = c.copied.ensures ∙ c.get.ensures.value ∙ ap (λ (r : ReplicaValue). record_in c.args.a r.states) c.self.view_is ∙ follows.facts.states_are c.args.a in
    subst (λ (o : Option TxnState). IsStateOf entries c.args.a o) (sym is) (record_told c.args.a entries)
