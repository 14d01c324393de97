use Rattle.std.proofs.Common.{Option, ap, subst, sym, ◌∙◌}
use Rattle.mvcc_range.proofs.IntentLemmas.{intent_answer, intent_told}
use Rattle.mvcc_range.specs.Follows.{ReplicaValue, intent_at}
use Rattle.mvcc_range.specs.KeyFacts.{intent_of, state_at}
use Rattle.mvcc_range.specs.Lookups.{IsIntentAt}
use Rattle.mvcc_range.specs.declared.key_state.Intent.{Intent}
use Rattle.mvcc_range.proofs.replica.Replica.intent.Goals as goal

pub returns : goal.returns
returns c = λ entries follows.
    let is = c.intent_in.ensures ∙ ap (λ (r : ReplicaValue). intent_of (state_at c.args.key.now r.keys).intent) c.self.view_is ∙ ap intent_of (follows.facts.intents c.args.key.now) in
    subst (λ (o : Option Intent). IsIntentAt entries c.args.key.now o) (sym is) (intent_answer c.args.key.now entries (intent_at c.args.key.now entries) (intent_told c.args.key.now entries))
