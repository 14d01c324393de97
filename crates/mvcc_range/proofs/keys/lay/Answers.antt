use Rattle.std.proofs.Common.{Some, ap, refl, ◌∙◌}
use Rattle.mvcc_range.proofs.KeyLemmas.{laid}
use Rattle.mvcc_range.specs.KeyFacts.{state_in}
use Rattle.mvcc_range.specs.KeyValue.{KeyValue}
use Rattle.mvcc_range.proofs.keys.lay.Goals as goal

pub returns-in-Some-clause-ok : goal.returns-in-Some-clause-ok
returns-in-Some-clause-ok c = λ q.
    let there = c.get_mut.follows.holds c.lay.new.self in
    let updates = there.3 (rw (← c.in-Some.ensures.value) refl) in
    laid c.args.key.now q c.args.keys.now.entries (c.get_mut.follows.lender c.lay.new.self).entries c.lay.new.self (updates.0 q) c.args.kept
    (c.lay.ensures ∙ ap (λ (s : KeyValue). record s { intent = Some c.args.kept }) (ap state_in c.in-Some.ensures.value))

pub returns-clause-ok : goal.returns-clause-ok
returns-clause-ok c = λ q.
    laid c.args.key.now q c.args.keys.now.entries c.insert.new.self.entries c.lay-2.new.self
    (rw (← c.in_ok-clone_in.ensures.copy, ← c.get_mut.follows.holds-at-none) (c.in_ok-insert.ensures.updates.0 q)) c.args.kept
    (c.lay-2.ensures ∙ ap (λ (s : KeyValue). record s { intent = Some c.args.kept }) (c.new-state.ensures ∙ ap state_in c.in_default.ensures.value))
