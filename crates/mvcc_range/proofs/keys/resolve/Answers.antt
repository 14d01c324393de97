use Rattle.std.proofs.Common.{Some, ap, refl, ◌∙◌}
use Rattle.std.specs.BTreeMap.{is_at}
use Rattle.std.specs.Cmp.Lexicographic.{slice_cmp}
use Rattle.std.specs.Ordering.{nat_cmp}
use Rattle.mvcc_range.proofs.KeyLemmas.{on_err, resolved, set_same, unresolved}
use Rattle.mvcc_range.specs.KeyFacts.{intent_after, state_in, value_after, version_at}
use Rattle.mvcc_range.specs.KeyValue.{KeyValue}
use Rattle.mvcc_range.proofs.keys.resolve.Goals as goal

pub returns-in-Some-clause-ok : goal.returns-in-Some-clause-ok
returns-in-Some-clause-ok c = λ q.
    let there = c.get_mut.follows.holds c.resolve.new.self in
    let updates = there.3 (rw (← c.in-Some.ensures.value) refl) in
    let was = ap state_in c.in-Some.ensures.value in
    resolved c.args.key.now q c.args.keys.now.entries (c.get_mut.follows.lender c.resolve.new.self).entries c.resolve.new.self (updates.0 q) c.args.a c.args.fate
    (c.in_ok-resolve.ensures.intent ∙ ap (λ (s : KeyValue). intent_after c.args.a s.intent) was)
    (λ r. c.in_ok-resolve.ensures.versions r ∙ ap (λ (s : KeyValue). value_after c.args.a c.args.fate r s.intent (version_at r s)) was)

pub returns-clause-ok : goal.returns-clause-ok
returns-clause-ok c = λ q. rw c.get_mut.follows.holds-at-none (unresolved c.args.key.now q c.args.keys.now.entries c.args.a c.args.fate c.in_default.ensures.value)

pub returns-in_err-resolve-clause-err : goal.returns-in_err-resolve-clause-err
returns-in_err-resolve-clause-err c =
    on_err c.from_residual.result ((c.get_mut.follows.holds c.resolve.new.self).0
    ∙ set_same (is_at (slice_cmp nat_cmp c.args.key.now)) c.args.keys.now.entries c.resolve.new.self (ap (λ (s : KeyValue). Some s) c.in_err-resolve.ensures.err ∙ c.in-Some.ensures.value))
