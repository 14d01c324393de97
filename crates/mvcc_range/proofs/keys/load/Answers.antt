use Rattle.std.proofs.Common.{Some, cond, ap, refl, ◌∙◌}
use Rattle.std.specs.BTreeMap.{is_at}
use Rattle.std.specs.Cmp.Lexicographic.{slice_cmp}
use Rattle.std.specs.Ordering.{nat_cmp}
use Rattle.mvcc_range.proofs.KeyLemmas.{added, on_err, set_same}
use Rattle.mvcc_range.specs.KeyFacts.{same_ts, state_in, version_at}
use Rattle.mvcc_range.specs.KeyValue.{KeyValue}
use Rattle.mvcc_range.proofs.keys.load.Goals as goal

pub returns-in-Some-clause-ok : goal.returns-in-Some-clause-ok
returns-in-Some-clause-ok c = λ q.
    let there = c.get_mut.follows.holds c.add.new.self in
    let updates = there.3 (rw (← c.in-Some.ensures.value) refl) in
    let was = ap state_in c.in-Some.ensures.value in
    added c.args.key.now q c.args.keys.now.entries (c.get_mut.follows.lender c.add.new.self).entries c.add.new.self (updates.0 q) c.args.ts (Some c.args.value)
    (c.in_ok-add.ensures.intent ∙ ap (λ (s : KeyValue). s.intent) was)
    (λ r. c.in_ok-add.ensures.ok r ∙ ap (λ (s : KeyValue). cond (same_ts c.args.ts r) (Some (Some c.args.value)) (version_at r s)) was)

pub returns-clause-ok : goal.returns-clause-ok
returns-clause-ok c = λ q.
    let was = c.new-state.ensures ∙ ap state_in c.in_default.ensures.value in
    added c.args.key.now q c.args.keys.now.entries c.insert.new.self.entries c.add-2.new.self
    (rw (← c.in_ok-clone_in.ensures.copy, ← c.get_mut.follows.holds-at-none) (c.in_ok-insert.ensures.updates.0 q)) c.args.ts (Some c.args.value)
    (c.in_ok-add-2.ensures.intent ∙ ap (λ (s : KeyValue). s.intent) was)
    (λ r. c.in_ok-add-2.ensures.ok r ∙ ap (λ (s : KeyValue). cond (same_ts c.args.ts r) (Some (Some c.args.value)) (version_at r s)) was)

pub returns-in_err-add-clause-err : goal.returns-in_err-add-clause-err
returns-in_err-add-clause-err c =
    on_err c.from_residual.result ((c.get_mut.follows.holds c.add.new.self).0
    ∙ set_same (is_at (slice_cmp nat_cmp c.args.key.now)) c.args.keys.now.entries c.add.new.self (ap (λ (s : KeyValue). Some s) c.in_err-add.ensures.err ∙ c.in-Some.ensures.value))
