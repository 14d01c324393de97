use Rattle.std.proofs.Common.{rules, Some, cond, ap, ◌∙◌}
use Rattle.mvcc_range.proofs.KeyLemmas.{committed_value}
use Rattle.mvcc_range.specs.KeyFacts.{same_ts, version_at}
use Rattle.mvcc_range.specs.KeyValue.{KeyValue}
use Rattle.mvcc_range.proofs.key_state.KeyState.resolve.Goals as goal

pub returns-in-Committed-clause-versions : goal.returns-in-Committed-clause-versions
returns-in-Committed-clause-versions c = λ q.
    c.in_ok-insert.ensures.updates.0 q
    ∙ ap (λ (s : KeyValue). cond (same_ts c.in-Committed.ts q) (Some c.in_ok-value.value) (version_at q s)) c.self.view_is
    ∙ committed_value c.args.a c.args.fate c.in-Committed.ts q c.in-Some.kept c.in_ok-value.value c.args.self.now (search rules) (search rules) (search rules) (search rules)
