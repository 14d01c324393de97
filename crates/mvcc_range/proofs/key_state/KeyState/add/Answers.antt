use Rattle.std.proofs.Common.{Some, cond, ap, ◌∙◌}
use Rattle.mvcc_range.specs.KeyFacts.{same_ts, version_at}
use Rattle.mvcc_range.specs.KeyValue.{KeyValue}
use Rattle.mvcc_range.proofs.key_state.KeyState.add.Goals as goal

pub returns-clause-ok : goal.returns-clause-ok
returns-clause-ok c = λ q.
    c.in_ok-insert.ensures.updates.0 q
    ∙ ap (λ (s : KeyValue). cond (same_ts c.args.ts q) (Some c.args.value) (version_at q s)) c.self.view_is
