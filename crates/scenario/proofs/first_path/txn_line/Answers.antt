use Rattle.scenario.proofs.Names.{without_blank, with_another_tail, without_name, refuted}
use Rattle.scenario.proofs.first_path.txn_line.Goals as goal

pub returns-in_default-round_blank-clause-only : goal.returns-in_default-round_blank-clause-only
returns-in_default-round_blank-clause-only c = without_blank _ _ c.in-Some.ensures.found c.in_default-round_blank.ensures.only

pub returns-in_default-after_head-clause-only : goal.returns-in_default-after_head-clause-only
returns-in_default-after_head-clause-only c =
    with_another_tail _ _ _ _ c.in-Some.ensures.found c.in-Some-round_blank.ensures.found c.in-Some-round_blank.ensures.first c.in_default-after_head.ensures.only

pub returns-else-is_txn_name-clause-only : goal.returns-else-is_txn_name-clause-only
returns-else-is_txn_name-clause-only c =
    without_name _ _ _ _ c.in-Some.ensures.found c.in-Some-round_blank.ensures.found c.in-Some-round_blank.ensures.first (refuted _ _ c.is_txn_name.ensures c.if-is_txn_name.false)
