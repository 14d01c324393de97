use Rattle.std.proofs.Common.{◌++◌, ◌∙◌, List, None, ap}
use Rattle.mr_base.specs.declared.rows.Datum.{Datum}
use Rattle.sql_eval.specs.Lookups.{key_lookups}
use Rattle.local_search.specs.ChangedKeys.{new_indexes}
use Rattle.local_search.proofs.LookupSteps.{row_inserted, all_inserted}
use Rattle.local_search.proofs.key_lookups.new_row_lookups.Goals as goal

pub loop-row-preserved : goal.loop-row-preserved
loop-row-preserved c =
    let t = c.args.t.now in
    let ps = c.args.partitions.now in
    row_inserted t ps c.args.rows.now c.loop-row.row-index c.row-item.result c.loop-row.lookups c.push_row.new.lookups c.loop-row-test.true c.row-item.is c.loop-row.invariant
    (c.in_ok-push_row.ensures ∙ ap (λ (row : List Datum). c.loop-row.lookups ++ key_lookups t ps (new_indexes t None row) row) c.as_slice.ensures)

pub returns : goal.returns
returns c = all_inserted c.args.t.now c.args.partitions.now c.args.rows.now c.loop-row.row-index c.loop-row.lookups c.loop-row-test.false c.loop-row.invariant
