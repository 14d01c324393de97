use Rattle.std.proofs.Common.{sym, ◌∙◌, arith}
use Rattle.sql_eval.specs.RowWords.{value_in}
use Rattle.sql_eval.proofs.ListSteps.{filter_map_item}
use Rattle.sql_eval.proofs.rows.listed_columns.Goals as goal

pub loop-name-preserved : goal.loop-name-preserved
loop-name-preserved c =
    c.in_ok-push_some.ensures
    ∙ filter_map_item (value_in c.args.t.now c.args.row.now) c.args.names.now c.loop-name.name-index c.name-item.result c.as_slice.result.now c.loop-name.shown c.in_ok-value.value (omega arith) c.name-item.is c.as_slice.ensures (sym (c.in_ok-value.ensures ∙ c.value_in.ensures)) c.loop-name.invariant
