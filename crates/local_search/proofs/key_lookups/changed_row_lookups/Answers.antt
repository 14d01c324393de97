use Rattle.std.proofs.Common.{◌++◌, ◌∙◌, List, Some, sym, ap₂}
use Rattle.mr_base.specs.declared.rows.Datum.{Datum}
use Rattle.sql_eval.specs.Lookups.{key_lookups}
use Rattle.local_search.specs.ChangedKeys.{new_indexes}
use Rattle.local_search.proofs.LookupSteps.{row_changed, olds_ended, news_ended}
use Rattle.local_search.proofs.RowValues.{none_past}
use Rattle.local_search.proofs.key_lookups.changed_row_lookups.Goals as goal

pub returns-in_default : goal.returns-in_default
returns-in_default c =
    olds_ended c.args.t.now c.args.partitions.now c.args.olds.now c.args.news.now c.loop-i.i c.loop-i.lookups _ (none_past c.args.olds.now c.loop-i.i c.in_default.ensures) c.loop-i.invariant

pub loop-i-preserved : goal.loop-i-preserved
loop-i-preserved c =
    let t = c.args.t.now in
    let ps = c.args.partitions.now in
    row_changed t ps c.args.olds.now c.args.news.now c.loop-i.i c.in-Some.old.now c.index-news-i.result c.loop-i.lookups c.push_row.new.lookups _ (sym c.in-Some.ensures) c.loop-i-test.true c.index-news-i.is
    c.loop-i.invariant
    (c.in_ok-push_row.ensures
    ∙ ap₂ (λ (old new : List Datum). c.loop-i.lookups ++ key_lookups t ps (new_indexes t (Some old) new) new) c.as_slice.ensures c.as_slice-in-loop-i.ensures)

pub returns : goal.returns
returns c = news_ended c.args.t.now c.args.partitions.now c.args.olds.now c.args.news.now c.loop-i.i c.loop-i.lookups _ c.loop-i-test.false c.loop-i.invariant
