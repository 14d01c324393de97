use Rattle.std.proofs.Common.{◌∙◌, List, ap}
use Rattle.std.specs.FinMap.Entries.{put}
use Rattle.row_locality.specs.Pairs.{bytes_cmp}
use Rattle.sql_eval.specs.Evaluation.{KeyedRow}
use Rattle.planner.proofs.PlaceLemmas.{insert_is_put}
use Rattle.planner.proofs.keyed_rows.KeyedRows.put.Goals as goal

pub returns : goal.returns
returns c =
    c.in_ok-insert.ensures.entries
    ∙ insert_is_put bytes_cmp c.args.key c.args.row c.self.inside.rows.entries
    ∙ ap (λ (es : List KeyedRow). put bytes_cmp c.args.key c.args.row es) c.self.view_is
