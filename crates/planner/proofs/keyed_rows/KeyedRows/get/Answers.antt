use Rattle.std.proofs.Common.{◌∙◌, List, ap}
use Rattle.std.specs.FinMap.Entries.{find}
use Rattle.row_locality.specs.Pairs.{bytes_cmp}
use Rattle.sql_eval.specs.Evaluation.{KeyedRow}
use Rattle.planner.proofs.PlaceLemmas.{lookup_is_find}
use Rattle.planner.proofs.keyed_rows.KeyedRows.get.Goals as goal

pub returns : goal.returns
returns c =
    c.get.ensures.value ∙ lookup_is_find bytes_cmp c.args.key.now c.self.inside.rows.entries ∙ ap (λ (es : List KeyedRow). find bytes_cmp c.args.key.now es) c.self.view_is
