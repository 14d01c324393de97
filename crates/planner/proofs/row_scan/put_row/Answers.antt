use Rattle.std.proofs.Common.{List, sym, subst}
use Rattle.std.specs.Prelude.{Option, IfSome}
use Rattle.std.specs.Option.{option_copied}
use Rattle.std.proofs.lemmas.Result.{on_ok_weaker}
use Rattle.mr_base.specs.declared.rows.Datum.{Datum}
use Rattle.descriptors.specs.Contents.{Contents}
use Rattle.row_locality.specs.Plain.{IsRowOf}
use Rattle.planner.proofs.ScanLemmas.{each_put}
use Rattle.planner.specs.Phases.{AreKeyedRowsOf}
use Rattle.planner.specs.Scans.{LivesIn}
use Rattle.planner.proofs.row_scan.put_row.Goals as goal

pub returns-clause-rows : goal.returns-clause-rows
returns-clause-rows c =
    let t = c.args.t.now in
    let lives = subst (λ (o : Option (List Datum)). IfSome o (λ r. (x : Contents) → LivesIn x t (option_copied c.args.region) → IsRowOf x t r)) c.in-Some.is c.in_ok-row.ensures.lives in
    on_ok_weaker c.put.result
    (λ e x at h. subst (AreKeyedRowsOf x t) (sym e) (each_put x t c.in_ok-clone_in.field-0 c.in-Some.row c.args.rows.now (lives x at) h))
    c.put.ensures
