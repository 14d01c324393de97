use Rattle.std.proofs.Common.{[], subst}
use Rattle.sql_eval.specs.OwnWrites.{reads_through}
use Rattle.sql_eval.specs.Reads.{served_reads}
use Rattle.sql_eval.specs.Tables.{named}
use Rattle.planner.proofs.TurnLemmas.{checked_turns}
use Rattle.planner.specs.Phases.{scanned_rows, terms_of}
use Rattle.planner.specs.Turns.{IsFound}
use Rattle.planner.proofs.turns.with_rows.Goals as goal

pub returns-in-Goes : goal.returns-in-Goes
returns-in-Goes c =
    let s = c.args.setting.now in
    let n = named c.args.n.now in
    let known = reads_through c.args.own.now (served_reads c.args.known.now) in
    checked_turns s.layout s.region n known c.args.s.now c.args.rows c.in-Goes.w c.checking.result
    (subst (IsFound s.layout n c.args.s.now (scanned_rows n.table (terms_of c.args.s.now) c.args.rows [])) c.in-Goes.is c.in_ok-code.ensures)
    c.checking.ensures
