use Rattle.std.proofs.Common.{subst}
use Rattle.sql_eval.specs.OwnWrites.{reads_through}
use Rattle.sql_eval.specs.Reads.{served_reads}
use Rattle.planner.proofs.ProgressLemmas.{asks_next, ends_done, has_fault}
use Rattle.planner.specs.Turns.{IsTurn}
use Rattle.planner.proofs.progress.statement_on.Goals as goal

pub returns-in-Asks : goal.returns-in-Asks
returns-in-Asks c =
    let s = c.args.setting.now in
    let p = c.args.p in
    let known = served_reads c.args.known.now in
    asks_next s c.args.list.now known p c.args.place c.index-list-place.result c.requires.next c.requires.place c.index-list-place.is c.in-Asks.ask c.in-Asks.phase
    (subst (IsTurn s.layout s.region (reads_through p.own known) c.index-list-place.result p.phase) c.in-Asks.is c.in_ok-ask.ensures)

pub returns-in-Faulty : goal.returns-in-Faulty
returns-in-Faulty c =
    let s = c.args.setting.now in
    let p = c.args.p in
    let known = served_reads c.args.known.now in
    has_fault s c.args.list.now known p c.args.place c.index-list-place.result c.requires.next c.requires.place c.index-list-place.is c.in-Faulty.code
    (subst (IsTurn s.layout s.region (reads_through p.own known) c.index-list-place.result p.phase) c.in-Faulty.is c.in_ok-ask.ensures)

pub returns-in_ok-after_statement-in-Ends : goal.returns-in_ok-after_statement-in-Ends
returns-in_ok-after_statement-in-Ends c =
    let s = c.args.setting.now in
    let p = c.args.p in
    let known = served_reads c.args.known.now in
    let q = c.in_ok-after_statement-in-Ends in
    ends_done s c.args.list.now known p c.args.place c.index-list-place.result c.requires.next c.requires.place c.index-list-place.is c.in-Ends.x q.field-0
    (subst (IsTurn s.layout s.region (reads_through p.own known) c.index-list-place.result p.phase) c.in-Ends.is c.in_ok-ask.ensures) q.ensures
