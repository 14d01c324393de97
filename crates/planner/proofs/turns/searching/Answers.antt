use Rattle.std.proofs.Common.{subst}
use Rattle.sql_eval.specs.Execution.{table_name}
use Rattle.sql_eval.specs.OwnWrites.{reads_through}
use Rattle.sql_eval.specs.Reads.{served_reads}
use Rattle.sql_eval.specs.Tables.{named}
use Rattle.planner.proofs.TableLemmas.{named_sound}
use Rattle.planner.proofs.TurnLemmas.{search_asks, search_goes, turns_from}
use Rattle.planner.specs.Turns.{IsSearchStep}
use Rattle.planner.specs.declared.phases.Phase.TheVariants as phases
use Rattle.planner.proofs.turns.searching.Goals as goal

pub search_on-requires-clause-table : goal.search_on-requires-clause-table
search_on-requires-clause-table c = named_sound c.args.setting.now (table_name c.args.s.now) (named c.args.n.now) c.requires.sound c.requires.table

pub scanning-requires-clause-scan : goal.scanning-requires-clause-scan
scanning-requires-clause-scan c =
    let l = c.args.setting.now.layout in
    let t = c.args.n.now.table.now in
    let known = reads_through c.args.own.now (served_reads c.args.known.now) in
    (subst (IsSearchStep l.catalog t known c.args.w) c.in-Goes.is (c.in_ok-ask.ensures l.catalog c.requires.search)).0

pub returns-in-Asks : goal.returns-in-Asks
returns-in-Asks c =
    let l = c.args.setting.now.layout in
    let t = c.args.n.now.table.now in
    let known = reads_through c.args.own.now (served_reads c.args.known.now) in
    search_asks l c.args.setting.now.region (named c.args.n.now) known c.args.s.now c.args.w c.in-Asks.w c.in-Asks.ask c.requires.finds
    (subst (IsSearchStep l.catalog t known c.args.w) c.in-Asks.is (c.in_ok-ask.ensures l.catalog c.requires.search))

pub returns-in-Goes : goal.returns-in-Goes
returns-in-Goes c =
    let l = c.args.setting.now.layout in
    let t = c.args.n.now.table.now in
    let known = reads_through c.args.own.now (served_reads c.args.known.now) in
    turns_from l c.args.setting.now.region (named c.args.n.now) known c.args.s.now (phases.Searching c.args.w) (phases.Scanning c.in-Goes.w) c.scanning.result
    (search_goes l c.args.setting.now.region (named c.args.n.now) known c.args.s.now c.args.w c.in-Goes.w
    (subst (IsSearchStep l.catalog t known c.args.w) c.in-Goes.is (c.in_ok-ask.ensures l.catalog c.requires.search)))
    c.scanning.ensures
