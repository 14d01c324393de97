use Rattle.std.proofs.Common.{subst}
use Rattle.row_locality.specs.Decoding.{IsRegionFor}
use Rattle.sql_eval.specs.OwnWrites.{reads_through}
use Rattle.sql_eval.specs.Reads.{served_reads}
use Rattle.sql_eval.specs.Tables.{named}
use Rattle.answer_laws.proofs.Lists.{each_weaker}
use Rattle.planner.proofs.TurnLemmas.{has_read, scan_asks}
use Rattle.planner.specs.Phases.{IsLookupFor, terms_of}
use Rattle.planner.specs.Turns.{IsScanStep}
use Rattle.planner.proofs.turns.scanning.Goals as goal

pub scan_on-requires : goal.scan_on-requires
scan_on-requires c =
    let t = c.args.n.now.table.now in
    each_weaker (IsLookupFor c.args.setting.now.layout.catalog t) (λ x. IsRegionFor t x.partition.region) (λ x h. h.region) c.args.w.lookups c.requires.scan.lookups

pub with_rows-requires-clause-rows : goal.with_rows-requires-clause-rows
with_rows-requires-clause-rows c =
    let l = c.args.setting.now.layout in
    let t = c.args.n.now.table.now in
    let known = reads_through c.args.own.now (served_reads c.args.known.now) in
    (subst (IsScanStep l.catalog t known c.args.w) c.in-Ends.is (c.in_ok-ask.ensures l.catalog c.requires.scan)).0

pub returns-in-Asks : goal.returns-in-Asks
returns-in-Asks c =
    let l = c.args.setting.now.layout in
    let t = c.args.n.now.table.now in
    let known = reads_through c.args.own.now (served_reads c.args.known.now) in
    scan_asks l c.args.setting.now.region (named c.args.n.now) known c.args.s.now c.args.w c.in-Asks.w c.in-Asks.ask c.requires.finds
    (subst (IsScanStep l.catalog t known c.args.w) c.in-Asks.is (c.in_ok-ask.ensures l.catalog c.requires.scan))

pub returns-in-Ends : goal.returns-in-Ends
returns-in-Ends c =
    let l = c.args.setting.now.layout in
    let t = c.args.n.now.table.now in
    let known = reads_through c.args.own.now (served_reads c.args.known.now) in
    has_read l c.args.setting.now.region (named c.args.n.now) known c.args.s.now c.args.w c.in-Ends.rows c.with_rows.result
    ((subst (IsScanStep l.catalog t known c.args.w) c.in-Ends.is (c.in_ok-ask.ensures l.catalog c.requires.scan)).1 (terms_of c.args.s.now))
    c.with_rows.ensures
