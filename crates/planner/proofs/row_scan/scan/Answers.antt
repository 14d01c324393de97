use Rattle.std.proofs.Common.{◌≡◌, get_or, arith, rules, map, drop, subst}
use Rattle.row_locality.specs.Pairs.{key_value}
use Rattle.sql_eval.specs.OwnWrites.{reads_through}
use Rattle.sql_eval.specs.Reads.{served_reads}
use Rattle.sql_eval.specs.Search.{Lookup}
use Rattle.planner.proofs.ScanLemmas.{lives_at, needs_one, reads_all, reads_one}
use Rattle.planner.specs.Scans.{LivesIn, scans}
use Rattle.planner.specs.Turns.{IsNeeded}
use Rattle.planner.proofs.row_scan.scan.Goals as goal

pub returns-in_default-clause-scanned : goal.returns-in_default-clause-scanned
returns-in_default-clause-scanned c =
    let known = reads_through c.args.own.now (served_reads c.args.known.now) in (
      omega (arith),
      c.loop-i.invariant.same,
      subst (IsNeeded (scans c.args.t.now (drop c.loop-i.i c.args.lookups.now) c.loop-i.rows known)) (search rules)
          (needs_one known c.args.t.now c.args.lookups.now c.loop-i.rows (scans c.args.t.now c.args.lookups.now c.args.rows.now) c.loop-i.i c.index-lookups-i.result (omega (arith)) (search rules)),
    )

pub loop-i-preserved : goal.loop-i-preserved
loop-i-preserved c =
    let known = reads_through c.args.own.now (served_reads c.args.known.now) in
    let at : get_or c.args.lookups.now c.loop-i.i c.index-lookups-i.result ≡ c.index-lookups-i.result = search rules in
    record {
      same = reads_one known c.args.t.now c.args.lookups.now c.loop-i.rows (scans c.args.t.now c.args.lookups.now c.args.rows.now) c.loop-i.i c.index-lookups-i.result (omega (arith))
          (map key_value c.in-Some.pairs) c.put_rows.new.rows (search rules) (search rules) c.loop-i.invariant.same;
      rows = λ x each h. c.in_ok-put_rows.ensures.rows x
          (subst (λ (p : Lookup). LivesIn x c.args.t.now p.partition.region) at (lives_at x c.args.t.now c.args.lookups.now c.loop-i.i c.index-lookups-i.result (omega (arith)) each)) (c.loop-i.invariant.rows x each h);
    }

pub returns-clause-scanned : goal.returns-clause-scanned
returns-clause-scanned c =
    reads_all (reads_through c.args.own.now (served_reads c.args.known.now)) c.args.t.now c.args.lookups.now c.loop-i.rows (scans c.args.t.now c.args.lookups.now c.args.rows.now) c.loop-i.i
    (omega (arith)) c.loop-i.invariant.same
