use Rattle.std.proofs.Common.{rules, drop, subst}
use Rattle.std.specs.List.{AllByRecursion}
use Rattle.std.specs.Prelude.{None, Some}
use Rattle.sql_eval.specs.OwnWrites.{reads_through}
use Rattle.sql_eval.specs.Reads.{served_reads}
use Rattle.planner.proofs.ScanLemmas.{dropped, scan_ends, scan_needs, scan_same}
use Rattle.planner.specs.Phases.{IsLookupFor}
use Rattle.planner.specs.Scans.{IsScanned}
use Rattle.planner.proofs.row_scan.scan_on.Goals as goal

pub returns-in-None : goal.returns-in-None
returns-in-None c =
    let known = reads_through c.args.own.now (served_reads c.args.known.now) in
    let t = c.args.t.now in
    let rest = drop c.args.w.passed c.args.w.lookups in
    let scanned : IsScanned t known rest c.args.w.rows c.scan.new.rows None = search rules in
    λ x sound. (
      c.in_ok-scan.ensures.rows x (subst (AllByRecursion (IsLookupFor x t)) (search rules) (dropped (IsLookupFor x t) c.args.w.passed c.args.w.lookups sound.lookups)) sound.rows,
      scan_ends known t c.args.w c.scan.new.rows scanned,
    )

pub returns-in-Some : goal.returns-in-Some
returns-in-Some c =
    let known = reads_through c.args.own.now (served_reads c.args.known.now) in
    let t = c.args.t.now in
    let rest = drop c.args.w.passed c.args.w.lookups in
    let scanned : IsScanned t known rest c.args.w.rows c.scan.new.rows (Some (c.in-Some.more, c.in-Some.ask)) = search rules in
    λ x sound. (
      record {
        lookups = sound.lookups;
        rows = c.in_ok-scan.ensures.rows x (subst (AllByRecursion (IsLookupFor x t)) (search rules) (dropped (IsLookupFor x t) c.args.w.passed c.args.w.lookups sound.lookups)) sound.rows;
      },
      scan_same known t c.args.w c.scan.new.rows c.in-Some.more scanned.1,
      scan_needs known t c.args.w c.scan.new.rows c.in-Some.more c.in-Some.ask scanned.2,
    )
