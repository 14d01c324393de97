use Rattle.std.proofs.Common.{rules, drop}
use Rattle.sql_eval.specs.OwnWrites.{reads_through}
use Rattle.sql_eval.specs.Reads.{served_reads}
use Rattle.planner.proofs.CheckLemmas.{check_needs, passed_more}
use Rattle.planner.specs.Checks.{IsPassed}
use Rattle.planner.specs.declared.unique_check.Passing.TheVariants as passing
use Rattle.planner.proofs.unique_check.check_on.Goals as goal

pub returns-in-Asks : goal.returns-in-Asks
returns-in-Asks c =
    let known = reads_through c.args.own.now (served_reads c.args.known.now) in
    let passed : IsPassed c.args.w.replaced (drop c.args.w.passed c.args.w.lookups) known (passing.Asks c.in-Asks.more c.in-Asks.ask) = search rules in (
      passed_more known c.args.w c.with_passed.result c.in-Asks.more c.with_passed.ensures passed.1,
      check_needs known c.args.w c.with_passed.result c.in-Asks.more c.in-Asks.ask c.with_passed.ensures passed.2,
    )
