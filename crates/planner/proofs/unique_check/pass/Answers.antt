use Rattle.std.proofs.Common.{arith, rules, map, drop, subst}
use Rattle.row_locality.specs.Pairs.{key_value}
use Rattle.sql_eval.specs.OwnWrites.{reads_through}
use Rattle.sql_eval.specs.Reads.{served_reads}
use Rattle.planner.proofs.CheckLemmas.{meets_one, needs_one, passes_all, passes_one}
use Rattle.planner.specs.Checks.{meets}
use Rattle.planner.specs.Turns.{IsNeeded}
use Rattle.planner.proofs.unique_check.pass.Goals as goal

pub returns-in_default : goal.returns-in_default
returns-in_default c = (
  omega (arith),
  c.loop-i.invariant,
  subst (IsNeeded (meets c.args.replaced.now (drop c.loop-i.i c.args.lookups.now) (reads_through c.args.own.now (served_reads c.args.known.now)))) (search rules)
      (needs_one (reads_through c.args.own.now (served_reads c.args.known.now)) c.args.replaced.now c.args.lookups.now c.loop-i.i c.index-lookups-i.result (omega (arith)) (search rules)),
)

pub returns-then-meets_other : goal.returns-then-meets_other
returns-then-meets_other c =
    meets_one (reads_through c.args.own.now (served_reads c.args.known.now)) c.args.replaced.now c.args.lookups.now c.loop-i.i c.index-lookups-i.result (omega (arith))
    (map key_value c.in-Some.pairs) (search rules) (search rules) c.loop-i.invariant

pub loop-i-preserved : goal.loop-i-preserved
loop-i-preserved c =
    passes_one (reads_through c.args.own.now (served_reads c.args.known.now)) c.args.replaced.now c.args.lookups.now c.loop-i.i c.index-lookups-i.result (omega (arith))
    (map key_value c.in-Some.pairs) (search rules) (search rules) c.loop-i.invariant

pub returns : goal.returns
returns c = passes_all (reads_through c.args.own.now (served_reads c.args.known.now)) c.args.replaced.now c.args.lookups.now c.loop-i.i (omega (arith)) c.loop-i.invariant
