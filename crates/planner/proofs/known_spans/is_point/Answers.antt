use Rattle.std.proofs.Common.{◌≡◌, ◌≢◌, ◌∙◌, ℕ, arith, eqb, false, sym}
use Rattle.std.proofs.lemmas.Bool.Decides.{nat_tests}
use Rattle.planner.proofs.PointTests.{last_other, last_zero}
use Rattle.planner.proofs.known_spans.is_point.Goals as goal

not_zero : (n : ℕ) → n ≢ 0 → eqb n 0 ≡ false
not_zero n h = grind (arith, nat_tests)

pub returns-then-last-eq0 : goal.returns-then-last-eq0
returns-then-last-eq0 c =
    rw (c.eq.ensures, c.as_slice-then-last-eq0.ensures, ← c.as_slice.ensures, c.in-Some.ensures.cases.0, c.if-last-eq0.true)
    (sym (last_zero c.in-Some.front.now c.args.s.now.lo))

pub returns-else-last-eq0 : goal.returns-else-last-eq0
returns-else-last-eq0 c =
    rw (← c.as_slice.ensures, c.in-Some.ensures.cases.0)
    (not_zero c.in-Some.last.now c.if-last-eq0.false ∙ sym (last_other c.in-Some.front.now c.args.s.now.lo c.in-Some.last.now c.if-last-eq0.false))
