use Rattle.std.proofs.lemmas.Bool.{eq-eqb, eqb-true}
use Rattle.zone_compile.proofs.Formed.{bytes_of, empty_of, is_one, one_is}
use Rattle.zone_compile.proofs.forming.is_only.Goals as goal

pub returns : goal.returns
returns c = (
  λ yes. is_one c.in-Some.first.now c.args.counts.now c.in-Some.more.now c.args.region.now c.args.count c.in-Some.ensures.cases.0 (empty_of c.in-Some.more.now c.if-not-is_empty.ensures) (bytes_of c.in-Some.first.now.0 c.args.region.now c.if-ne.ensures) (eqb-true c.in-Some.first.now.1 c.args.count yes),
  λ h. eq-eqb c.in-Some.first.now.1 c.args.count (one_is c.in-Some.first.now c.args.counts.now c.in-Some.more.now c.args.region.now c.args.count c.in-Some.ensures.cases.0 h),
)
