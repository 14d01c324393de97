use Rattle.std.proofs.Common.{◌++◌, arith, rules, map, take, ap, ◌∙◌}
use Rattle.row_locality.specs.Pairs.{key_value}
use Rattle.planner.proofs.PutLemmas.{put_same}
use Rattle.planner.proofs.looking.place_of.Goals as goal

pub returns-then-is_eq : goal.returns-then-is_eq
returns-then-is_eq c = (omega (arith), λ v. c.loop-i.invariant v ∙ ap (λ l. map key_value (take c.loop-i.i c.args.pairs.now) ++ l) (put_same c.args.key.now v c.args.pairs.now c.loop-i.i c.index-pairs-i.result (omega (arith)) (search rules)))
