use Rattle.std.proofs.Common.{ap, sym, ◌∙◌}
use Rattle.ts_cache.proofs.IndexLemmas.{renewed_point, renewed_wide, ts_of-wide}
use Rattle.ts_cache.proofs.RenewLemmas.{renewed_there}
use Rattle.ts_cache.specs.Held.{ts_of}
use Rattle.ts_cache.proofs.index.Index.renew.Goals as goal

pub returns-then-is_point : goal.returns-then-is_point
returns-then-is_point c = λ held had is i.
    renewed_point c.args.s.now had c.args.ts c.args.self.now.points.entries c.raise.new.points.entries c.args.self.now.wide.items held (sym c.is_point.ensures ∙ c.if-is_point.true) is c.raise.ensures i

pub returns-else-is_point : goal.returns-else-is_point
returns-else-is_point c = λ held had is i.
    let wide = sym c.is_point.ensures ∙ c.if-is_point.false in
    let there = ap (ts_of c.args.s.now) i.wides ∙ (ts_of-wide c.args.s.now held wide ∙ is) in
    renewed_wide c.args.s.now had c.args.ts c.args.self.now.points.entries c.args.self.now.wide.items c.renew.new.list.items held wide is
    (renewed_there c.args.s.now c.args.ts had c.args.self.now.wide.items c.renew.new.list.items c.renew.result there c.renew.ensures) i
