use Rattle.std.proofs.Common.{ℕ, ◌∙◌, ap, sym, subst}
use Rattle.closed_ts.specs.Targets.{at_wall}
use Rattle.mr_base.specs.Timestamps.{later}
use Rattle.mr_base.specs.declared.spans.Span.{Span}
use Rattle.mr_base.specs.declared.timestamps.Ts.{Ts}
use Rattle.range_server.proofs.FloorLemmas.{based, floor_ahead, floor_here}
use Rattle.range_server.specs.Puts.{ahead_of, read_at}
use Rattle.range_server.specs.Ways.{IsFloor}
use Rattle.ts_cache.specs.Cached.{high_of}
use Rattle.range_server.proofs.standing.Standing.floor.Goals as goal

pub returns-then-not-self : goal.returns-then-not-self
returns-then-not-self c = λ entries f.
    floor_here (read_at c.args.self.now.cache c.args.key.now) c.args.self.now.is_global (ahead_of c.args.now) c.args.key.now entries c.if-not-self.true c.later_of-floor.result
    (based (read_at c.args.self.now.cache c.args.key.now) c.args.self.now.is_global (ahead_of c.args.now) c.args.key.now entries c.high.result c.closed.result
    c.later-read.result c.later_of-floor.result c.newest.result
    (c.high.ensures ∙ ap (λ (x : Span). high_of c.args.self.now.cache x) c.in_ok-point.ensures) (c.closed.ensures entries f) c.later-read.ensures
    c.later_of-floor.ensures (c.newest.ensures entries f))

pub returns : goal.returns
returns c = λ entries f.
    subst (λ (x : Ts). IsFloor (read_at c.args.self.now.cache c.args.key.now) c.args.self.now.is_global (ahead_of c.args.now) c.args.key.now entries x)
    (sym (c.later.ensures ∙ ap (λ (w : ℕ). later c.later_of-floor.result (at_wall w)) c.in_ok-wall.ensures.0))
    (floor_ahead (read_at c.args.self.now.cache c.args.key.now) c.args.self.now.is_global (ahead_of c.args.now) c.args.key.now entries c.if-not-self.false c.later_of-floor.result
    (based (read_at c.args.self.now.cache c.args.key.now) c.args.self.now.is_global (ahead_of c.args.now) c.args.key.now entries c.high.result c.closed.result
    c.later-read.result c.later_of-floor.result c.newest.result
    (c.high.ensures ∙ ap (λ (x : Span). high_of c.args.self.now.cache x) c.in_ok-point.ensures) (c.closed.ensures entries f) c.later-read.ensures
    c.later_of-floor.ensures (c.newest.ensures entries f)))
