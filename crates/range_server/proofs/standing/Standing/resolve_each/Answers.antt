use Rattle.std.proofs.Common.{◌≡◌, ◌∙◌, ℕ, length, subst, arith}
use Rattle.range_server.proofs.ResolveLemmas.{resolved_more, resolved_none}
use Rattle.range_server.specs.Resolving.{AreResolvedTo}
use Rattle.range_server.proofs.standing.Standing.resolve_each.Goals as goal

pub loop-key-init : goal.loop-key-init
loop-key-init c = resolved_none c.args.attempt c.args.keys.now c.args.fate c.args.log.now c.args.self.now c.requires.follows

pub loop-key-preserved : goal.loop-key-preserved
loop-key-preserved c =
    resolved_more c.args.attempt c.args.keys.now c.args.fate c.loop-key.key-index c.key-item.result c.args.log.now c.loop-key.log
    c.resolve_at.new.log c.args.self.now c.loop-key.self c.resolve_at.new.self c.loop-key-test.true c.key-item.is c.loop-key.invariant
    c.in_ok-resolve_at.ensures

pub resolve_at-requires-clause-last : goal.resolve_at-requires-clause-last
resolve_at-requires-clause-last c = c.loop-key.invariant.last ∙ c.requires.last

pub resolve_at-requires-clause-majority : goal.resolve_at-requires-clause-majority
resolve_at-requires-clause-majority c = rw c.loop-key.invariant.voters c.requires.majority

pub returns : goal.returns
returns c =
    let all : c.loop-key.key-index ≡ length c.args.keys.now = omega arith in
    subst (λ (n : ℕ). AreResolvedTo c.args.attempt c.args.keys.now n c.args.fate c.args.log.now c.loop-key.log c.args.self.now c.loop-key.self)
    all c.loop-key.invariant
