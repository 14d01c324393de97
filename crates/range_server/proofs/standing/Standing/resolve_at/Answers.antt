use Rattle.std.proofs.Common.{inl, inr, refl}
use Rattle.std.proofs.lemmas.Result.{on_ok_weaker}
use Rattle.mvcc_range.specs.Lookups.{laid_as}
use Rattle.range_server.proofs.IntentLemmas.{not_of, other_attempt, same_attempt}
use Rattle.range_server.proofs.standing.Standing.resolve_at.Goals as goal

pub returns-in_default : goal.returns-in_default
returns-in_default c = inl ((λ x. c.in_default.ensures c.args.log.now.entries c.requires.follows x.0 x.1), refl, refl)

pub returns-then-eq : goal.returns-then-eq
returns-then-eq c =
    let at = c.in-Some.ensures c.args.log.now.entries c.requires.follows in
    on_ok_weaker c.append_resolve.result
    (λ a. inr (
      (
        laid_as c.in-Some.intent at.0,
        at.1,
        same_attempt c.in-Some.intent.attempt c.args.attempt c.eq.result c.eq.ensures c.if-eq.true,
      ),
      a,
    )) c.append_resolve.ensures

pub returns : goal.returns
returns c =
    inl (
      not_of c.args.log.now.entries c.args.key.now c.in-Some.intent c.args.attempt (c.in-Some.ensures c.args.log.now.entries c.requires.follows)
          (other_attempt c.in-Some.intent.attempt c.args.attempt c.eq.result c.eq.ensures c.if-eq.false),
      refl,
      refl,
    )
