use Rattle.std.proofs.lemmas.Result.{err_from_is_err_and}
use Rattle.std.proofs.Common.{List, [], refl, sym, ap}
use Rattle.range_server.proofs.LeaseLemmas.{applied_one, beside_after, follows_held, held_closes, is_above, is_not_above}
use Rattle.range_log.specs.declared.entries.Entry.{Entry}
use Rattle.range_server.proofs.LogLemmas.{added_is}
use Rattle.range_server.specs.Applying.{applied_past}
use Rattle.range_server.specs.Scene.{scene}
use Rattle.range_server.proofs.standing.Standing.close.Goals as goal

pub returns-in_err-last-clause-answer : goal.returns-in_err-last-clause-answer
returns-in_err-last-clause-answer c =
    let p = err_from_is_err_and c.from_residual.result c.from_residual.ensures.1 in
    rw (p.1, p.2) (held_closes (scene c.args.self.now c.args.log.now c.args.now) c.in_err-last.field-0.0 c.args.log.now.entries refl (c.in_err-last.ensures c.args.now))

pub returns-in-Some-clause-answer : goal.returns-in-Some-clause-answer
returns-in-Some-clause-answer c = ((c.in_ok-last.last, c.in_ok-last.ensures c.args.now), c.in-Some.ensures, refl)

pub returns-then-not-is_below-clause-answer : goal.returns-then-not-is_below-clause-answer
returns-then-not-is_below-clause-answer c = (
  (c.in_ok-last.last, c.in_ok-last.ensures c.args.now),
  c.in_default.ensures,
  is_not_above c.is_below.result c.closed.result c.target-ts.result _ _ c.is_below.ensures c.closed.ensures c.target-ts.ensures
      c.if-not-is_below.true,
  refl,
)

pub append-requires-clause-last : goal.append-requires-clause-last
append-requires-clause-last c = (c.in_ok-last.ensures c.args.now).last

pub append-requires-clause-follows : goal.append-requires-clause-follows
append-requires-clause-follows c =
    follows_held c.args.self.now c.args.log.now.entries c.in_ok-last.last c.requires.beside (c.in_ok-last.ensures c.args.now)

pub returns-clause-answer : goal.returns-clause-answer
returns-clause-answer c =
    record {
      lease = c.in_ok-last.last;
      holds = c.in_ok-last.ensures c.args.now;
      quorum = c.in_default.ensures;
      closing = record {
        target = c.target-ts.ensures;
        above = rw c.target-ts.ensures (is_above c.is_below.result c.closed.result c.target-ts.result _ _ c.is_below.ensures c.closed.ensures c.target-ts.ensures
            c.if-not-is_below.false);
      };
      appended = c.in_ok-append.ensures.entries;
    }

pub returns-clause-beside : goal.returns-clause-beside
returns-clause-beside c = λ _.
    beside_after _ c.args.log.now.entries c.append.new.log.entries _ c.in_ok-append.ensures.entries c.in_ok-append.ensures.follows

pub returns-then-not-is_below-clause-applied : goal.returns-then-not-is_below-clause-applied
returns-then-not-is_below-clause-applied c =
    sym (ap (λ (x : List Entry). applied_past x c.args.self.now.replica.applied c.args.log.now.entries) (added_is [] c.args.log.now.entries))

pub returns-clause-applied : goal.returns-clause-applied
returns-clause-applied c =
    applied_one c.args.log.now.entries c.append.new.log.entries _ c.args.self.now.replica.applied c.append.new.self.replica c.in_ok-append.ensures.entries
    c.in_ok-append.ensures.follows
