use Rattle.std.proofs.lemmas.Result.{err_from_is_err_and}
use Rattle.std.proofs.Common.{refl}
use Rattle.range_server.proofs.LeaseLemmas.{beside_after, follows_held, held_extends, refused_extends}
use Rattle.range_server.specs.Scene.{scene}
use Rattle.range_server.proofs.standing.Standing.extend.Goals as goal

pub returns-in_err-last-clause-answer : goal.returns-in_err-last-clause-answer
returns-in_err-last-clause-answer c =
    let p = err_from_is_err_and c.from_residual.result c.from_residual.ensures.1 in
    rw (p.1, p.2) (held_extends (scene c.args.self.now c.args.log.now c.args.now) c.in_err-last.field-0.0 c.args.log.now.entries refl (c.in_err-last.ensures c.args.now))

pub append_lease-requires : goal.append_lease-requires
append_lease-requires c = (c.in_ok-last.ensures c.args.now).last

pub returns-in_err-append_lease-clause-answer : goal.returns-in_err-append_lease-clause-answer
returns-in_err-append_lease-clause-answer c =
    let p = err_from_is_err_and c.from_residual-in_err-append_lease.result c.from_residual-in_err-append_lease.ensures.1 in
    rw (p.1, p.2)
    (refused_extends (scene c.args.self.now c.args.log.now c.args.now) c.in_ok-last.last
    (record { seq = c.in_ok-after.field-0; holder = c.in_ok-last.last.holder; boot = c.in_ok-last.last.boot; expiration = c.later_wall.result; low = c.in_ok-last.last.low })
    (c.in_ok-last.ensures c.args.now) c.append_lease.new.log
    c.in_err-append_lease.field-0.0 c.in_err-append_lease.ensures)

pub returns-clause-answer : goal.returns-clause-answer
returns-clause-answer c =
    record {
      last = c.in_ok-last.last;
      holds = c.in_ok-last.ensures c.args.now;
      quorum = c.in_ok-append_lease.ensures.0;
      extended = record {
        seq = c.in_ok-after.ensures;
        holder_is = refl;
        boot_is = refl;
        expiration = rw c.later_wall.ensures (rw c.in_ok-ahead_of.ensures.0 refl);
        low_is = refl;
      };
      appended = c.in_ok-append_lease.ensures.1;
    }

pub returns-clause-beside : goal.returns-clause-beside
returns-clause-beside c = λ _.
    beside_after _ c.args.log.now.entries c.append_lease.new.log.entries _ c.in_ok-append_lease.ensures.1
    (c.in_ok-apply.ensures.ok c.args.log.now.entries
    (follows_held c.args.self.now c.args.log.now.entries c.in_ok-last.last c.requires.beside (c.in_ok-last.ensures c.args.now)))

pub returns-clause-applied : goal.returns-clause-applied
returns-clause-applied c =
    rw c.in_ok-append_lease.ensures.1
    (c.in_ok-apply.ensures.ok c.args.log.now.entries
    (follows_held c.args.self.now c.args.log.now.entries c.in_ok-last.last c.requires.beside (c.in_ok-last.ensures c.args.now)))
