use Rattle.std.proofs.lemmas.Result.{err_from_is_err_and}
use Rattle.std.proofs.Common.{◌≡◌, true, refl}
use Rattle.range_server.proofs.LeaseLemmas.{beside_after, follows_held, held_transfers, refused_transfers}
use Rattle.range_server.specs.Scene.{scene}
use Rattle.range_server.proofs.standing.Standing.transfer.Goals as goal

pub returns-in_err-last-clause-answer : goal.returns-in_err-last-clause-answer
returns-in_err-last-clause-answer c =
    let p = err_from_is_err_and c.from_residual.result c.from_residual.ensures.1 in
    rw (p.1, p.2)
    (held_transfers (scene c.args.self.now c.args.log.now c.args.now) c.in_err-last.field-0.0 c.args.log.now.entries refl c.args.to c.args.boot (c.in_err-last.ensures c.args.now))

pub returns-then-not-has-clause-answer : goal.returns-then-not-has-clause-answer
returns-then-not-has-clause-answer c = (
  (c.in_ok-last.last, c.in_ok-last.ensures c.args.now),
  (λ m. let is : c.has.result ≡ true = c.has.ensures.1 (rw c.voters.ensures m) in cc),
  refl,
)

pub append_lease-requires : goal.append_lease-requires
append_lease-requires c = (c.in_ok-last.ensures c.args.now).last

pub returns-in_err-append_lease-clause-answer : goal.returns-in_err-append_lease-clause-answer
returns-in_err-append_lease-clause-answer c =
    let p = err_from_is_err_and c.from_residual-in_err-append_lease.result c.from_residual-in_err-append_lease.ensures.1 in
    rw (p.1, p.2)
    (refused_transfers (scene c.args.self.now c.args.log.now c.args.now) c.in_ok-last.last
    (record { seq = c.in_ok-after.field-0; holder = c.args.to; boot = c.args.boot; expiration = c.in_ok-ahead_of.field-0; low = c.top.result })
    (c.in_ok-last.ensures c.args.now) c.append_lease.new.log c.args.to
    c.args.boot (rw c.voters.ensures at (c.has.ensures.0 c.if-not-has.false)) c.in_err-append_lease.field-0.0 c.in_err-append_lease.ensures)

pub returns-clause-answer : goal.returns-clause-answer
returns-clause-answer c =
    record {
      last = c.in_ok-last.last;
      holds = c.in_ok-last.ensures c.args.now;
      voter = rw c.voters.ensures at (c.has.ensures.0 c.if-not-has.false);
      quorum = c.in_ok-append_lease.ensures.0;
      transferred = record { seq = c.in_ok-after.ensures; holder_is = refl; boot_is = refl; expiration = c.in_ok-ahead_of.ensures.0 };
      low_is = c.top.ensures;
      appended = c.in_ok-append_lease.ensures.1;
    }

pub returns-clause-beside : goal.returns-clause-beside
returns-clause-beside c = λ _.
    beside_after _ c.args.log.now.entries c.append_lease.new.log.entries _ c.in_ok-append_lease.ensures.1
    (c.in_ok-apply.ensures.follows c.args.log.now.entries
    (follows_held c.args.self.now c.args.log.now.entries c.in_ok-last.last c.requires.beside (c.in_ok-last.ensures c.args.now)))

pub returns-clause-applied : goal.returns-clause-applied
returns-clause-applied c =
    rw c.in_ok-append_lease.ensures.1
    (c.in_ok-apply.ensures.follows c.args.log.now.entries
    (follows_held c.args.self.now c.args.log.now.entries c.in_ok-last.last c.requires.beside (c.in_ok-last.ensures c.args.now)))
