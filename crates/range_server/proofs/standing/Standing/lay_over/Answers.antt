use Rattle.range_server.proofs.PutLemmas.{free_settled, put_over, put_refused}
use Rattle.range_server.proofs.SettleLemmas.{follows_all}
use Rattle.range_server.specs.Puts.{put_asked}
use Rattle.range_server.proofs.standing.Standing.lay_over.Goals as goal

pub returns-in-Some : goal.returns-in-Some
returns-in-Some c = λ known way.
    let put = put_asked c.args.asked c.args.key.now c.args.value.now known in
    put_refused c.args.self.now c.args.log.now c.args.now put c.args.lease.now c.requires.has c.requires.beside c.in-Some.refusal
    c.requires.names
    (free_settled c.args.self.now c.args.log.now c.args.now put c.args.lease.now c.requires.has c.requires.beside c.args.other c.args.fate way)
    c.in-Some.ensures

pub append_resolve-requires-clause-follows : goal.append_resolve-requires-clause-follows
append_resolve-requires-clause-follows c =
    follows_all c.args.self.now c.args.log.now c.args.now c.args.asked.attempt c.args.lease.now c.requires.has c.requires.beside
    c.requires.names c.in_default.ensures

pub append_put-requires-clause-last : goal.append_put-requires-clause-last
append_put-requires-clause-last c = rw c.in_ok-append_resolve.ensures.entries c.in_default.ensures.0

pub append_put-requires-clause-majority : goal.append_put-requires-clause-majority
append_put-requires-clause-majority c = rw c.in_ok-append_resolve.ensures.voters c.in_default.ensures.1

pub append_put-requires-clause-follows : goal.append_put-requires-clause-follows
append_put-requires-clause-follows c = rw c.in_ok-append_resolve.ensures.entries c.in_ok-append_resolve.ensures.follows

pub returns : goal.returns
returns c = λ known way.
    let put = put_asked c.args.asked c.args.key.now c.args.value.now known in
    put_over c.args.self.now c.args.log.now c.args.now put c.args.lease.now c.requires.has c.requires.beside c.args.other c.args.fate c.in_ok-ts.ts
    c.append_resolve.new.log c.append_put.new.log c.append_resolve.new.self c.append_put.new.self c.requires.names way
    c.in_default.ensures c.in_ok-append_resolve.ensures c.in_ok-ts.ensures.appended
    c.in_ok-ts.ensures.moved.0 c.in_ok-ts.ensures.moved.1 c.in_ok-ts.ensures.moved.2
