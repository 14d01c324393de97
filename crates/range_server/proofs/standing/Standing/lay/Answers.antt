use Rattle.range_server.proofs.PutLemmas.{free_clear, put_laid, put_refused}
use Rattle.range_server.proofs.SettleLemmas.{follows_all}
use Rattle.range_server.specs.Puts.{put_asked}
use Rattle.range_server.proofs.standing.Standing.lay.Goals as goal

pub returns-in-Some : goal.returns-in-Some
returns-in-Some c = λ known way.
    let put = put_asked c.args.asked c.args.key.now c.args.value.now known in
    put_refused c.args.self.now c.args.log.now c.args.now put c.args.lease.now c.requires.has c.requires.beside c.in-Some.refusal
    c.requires.names (free_clear c.args.self.now c.args.log.now c.args.now put c.args.lease.now c.requires.has c.requires.beside way)
    c.in-Some.ensures

pub append_put-requires-clause-follows : goal.append_put-requires-clause-follows
append_put-requires-clause-follows c =
    follows_all c.args.self.now c.args.log.now c.args.now c.args.asked.attempt c.args.lease.now c.requires.has c.requires.beside
    c.requires.names c.in_default.ensures

pub returns : goal.returns
returns c = λ known way.
    let put = put_asked c.args.asked c.args.key.now c.args.value.now known in
    put_laid c.args.self.now c.args.log.now c.args.now put c.args.lease.now c.requires.has c.requires.beside c.in_ok-ts.ts
    c.append_put.new.log c.append_put.new.self c.requires.names way c.in_default.ensures c.in_ok-ts.ensures.appended
    c.in_ok-ts.ensures.moved.0 c.in_ok-ts.ensures.moved.1 c.in_ok-ts.ensures.moved.2
