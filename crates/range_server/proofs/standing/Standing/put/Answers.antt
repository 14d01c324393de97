use Rattle.std.proofs.Common.{◌≡◌, true, refl}
use Rattle.std.proofs.lemmas.Result.{IfOk-weaker}
use Rattle.range_server.proofs.PutLemmas.{put_blocked, put_unnamed}
use Rattle.range_server.specs.Puts.{put_asked}
use Rattle.range_server.proofs.standing.Standing.put.Goals as goal

pub returns-then-not-is_named_by : goal.returns-then-not-is_named_by
returns-then-not-is_named_by c =
    put_unnamed c.args.self.now c.args.log.now c.args.now (put_asked c.args.asked c.args.key.now c.args.value.now c.args.known.now)
    c.args.lease.now c.requires.has c.requires.beside c.not_holder.result
    (λ n. let named : c.is_named_by.result ≡ true = c.is_named_by.ensures.1 n in cc) c.not_holder.ensures

pub returns-in-Blocked : goal.returns-in-Blocked
returns-in-Blocked c =
    IfOk-weaker c.blocked.result _ _
    (λ reply e. put_blocked c.args.self.now c.args.log.now c.args.now (put_asked c.args.asked c.args.key.now c.args.value.now c.args.known.now)
    c.args.lease.now c.requires.has c.requires.beside c.in-Blocked.intent reply
    (c.is_named_by.ensures.0 c.if-not-is_named_by.false) (c.in-Blocked.ensures _ c.requires.beside.follows c.args.asked c.args.value.now refl) e) c.blocked.ensures

pub returns-in-Clear : goal.returns-in-Clear
returns-in-Clear c =
    IfOk-weaker c.lay.result _ _ (λ reply h. h c.args.known.now (c.in-Clear.ensures _ c.requires.beside.follows c.args.asked c.args.value.now refl)) c.lay.ensures

pub returns-in-Settled : goal.returns-in-Settled
returns-in-Settled c =
    IfOk-weaker c.lay_over.result _ _ (λ reply h. h c.args.known.now (c.in-Settled.ensures _ c.requires.beside.follows c.args.asked c.args.value.now refl)) c.lay_over.ensures

pub lay-requires-clause-names : goal.lay-requires-clause-names
lay-requires-clause-names c = (c.is_named_by.ensures.0 c.if-not-is_named_by.false)

pub lay_over-requires-clause-names : goal.lay_over-requires-clause-names
lay_over-requires-clause-names c = (c.is_named_by.ensures.0 c.if-not-is_named_by.false)
