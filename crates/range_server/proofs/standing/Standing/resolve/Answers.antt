use Rattle.std.proofs.Common.{◌≡◌, true}
use Rattle.std.proofs.lemmas.Result.{IfOk-weaker}
use Rattle.range_server.proofs.ResolveLemmas.{resolve_done, resolve_refused, resolve_unnamed}
use Rattle.range_server.proofs.SettleLemmas.{follows_all}
use Rattle.range_server.proofs.standing.Standing.resolve.Goals as goal

pub returns-then-not-is_named_by : goal.returns-then-not-is_named_by
returns-then-not-is_named_by c =
    resolve_unnamed c.args.self.now c.args.log.now c.args.now c.args.lease.now c.requires.has c.requires.beside c.args.attempt c.args.keys.now c.args.fate
    (λ n. let named : c.is_named_by.result ≡ true = c.is_named_by.ensures.1 n in cc)

pub returns-in-Some : goal.returns-in-Some
returns-in-Some c =
    resolve_refused c.args.self.now c.args.log.now c.args.now c.args.lease.now c.requires.has c.requires.beside c.args.attempt c.args.keys.now c.args.fate c.in-Some._refusal c.in-Some.ensures

pub resolve_each-requires-clause-follows : goal.resolve_each-requires-clause-follows
resolve_each-requires-clause-follows c =
    follows_all c.args.self.now c.args.log.now c.args.now c.args.attempt c.args.lease.now c.requires.has c.requires.beside
    (c.is_named_by.ensures.0 c.if-not-is_named_by.false) c.in_default.ensures

pub returns : goal.returns
returns c =
    IfOk-weaker c.resolve_each.result _ _
    (λ _ h. resolve_done c.args.self.now c.args.log.now c.args.now c.args.lease.now c.requires.has c.requires.beside c.args.attempt c.args.keys.now c.args.fate c.resolve_each.new.log c.resolve_each.new.self
    (c.is_named_by.ensures.0 c.if-not-is_named_by.false) c.in_default.ensures h) c.resolve_each.ensures
