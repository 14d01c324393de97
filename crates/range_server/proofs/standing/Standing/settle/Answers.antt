use Rattle.std.proofs.Common.{◌≡◌, true}
use Rattle.range_server.proofs.SettleLemmas.{follows_all, settle_refused, settle_told, settle_unnamed, settle_written}
use Rattle.range_server.proofs.standing.Standing.settle.Goals as goal

pub returns-then-not-is_named_by : goal.returns-then-not-is_named_by
returns-then-not-is_named_by c =
    settle_unnamed c.args.self.now c.args.log.now c.args.now c.args.attempt c.args.lease.now c.requires.has c.requires.beside c.args.outcome
    c.not_holder.result
    (λ n. let named : c.is_named_by.result ≡ true = c.is_named_by.ensures.1 n in cc) c.not_holder.ensures

pub returns-in_default : goal.returns-in_default
returns-in_default c =
    settle_told c.args.self.now c.args.log.now c.args.now c.args.attempt c.args.lease.now c.requires.has c.requires.beside c.args.outcome
    (c.is_named_by.ensures.0 c.if-not-is_named_by.false) c.in_default.is

pub returns-in-Some-refusal : goal.returns-in-Some-refusal
returns-in-Some-refusal c =
    settle_refused c.args.self.now c.args.log.now c.args.now c.args.attempt c.args.lease.now c.requires.has c.requires.beside c.args.outcome
    c.in-Some.state c.in-Some-refusal.refusal (c.is_named_by.ensures.0 c.if-not-is_named_by.false) c.in-Some.is c.in-Some-refusal.ensures

pub append-requires-clause-follows : goal.append-requires-clause-follows
append-requires-clause-follows c =
    follows_all c.args.self.now c.args.log.now c.args.now c.args.attempt c.args.lease.now c.requires.has c.requires.beside
    (c.is_named_by.ensures.0 c.if-not-is_named_by.false) c.in_default-refusal.ensures

pub returns : goal.returns
returns c =
    settle_written c.args.self.now c.args.log.now c.args.now c.args.attempt c.args.lease.now c.requires.has c.requires.beside c.args.outcome
    c.in-Some.state c.append.new.log c.append.new.self (c.is_named_by.ensures.0 c.if-not-is_named_by.false) c.in-Some.is c.in_default-refusal.ensures
    c.in_ok-append.ensures
