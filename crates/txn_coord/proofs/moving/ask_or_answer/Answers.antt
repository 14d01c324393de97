use Rattle.std.proofs.Common.{subst}
use Rattle.txn_coord.specs.Machine.{Machine, machine_of}
use Rattle.txn_coord.specs.Moving.{Concludes}
use Rattle.txn_coord.proofs.ConcludeLemmas.{concluded, concluded_sound, concludes}
use Rattle.txn_coord.proofs.moving.ask_or_answer.Goals as goal

pub answer-requires : goal.answer-requires
answer-requires g c =
    concludes (g.S.Script.done c.args.script.now) (machine_of (g.S.Script.program c.args.script.now) (g.S.Script.fed c.args.script.now) c.args.t.now) (machine_of (g.S.Script.program c.go_on.new.script) (g.S.Script.fed c.go_on.new.script) c.go_on.new.t) c.in_ok-ask.field-0 c.in_ok-request-2.field-0 c.requires.sound c.requires.open c.requires.not_due c.requires.sent c.in_ok-ask.ensures.gone c.in_ok-ask.ensures.needed c.in_default.is c.in_ok-request-2.ensures c.in_default-2.is

pub returns-clause-moves : goal.returns-clause-moves
returns-clause-moves g c = λ fresh.
    concluded (machine_of (g.S.Script.program c.args.script.now) (g.S.Script.fed c.args.script.now) c.args.t.now) c.args.clock fresh c.answer.result (machine_of (g.S.Script.program c.go_on.new.script) (g.S.Script.fed c.go_on.new.script) c.answer.new.t) c.requires.sent (subst (λ (x : Machine). Concludes x c.args.clock c.answer.result (machine_of (g.S.Script.program c.go_on.new.script) (g.S.Script.fed c.go_on.new.script) c.answer.new.t)) c.in_ok-ask.ensures.gone (c.answer.ensures (g.S.Script.program c.go_on.new.script) (g.S.Script.fed c.go_on.new.script)))

pub returns-clause-sound : goal.returns-clause-sound
returns-clause-sound g c =
    concluded_sound (g.S.Script.done c.go_on.new.script) (machine_of (g.S.Script.program c.go_on.new.script) (g.S.Script.fed c.go_on.new.script) c.go_on.new.t) c.args.clock c.answer.result (machine_of (g.S.Script.program c.go_on.new.script) (g.S.Script.fed c.go_on.new.script) c.answer.new.t) c.in_ok-ask.ensures.sound (c.answer.ensures (g.S.Script.program c.go_on.new.script) (g.S.Script.fed c.go_on.new.script))
