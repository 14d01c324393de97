use Rattle.std.proofs.Common.{subst}
use Rattle.txn_coord.specs.Machine.{machine_of}
use Rattle.txn_coord.specs.Soundness.{IsSoundIn}
use Rattle.txn_coord.specs.declared.progress.Course.{Course}
use Rattle.txn_coord.proofs.SoundLemmas.{lay_on_sound}
use Rattle.txn_coord.proofs.moving.go_on.Goals as goal

pub returns-in-Laying-clause-sound : goal.returns-in-Laying-clause-sound
returns-in-Laying-clause-sound g c =
    let m = machine_of (g.S.Script.program c.args.script.now) (g.S.Script.fed c.args.script.now) c.args.t.now in
    let done = g.S.Script.done c.args.script.now in
    let w = subst (λ (x : Course). IsSoundIn x done m) c.in-Laying.is c.requires.sound.going in
    rw (c.lay_on.ensures, c.writes.ensures w.done) (lay_on_sound done m c.requires.sound c.requires.free w)
