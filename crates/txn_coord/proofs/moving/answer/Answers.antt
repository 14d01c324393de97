use Rattle.std.proofs.Common.{subst}
use Rattle.txn_coord.specs.Machine.{machine_of}
use Rattle.txn_coord.specs.Moving.{Concludes}
use Rattle.txn_coord.specs.declared.progress.Course.{Course}
use Rattle.txn_coord.proofs.moving.answer.Goals as goal

-- The course was taken out, and stands again.
pub returns-in-Answering : goal.returns-in-Answering
returns-in-Answering c = λ p f.
    subst (λ (x : Course). Concludes (machine_of p f (record c.args.t.now { course = x })) c.args.clock c.acknowledge.result (machine_of p f c.acknowledge.new.t)) c.in-Answering.ensures.value (c.acknowledge.ensures p f)

pub returns-in-Faulting : goal.returns-in-Faulting
returns-in-Faulting c = λ p f.
    subst (λ (x : Course). Concludes (machine_of p f (record c.args.t.now { course = x })) c.args.clock c.fault.result (machine_of p f c.fault.new.t)) c.in-Faulting.ensures.value (c.fault.ensures p f)
