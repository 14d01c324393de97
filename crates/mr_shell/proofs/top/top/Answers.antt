use Rattle.std.proofs.Common.{◌≡◌, ◌∙◌, Option, Some, None, arith, refl, sym, subst}
use Rattle.mr_shell.specs.Ended.{Ended}
use Rattle.mr_shell.specs.Exchange.{exchange, side}
use Rattle.mr_shell.specs.Tasks.{task_of}
use Rattle.mr_shell.specs.declared.tasks.Task.{Task}
use Rattle.mr_shell.proofs.Meanings.{exact, short_ended, task_ended}
use Rattle.mr_shell.proofs.top.top.Goals as goal

pub returns-in_default-clause-ended : goal.returns-in_default-clause-ended
returns-in_default-clause-ended g c =
    let x = exchange (side c.args.source.now c.args.source.now g.S.Source.left g.S.Source.faults g.S.Source.most_faults) (side c.args.sink.now c.args.sink.now g.K.Sink.written g.K.Sink.faults g.K.Sink.most_faults) in
    short_ended c.lawful_is_serial.ensures c.lawful_is_visible.ensures c.ranges_are_placed.ensures (task_of c.args.words.now) c.out_of_memory.result x c.out_of_memory.ensures.status c.out_of_memory.ensures.journal refl refl

pub returns-in_default-clause-exact : goal.returns-in_default-clause-exact
returns-in_default-clause-exact g c =
    let x = exchange (side c.args.source.now c.args.source.now g.S.Source.left g.S.Source.faults g.S.Source.most_faults) (side c.args.sink.now c.args.sink.now g.K.Sink.written g.K.Sink.faults g.K.Sink.most_faults) in
    exact (task_of c.args.words.now) c.out_of_memory.result x (returns-in_default-clause-ended g c) (λ e. absurd (omega (arith, e, c.out_of_memory.ensures.status))) (λ e. absurd (omega (arith, e, c.out_of_memory.ensures.status)))

pub returns-in-None-clause-ended : goal.returns-in-None-clause-ended
returns-in-None-clause-ended g c =
    let x = exchange (side c.args.source.now c.args.source.now g.S.Source.left g.S.Source.faults g.S.Source.most_faults) (side c.args.sink.now c.usage.new.sink g.K.Sink.written g.K.Sink.faults g.K.Sink.most_faults) in
    let none : task_of c.args.words.now ≡ None = sym c.in-Ok.ensures ∙ c.in-None.is in
    subst (λ (task : Option Task). Ended task c.usage.result x) (sym none) (record { nothing_read = refl; nothing_run = c.usage.ensures.journal; line = c.usage.ensures.line })

pub returns-in-None-clause-exact : goal.returns-in-None-clause-exact
returns-in-None-clause-exact g c =
    let x = exchange (side c.args.source.now c.args.source.now g.S.Source.left g.S.Source.faults g.S.Source.most_faults) (side c.args.sink.now c.usage.new.sink g.K.Sink.written g.K.Sink.faults g.K.Sink.most_faults) in
    exact (task_of c.args.words.now) c.usage.result x (returns-in-None-clause-ended g c) (λ e. absurd (grind (arith, e, c.usage.ensures.status))) c.usage.ensures.failed

pub returns-in-Some-clause-ended : goal.returns-in-Some-clause-ended
returns-in-Some-clause-ended g c =
    let x = exchange (side c.args.source.now c.carry_out.new.source g.S.Source.left g.S.Source.faults g.S.Source.most_faults) (side c.args.sink.now c.carry_out.new.sink g.K.Sink.written g.K.Sink.faults g.K.Sink.most_faults) in
    let some : task_of c.args.words.now ≡ Some c.in-Some.task = sym c.in-Ok.ensures ∙ c.in-Some.is in
    subst (λ (task : Option Task). Ended task c.carry_out.result x) (sym some) (task_ended c.lawful_is_serial.ensures c.lawful_is_visible.ensures c.ranges_are_placed.ensures c.in-Some.task c.carry_out.result x c.carry_out.ensures.ran c.carry_out.ensures.zoned c.carry_out.ensures.generated)

pub returns-in-Some-clause-exact : goal.returns-in-Some-clause-exact
returns-in-Some-clause-exact g c =
    let x = exchange (side c.args.source.now c.carry_out.new.source g.S.Source.left g.S.Source.faults g.S.Source.most_faults) (side c.args.sink.now c.carry_out.new.sink g.K.Sink.written g.K.Sink.faults g.K.Sink.most_faults) in
    exact (task_of c.args.words.now) c.carry_out.result x (returns-in-Some-clause-ended g c) c.carry_out.ensures.read_failed c.carry_out.ensures.write_failed
