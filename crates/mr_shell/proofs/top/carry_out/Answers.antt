use Rattle.std.proofs.Common.{refl}
use Rattle.mr_shell.specs.Exchange.{exchange, side}
use Rattle.mr_shell.proofs.Meanings.{gen_ended}
use Rattle.mr_shell.proofs.top.carry_out.Goals as goal

pub returns-in-Gen-clause-generated : goal.returns-in-Gen-clause-generated
returns-in-Gen-clause-generated g c seed size is =
    let x = exchange (side c.args.source.now c.args.source.now g.S.Source.left g.S.Source.faults g.S.Source.most_faults) (side c.args.sink.now c.generated.new.sink g.K.Sink.written g.K.Sink.faults g.K.Sink.most_faults) in
    gen_ended c.args.task c.in-Gen.seed c.in-Gen.size seed size c.generated.result x c.in-Gen.is refl c.generated.ensures.journal c.generated.ensures.text is
