use Rattle.std.proofs.Common.{◌≡◌, ap, sym, ◌∙◌, subst}
use Rattle.zone_report.specs.Statements.{CarriesOut, Zoned}
use Rattle.mr_shell.specs.ZonesSession.{zoned_in}
use Rattle.mr_shell.proofs.zones_session.carry_out.Goals as goal

pub returns-in_ok-answer-in-None : goal.returns-in_ok-answer-in-None
returns-in_ok-answer-in-None c =
    let e : zoned_in c.args.nodes.now c.args.zones.now ≡ c.in_ok-made-in-None.made = ap (zoned_in c.args.nodes.now) c.in-None.is ∙ sym c.in_ok-made-in-None.ensures in
    subst (λ (z : Zoned). CarriesOut c.args.text.now z c.in_ok-answer-in-None.answer c.statement-in-None.new.self) (sym e) c.in_ok-answer-in-None.ensures.done
