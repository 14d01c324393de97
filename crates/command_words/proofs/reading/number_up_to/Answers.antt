use Rattle.std.proofs.Common.{◌∙◌, arith, sym}
use Rattle.command_words.proofs.Numbers.{number_beyond}
use Rattle.command_words.proofs.reading.number_up_to.Goals as goal

pub returns-in_err-number : goal.returns-in_err-number
returns-in_err-number c =
    c.from_residual.ensures ∙ number_beyond c.args.most c.args.word.now c.parse.result (sym c.is_number.ensures ∙ c.if-not-is_number.false) c.parse.ensures.value.0 (sym c.in_err-number.was ∙ c.ok.ensures.value) (omega (arith, c.ranges.most.fits))
