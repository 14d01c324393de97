use Rattle.std.proofs.Common.{◌-◌}
use Rattle.range_log.proofs.VoterLemmas.{bit_stopped, stopped_bit}
use Rattle.range_log.proofs.log.voters_that_are_down.Goals as goal

pub returns : goal.returns
returns c = λ voters running n is.
    (λ h. stopped_bit voters.0 running.0 (n.0 - 1) h, λ h. bit_stopped voters.0 running.0 (n.0 - 1) h.0 h.1)
