use Rattle.std.proofs.Common.{◌≡◌, ◌+◌, ◌-◌, ◌∷◌, [], Some, refl, sym, ap, ◌∙◌, subst}
use Rattle.mr_base.specs.declared.timestamps.Reading.{Reading}
use Rattle.node_states.specs.Placed.{IsRequestPlaced}
use Rattle.journal.specs.declared.entries.JournalEntry.TheVariants as made
use Rattle.journal.specs.declared.entries.Shown.TheVariants as shown
use Rattle.run_words.specs.Clocks.{reading}
use Rattle.run_words.specs.History.{Made}
use Rattle.cluster_state.proofs.FlightLemmas.{request_sent}
use Rattle.cluster_state.proofs.NodeAt.{given_some, reading_at}
use Rattle.cluster_state.proofs.Written.{made_entry}
use Rattle.cluster_state.specs.Tied.{HasMade, past, the_setup}
use Rattle.cluster_state.proofs.state.State.send.Goals as goal

pub returns-clause-made : goal.returns-clause-made
returns-clause-made c =
    let s = c.args.self.now in
    let clock : Reading = c.reading.result in
    let same : clock ≡ reading (the_setup s) (past s) c.args.from =
    c.reading.ensures.shown ∙ reading_at s (past s) c.args.from c.index-gateway.result.now c.requires.tied c.requires.there c.index-gateway.ensures in
    let number : c.in_ok-number.number ≡ s.sent + 1 = given_some c.checked_add.result _ c.in_ok-number.number _ c.in_ok-number.ensures.ok_part c.checked_add.ensures in
    rw (sym same)
    (made_entry s (record s { flight = c.send.new.self; sent = c.in_ok-number.number }) refl c.reserve.new.self c.write.new.self
    (made.Sent (record { 0 = c.in_ok-number.number }) c.args.from c.args.to (Some clock) (shown.Request c.args.request)) (c.reserve.new.self.room - 1) c.in_ok-reserve.ensures.history
    (rw (sym c.in_ok-entry.ensures) c.write.ensures)
    (request_sent s c.send.new.self (record { 0 = c.in_ok-number.number }) c.args.from c.args.to clock c.args.txn c.index-gateway.result.now.boot c.args.request c.requires.tied c.requires.there number
    c.in_ok-send.ensures.sent c.requires.due (rw same c.requires.placed) c.requires.begun))
