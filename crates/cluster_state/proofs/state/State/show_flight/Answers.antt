use Rattle.std.proofs.Common.{◌≡◌, ◌∙◌, ◌-◌, ◌∷◌, List, refl, subst}
use Rattle.journal.specs.declared.entries.JournalEntry.TheVariants as entry
use Rattle.mr_base.specs.declared.ids.MsgId.{MsgId}
use Rattle.run_words.specs.History.{Made}
use Rattle.cluster_state.proofs.ShowLemmas.{shown_flight_keeps}
use Rattle.cluster_state.proofs.Written.{made_entry}
use Rattle.cluster_state.proofs.state.State.show_flight.Goals as goal

pub returns-clause-made : goal.returns-clause-made
returns-clause-made c =
    made_entry c.args.self.now c.args.self.now refl c.reserve.new.self c.write.new.self _ _ c.in_ok-reserve.ensures.history
    (subst (λ (ids : List MsgId). c.write.new.self ≡ record c.reserve.new.self { history = Made (entry.ShowFlight ids) ∷ c.reserve.new.self.history; room = c.reserve.new.self.room - 1 })
    (c.in_ok-messages.ensures ∙ c.requires.tied.mails_are.tied.numbers) c.write.ensures)
    (shown_flight_keeps c.args.self.now _ c.requires.tied c.requires.due)
