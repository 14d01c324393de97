use Rattle.std.proofs.Common.{◌≡◌, ◌-◌, ◌∷◌, List, refl, subst}
use Rattle.journal.specs.declared.entries.JournalEntry.{JournalEntry}
use Rattle.range_log.specs.declared.entries.Entry.{Entry}
use Rattle.run_words.specs.History.{Made}
use Rattle.cluster_state.proofs.RangeLemmas.{log_is}
use Rattle.cluster_state.proofs.ShowLemmas.{IsShownAs, shown_range_keeps}
use Rattle.cluster_state.proofs.Written.{made_entry}
use Rattle.cluster_state.specs.Tied.{past}
use Rattle.cluster_state.proofs.state.State.show_range.Goals as goal

pub returns-clause-made : goal.returns-clause-made
returns-clause-made c =
    let whole = log_is c.args.self.now (past c.args.self.now) c.requires.tied c.args.number c.requires.made c.index.result.now c.index.ensures in
    let shown = subst (λ (log : List Entry). IsShownAs c.args.number log c.shown_range-shown.result) whole c.shown_range-shown.ensures in (
      shown.0,
      shown.1,
      made_entry c.args.self.now c.args.self.now refl c.reserve.new.self c.write.new.self _ _ c.in_ok-reserve.ensures.history
          (subst (λ (e : JournalEntry). c.write.new.self ≡ record c.reserve.new.self { history = Made e ∷ c.reserve.new.self.history; room = c.reserve.new.self.room - 1 }) shown.2 c.write.ensures)
          (shown_range_keeps c.args.self.now c.args.number _ _ _ _ _ c.requires.tied c.requires.due),
    )
