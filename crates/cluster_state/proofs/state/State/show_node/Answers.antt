use Rattle.std.proofs.Common.{◌≡◌, ◌-◌, ◌∙◌, ◌∷◌, [], refl, subst}
use Rattle.journal.specs.declared.entries.JournalEntry.{JournalEntry}
use Rattle.run_words.specs.History.{Made}
use Rattle.cluster_state.proofs.ShowLemmas.{node_as_shown, shown_node_keeps}
use Rattle.cluster_state.proofs.Written.{made_entry}
use Rattle.cluster_state.specs.Tied.{HasMade}
use Rattle.cluster_state.proofs.state.State.show_node.Goals as goal

pub returns-clause-made : goal.returns-clause-made
returns-clause-made c =
    let shown = c.shown_node-shown.ensures ∙ node_as_shown c.args.self.now c.args.node c.index.result.now c.requires.tied c.requires.there c.index.ensures in
    made_entry c.args.self.now c.args.self.now refl c.reserve.new.self c.write.new.self _ _ c.in_ok-reserve.ensures.history
    (subst (λ (e : JournalEntry). c.write.new.self ≡ record c.reserve.new.self { history = Made e ∷ c.reserve.new.self.history; room = c.reserve.new.self.room - 1 }) shown c.write.ensures)
    (shown_node_keeps c.args.self.now c.args.node _ _ _ c.requires.tied c.requires.due)
