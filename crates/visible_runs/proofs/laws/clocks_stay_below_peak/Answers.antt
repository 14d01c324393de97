use Rattle.run_words.specs.Clocks.{peak}
use Rattle.visible_runs.proofs.NamedNodes.{name_nodes}
use Rattle.visible_runs.proofs.SeenLemmas.{IsBounded, bounded}
use Rattle.visible_runs.proofs.laws.clocks_stay_below_peak.Goals as goal

pub returns : goal.returns
returns c =
    λ setup h n sound lawful known.
    let b : IsBounded setup h (peak setup h) = bounded setup sound n known h lawful (name_nodes setup h lawful) in
    b.seen_below n
