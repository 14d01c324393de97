use Rattle.std.specs.List.{Contains}
use Rattle.std.specs.Prelude.{⊤, ◌≤◌}
use Rattle.mr_base.specs.declared.ids.NodeId.{NodeId}
use Rattle.mr_base.specs.declared.spans.Ask.{Ask}
use Rattle.run_laws.specs.Beginnings.{IsSoundSetup}
use Rattle.run_laws.specs.Lawful.{IsLawful}
use Rattle.run_laws.specs.Lists.{AsksNext}
use Rattle.run_laws.specs.OrderEvents.{NamesNode as NamesOneThere}
use Rattle.run_laws.specs.Visible.{Acknowledgement, Acknowledges}
use Rattle.run_words.specs.Clocks.{peak, seen}
use Rattle.run_words.specs.Happened.{Always, Happened}
use Rattle.run_words.specs.History.{History, Item, Ran}
use Rattle.run_words.specs.Setup.{Setup, node_ids}

-- What follows for clocks, and for what is visible.

-- A line that starts a node, or moves its clock, names a node that is there.
abbrev pub NamesNode : Setup → Item → History → Type 0
NamesNode setup (Ran line event) h = NamesOneThere setup event
NamesNode setup _ h = ⊤

abbrev pub NameNodes : Setup → History → Type 0
NameNodes setup h = Always (NamesNode setup) h

-- No clock has seen more than the greatest physical clock shows.
abbrev pub ClocksStayBelowPeak : Type 0
ClocksStayBelowPeak =
    (setup : Setup) (h : History) (n : NodeId) → IsSoundSetup setup → IsLawful setup h → Contains (node_ids setup) n
    → (seen setup h n).wall ≤ peak setup h

-- An acknowledgement has no timestamp whose wall is above that.
abbrev pub AcknowledgedStaysBelowPeak : Type 0
AcknowledgedStaysBelowPeak =
    (setup : Setup) (h : History) (ack : Acknowledgement) → IsSoundSetup setup → IsLawful setup h
    → Happened (Acknowledges ack) h → ack.ts.wall ≤ peak setup h

-- The list of an attempt that answered its transaction reads no span next any more.
abbrev pub AsksNothing : Setup → Item → History → Type 0
AsksNothing setup x h = (ack : Acknowledgement) (ask : Ask) → Happened (Acknowledges ack) h → ¬ AsksNext setup h ack.attempt ask

abbrev pub AnsweredAskNothing : Type 0
AnsweredAskNothing = (setup : Setup) (h : History) → IsSoundSetup setup → IsLawful setup h → Always (AsksNothing setup) h
