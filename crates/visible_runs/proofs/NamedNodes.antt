use Rattle.std.specs.Prelude.{[], ◌∷◌}
use Rattle.run_laws.specs.Lawful.{IsLawful}
use Rattle.run_laws.specs.Order.{Order}
use Rattle.run_words.specs.History.{History, Item, Made, Ran, Ticked}
use Rattle.run_words.specs.Setup.{Setup}
use Rattle.visible_runs.specs.Laws.{NameNodes, NamesNode}

-- The lines of a lawful history name nodes that are there.

names : (setup : Setup) (x : Item) (h : History) → Order setup h x → NamesNode setup x h
names setup (Ran line event) h k = k.1
names setup (Ticked ms) h k = tt
names setup (Made made) h k = tt

pub name_nodes : (setup : Setup) (h : History) → IsLawful setup h → NameNodes setup h
name_nodes setup [] l = tt
name_nodes setup (x ∷ h) l = (names setup x h l.0.order, name_nodes setup h l.1)
