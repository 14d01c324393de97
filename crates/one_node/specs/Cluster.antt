use Rattle.std.specs.Prelude.{◌≡◌, ◌≢◌, List, [], ◌++◌}
use Rattle.mr_base.specs.declared.ids.TxnId.{TxnId}
use Rattle.mr_base.specs.declared.settings.Kind.TheVariants as kinds
use Rattle.one_node_laws.specs.Words.{the_node}
use Rattle.region_sql.specs.OneColumnForms.{IsTaken}
use Rattle.journal.specs.Names.{NamesOnly}
use Rattle.journal.specs.declared.entries.JournalEntry.{JournalEntry}
use Rattle.journal.specs.declared.events.Event.{Event}
use Rattle.journal.specs.declared.events.Event.TheVariants as events
use Rattle.one_node_laws.specs.LinesRun.{LinesRun}
use Rattle.one_node_laws.specs.Runs.{IsRun}
use Rattle.one_node.specs.View.{View}

-- The lines that the cluster takes: `begin` at first, and then transactions.
abbrev pub IsStep : View → Event → Type 0
IsStep c events.Begin = c.journal ≡ []
IsStep c (events.Txn t gateway kind list) = (c.journal ≢ []) × (gateway ≡ the_node) × (kind ≡ kinds.Now) × IsTaken list
IsStep c _ = ⊥

-- The transaction whose line this is, if it is one.
abbrev pub IsOf : Event → TxnId → Type 0
IsOf (events.Txn t gateway kind list) u = u ≡ t
IsOf _ u = ⊥

-- The journal has new entries, which name only transactions of which P holds.
pub record Continues (old : View) (P : TxnId → Type 0) (new : View) : Type 0 where
  pub settings : new.settings ≡ old.settings
  pub physical : new.physical ≡ old.physical
  pub fresh : List JournalEntry
  pub some : fresh ≢ []
  pub journal : new.journal ≡ fresh ++ old.journal
  pub names : NamesOnly P fresh

-- The journal has the entries of a line besides, which name no other transaction than that of the line.
abbrev pub GoesOn : View → Event → View → Type 0
GoesOn old e new = Continues old (IsOf e) new

-- The cluster has run these lines: its journal is a run of them.
pub record IsRunOf (s : LinesRun) (c : View) : Type 0 where
  pub settings : c.settings ≡ s.settings
  pub physical : c.physical ≡ s.clock
  pub run : IsRun s c.journal
