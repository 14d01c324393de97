use Rattle.std.proofs.Common.{◌≡◌, ℕ, List, inl, inr, sym, subst}
use Rattle.std.specs.Prelude.{Contains}
use Rattle.region_sql.specs.OneColumnForms.{IsTaken}
use Rattle.scenario.specs.FirstPath.{HasNoLine, IsSkipped, IsNodeLine, IsTxnLine}
use Rattle.scenario.specs.FirstSeen.{Seen}
use Rattle.journal.specs.declared.events.Event.TheVariants as events
use Rattle.scenario.specs.declared.lines.Line.TheVariants as lines
use Rattle.scenario.specs.declared.first_path.Expected.TheVariants as expected
use Rattle.scenario.proofs.Names.{one_txn_line}

-- where the line of the node is expected, no other line is read
pub no_node : (seen : Seen) (line : List ℕ) → seen.expected ≡ expected.Node → ¬ IsSkipped line → ((n : ℕ) → ¬ IsNodeLine line n) → HasNoLine seen line
no_node seen line e counts other lines.Skipped s h = counts h.0
no_node seen line e counts other (lines.Cluster settings) s h = cc
no_node seen line e counts other (lines.Node info clock) s h = other clock h.2
no_node seen line e counts other (lines.Sql text) s h = elim h.1 [ inl k ↦ cc | inr k ↦ cc ]
no_node seen line e counts other (lines.Event events.Begin) s h = cc
no_node seen line e counts other (lines.Event (events.Txn t g k l)) s h = cc
no_node seen line e counts other (lines.Event _) s h = h

-- where the line of a transaction is expected, no other line is read
pub no_transaction : (seen : Seen) (line : List ℕ) → seen.expected ≡ expected.Transaction → ¬ IsSkipped line → ((name list : List ℕ) → IsTxnLine line name list → ¬ Contains seen.names name → ¬ IsTaken list) → HasNoLine seen line
no_transaction seen line e counts other lines.Skipped s h = counts h.0
no_transaction seen line e counts other (lines.Cluster settings) s h = cc
no_transaction seen line e counts other (lines.Node info clock) s h = cc
no_transaction seen line e counts other (lines.Sql text) s h = elim h.1 [ inl k ↦ cc | inr k ↦ cc ]
no_transaction seen line e counts other (lines.Event events.Begin) s h = cc
no_transaction seen line e counts other (lines.Event (events.Txn t g k l)) s h = other h.4 l h.5 h.6 h.7
no_transaction seen line e counts other (lines.Event _) s h = h

pub used : (seen : Seen) (line name list : List ℕ) → IsTxnLine line name list → Contains seen.names name → (n l : List ℕ) → IsTxnLine line n l → ¬ Contains seen.names n → ¬ IsTaken l
used seen line name list h has n l k unused taken = unused (subst (λ m. Contains seen.names m) (one_txn_line line name list n l h k).0 has)

pub not_taken : (seen : Seen) (line name list : List ℕ) → IsTxnLine line name list → ¬ IsTaken list → (n l : List ℕ) → IsTxnLine line n l → ¬ Contains seen.names n → ¬ IsTaken l
not_taken seen line name list h other n l k unused taken = other (subst IsTaken (sym (one_txn_line line name list n l h k).1) taken)
