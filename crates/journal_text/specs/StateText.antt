-- The lines of leases, of region statements, and of what a scenario asks to be shown. (Source: this
-- project's profile.)
use Rattle.std.specs.Prelude.{ℕ, List, [], ◌∷◌, ◌++◌, Bool, if◌then◌else◌, Option, codes, decimal}
use Rattle.std.specs.List.{flat_map}
use Rattle.mr_base.specs.Ids.{node_text, range_text, message_text}
use Rattle.mr_base.specs.States.{code_of}
use Rattle.mr_base.specs.Timestamps.{ts_text}
use Rattle.mr_base.specs.declared.ids.MsgId.{MsgId}
use Rattle.mr_base.specs.declared.ids.NodeId.{NodeId}
use Rattle.mr_base.specs.declared.ids.RangeId.{RangeId}
use Rattle.mr_base.specs.declared.timestamps.Reading.{Reading}
use Rattle.mr_base.specs.declared.timestamps.Ts.{Ts}
use Rattle.journal_text.specs.Text.{line_end, joined, no_quorum_text, number_or_dash, reading_text}
use Rattle.journal.specs.declared.entries.LeaseWhy.{LeaseWhy}
use Rattle.journal.specs.declared.entries.LeaseWhy.TheVariants as why
use Rattle.journal.specs.declared.entries.SqlWhy.{SqlWhy}
use Rattle.journal.specs.declared.entries.SqlWhy.TheVariants as sql

-- A lease: its sequence, holder and expiration.
abbrev pub holding_text : (seq : ℕ) → NodeId → (expiration : ℕ) → List ℕ
holding_text seq holder expiration = decimal seq ++ codes " " ++ node_text holder ++ codes " " ++ decimal expiration

-- The lease is another's.
abbrev pub not_holder_text : (seq : ℕ) → NodeId → (expiration : ℕ) → List ℕ
not_holder_text seq holder expiration = codes "notholder " ++ holding_text seq holder expiration

-- A range has a new lease.
abbrev pub lease_text : RangeId → (seq : ℕ) → NodeId → (expiration : ℕ) → List ℕ
lease_text r seq holder expiration = codes "lease " ++ range_text r ++ codes " " ++ holding_text seq holder expiration ++ line_end

-- Why a lease doesn't move, or a timestamp isn't closed.
abbrev pub lease_why_text : LeaseWhy → List ℕ
lease_why_text why.NotVoter = codes "notvoter"
lease_why_text (why.Live expiration) = codes "live " ++ decimal expiration
lease_why_text why.NotHolder = codes "notholder"
lease_why_text (why.NoQuorum down) = no_quorum_text down

abbrev pub lease_refusal_text : RangeId → LeaseWhy → List ℕ
lease_refusal_text r why = codes "lease " ++ range_text r ++ codes " refused " ++ lease_why_text why ++ line_end

abbrev pub close_refusal_text : RangeId → LeaseWhy → List ℕ
close_refusal_text r why = codes "close " ++ range_text r ++ codes " refused " ++ lease_why_text why ++ line_end

-- Why a region statement is refused; P1 names a region with the number of nodes or zones that it wants
-- and the number that it has.
abbrev pub sql_why_text : SqlWhy → List ℕ
sql_why_text (sql.State state) = code_of state
sql_why_text (sql.D number) = codes "D" ++ decimal number
sql_why_text (sql.Unplaceable region wanted found) = codes "P1 " ++ region ++ codes " " ++ decimal wanted ++ codes " " ++ decimal found
sql_why_text (sql.Busy unfinished flight) = codes "busy " ++ decimal unfinished ++ codes " " ++ decimal flight
sql_why_text (sql.Future wall) = codes "future " ++ decimal wall

abbrev pub sql_refusal_text : SqlWhy → List ℕ
sql_refusal_text why = codes "sql refused " ++ sql_why_text why ++ line_end

-- A region statement was accepted while the cluster runs, at this timestamp.
abbrev pub schema_text : Ts → List ℕ
schema_text ts = codes "sql accepted " ++ ts_text ts ++ line_end

-- A range with its last lease, its closed timestamp and the length of its log.
abbrev pub range_line : RangeId → (seq : ℕ) → NodeId → (expiration : ℕ) → Ts → (log : ℕ) → List ℕ
range_line r seq holder expiration closed log = codes "range " ++ range_text r ++ codes " lease " ++ holding_text seq holder expiration ++ codes " closed " ++ ts_text closed ++ codes " log " ++ decimal log ++ line_end

-- A node with its clock, whether it runs, and how often it was started.
abbrev pub node_line : NodeId → Reading → (running : Bool) → (boot : ℕ) → List ℕ
node_line n clock running boot = codes "node " ++ node_text n ++ codes " clock " ++ reading_text clock ++ (if running then codes " running" else codes " stopped") ++ codes " boot " ++ decimal boot ++ line_end

-- The messages in flight, by number.
abbrev pub flight_line : List MsgId → List ℕ
flight_line [] = codes "flight -" ++ line_end
flight_line (m ∷ ms) = codes "flight " ++ joined message_text (codes " ") (m ∷ ms) ++ line_end

-- A range with the freshest wall at which it can be read, if there is one.
abbrev pub fresh_range_text : RangeId × Option ℕ → List ℕ
fresh_range_text fresh = codes " " ++ range_text fresh.0 ++ codes "=" ++ number_or_dash fresh.1

-- The freshest walls at which a node's replicas can be read.
abbrev pub fresh_line : NodeId → List (RangeId × Option ℕ) → List ℕ
fresh_line n ranges = codes "fresh " ++ node_text n ++ flat_map fresh_range_text ranges ++ line_end
