use Rattle.std.specs.Prelude.{◌≡◌, ◌≢◌, ℕ, ◌<◌, ◌≤◌, ◌^◌, ◌⊎◌, List, [], ◌∷◌, ◌++◌, length, All, Contains, slice_index, codes, IsUtf8, Result, Ok, Err}
use Rattle.std.specs.Str.Parse.{IsNumeral, digits_value}
use Rattle.journal.specs.Settings.{the_standard_settings}
use Rattle.mr_base.specs.declared.settings.Kind.TheVariants as kinds
use Rattle.mr_base.specs.declared.nodes.NodeInfo.{NodeInfo}
use Rattle.mr_base.specs.declared.ids.NodeId.{NodeId}
use Rattle.mr_base.specs.declared.ids.TxnId.{TxnId}
use Rattle.region_sql.specs.OneColumnForms.{IsTaken}
use Rattle.journal.specs.declared.events.Event.{Event}
use Rattle.journal.specs.declared.events.Event.TheVariants as events
use Rattle.scenario.specs.declared.lines.Line.{Line}
use Rattle.scenario.specs.declared.lines.Line.TheVariants as lines
use Rattle.scenario.specs.declared.lines.LineFault.{LineFault}
use Rattle.scenario.specs.declared.lines.LineFault.TheVariants as faults
use Rattle.scenario.specs.declared.first_path.Expected.TheVariants as expected
use Rattle.scenario.specs.FirstSeen.{Seen}

-- An empty line or a comment.
abbrev pub IsSkipped : List ℕ → Type 0
IsSkipped line = (line ≡ []) ⊎ (slice_index line 0 ≡ 35)

abbrev pub n1 : NodeId
n1 = record { 0 = 1 }

abbrev pub the_first_node : NodeInfo
the_first_node = record { id = n1; region = codes "us-east"; zone = codes "a" }

-- A clock as a line writes it: digits without leading zeros, from 1 to below 2^53 milliseconds.
pub record IsClockText (text : List ℕ) (n : ℕ) : Type 0 where
  pub utf8 : IsUtf8 text
  pub digits : IsNumeral 10 text
  pub value : digits_value 10 text ≡ n
  pub small : n < 2 ^ 53
  pub no_plus : slice_index text 0 ≢ 43
  pub no_zero : slice_index text 0 ≢ 48

-- node n1 us-east a CLOCK
abbrev pub IsNodeLine : List ℕ → ℕ → Type 0
IsNodeLine line n = (digits : List ℕ) × (line ≡ codes "node n1 us-east a " ++ digits) × IsClockText digits n

abbrev pub IsLetter : ℕ → Type 0
IsLetter b = (97 ≤ b) × (b ≤ 122)

abbrev pub IsNameByte : ℕ → Type 0
IsNameByte b = IsLetter b ⊎ (((48 ≤ b) × (b ≤ 57)) ⊎ (b ≡ 95))

-- A transaction's name has 1 to 32 characters of a-z, 0-9 and _ and begins with a letter.
pub record IsTxnName (name : List ℕ) : Type 0 where
  pub letter : IsLetter (slice_index name 0)
  pub long : length name ≤ 32
  pub plain : All IsNameByte name

-- txn NAME n1 now LIST
abbrev pub IsTxnLine : (line name list : List ℕ) → Type 0
IsTxnLine line name list = (line ≡ codes "txn " ++ (name ++ 32 ∷ (codes "n1 now " ++ list))) × IsTxnName name

-- After the lines seen so far a line is read as this event, and these lines are seen then.
abbrev pub ReadsEvent : Seen → List ℕ → Event → Seen → Type 0
ReadsEvent seen line events.Begin seen' =
    (seen.expected ≡ expected.Begin) × (line ≡ codes "begin") × (seen' ≡ record seen { expected = expected.Transaction })
ReadsEvent seen line (events.Txn t gateway kind list) seen' =
    (seen.expected ≡ expected.Transaction) × (t ≡ record { 0 = length seen.names }) × (gateway ≡ n1) × (kind ≡ kinds.Now)
    × (name : List ℕ) × IsTxnLine line name list × (¬ Contains seen.names name) × IsTaken list
    × (seen' ≡ record seen { names = seen.names ++ name ∷ [] })
ReadsEvent seen line _ seen' = ⊥

-- After the lines seen so far a line is read so, and these lines are seen then. A line that is read in
-- no way has the fault S1. (This project's profile.)
abbrev pub Reads : Seen → List ℕ → Line → Seen → Type 0
Reads seen line lines.Skipped seen' = IsSkipped line × (seen' ≡ seen)
Reads seen line (lines.Cluster settings) seen' =
    (seen.expected ≡ expected.Cluster) × (line ≡ codes "cluster") × (settings ≡ the_standard_settings)
    × (seen' ≡ record seen { expected = expected.Node })
Reads seen line (lines.Node info clock) seen' =
    (seen.expected ≡ expected.Node) × (info ≡ the_first_node) × IsNodeLine line clock
    × (seen' ≡ record seen { expected = expected.Database })
Reads seen line (lines.Sql text) seen' =
    (line ≡ codes "sql " ++ text)
    × (((seen.expected ≡ expected.Database) × (text ≡ codes "CREATE DATABASE d") × (seen' ≡ record seen { expected = expected.Table }))
    ⊎ ((seen.expected ≡ expected.Table) × (text ≡ codes "CREATE TABLE t (id INT PRIMARY KEY)") × (seen' ≡ record seen { expected = expected.Begin })))
Reads seen line (lines.Event e) seen' = ReadsEvent seen line e seen'

-- The line of this transaction was read.
abbrev pub IsRead : Seen → TxnId → Type 0
IsRead seen t = t.0 < length seen.names

-- The line has the fault S1.
abbrev pub HasNoLine : Seen → List ℕ → Type 0
HasNoLine seen line = (l : Line) (seen' : Seen) → ¬ Reads seen line l seen'

-- What the reader answers to a line.
abbrev pub Answers : Seen → List ℕ → Result Line LineFault → Seen → Type 0
Answers seen line (Ok l) seen' = Reads seen line l seen'
Answers seen line (Err (faults.S k)) seen' = (k ≡ 1) × (seen' ≡ seen) × HasNoLine seen line
Answers seen line (Err faults.Memory) seen' = seen' ≡ seen
