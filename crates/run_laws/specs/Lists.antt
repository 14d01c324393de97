use Rattle.std.specs.List.{Contains, filter}
use Rattle.std.specs.Option.{option_map_or}
use Rattle.std.specs.Prelude.{AllPairs, Bool, List, Option, Some, [], ℕ, ◌&&◌, ◌++◌, ◌==◌, ◌↔◌, ◌∷◌, ◌≡◌, ◌⊎◌}
use Rattle.mr_base.specs.Spans.{InSpan, IsKeyBelow}
use Rattle.mr_base.specs.declared.ids.AttemptId.{AttemptId}
use Rattle.mr_base.specs.declared.ids.NodeId.{NodeId}
use Rattle.mr_base.specs.declared.ids.RangeId.{RangeId}
use Rattle.mr_base.specs.declared.ids.TxnId.{TxnId}
use Rattle.mr_base.specs.declared.script.Fed.{Fed}
use Rattle.mr_base.specs.declared.spans.Ask.{Ask}
use Rattle.mr_base.specs.declared.spans.Pair.{Pair}
use Rattle.mr_base.specs.declared.spans.Span.{Span}
use Rattle.mr_base.specs.declared.spans.Write.{Write}
use Rattle.mr_base.specs.declared.timestamps.Ts.{Ts}
use Rattle.mvcc_range.specs.Answer.{IsRow}
use Rattle.run_words.specs.Attempts.{Attempt, attempt_of}
use Rattle.run_words.specs.History.{History}
use Rattle.run_words.specs.Puts.{PutMade, puts}
use Rattle.run_words.specs.Ranges.{layout_of}
use Rattle.run_words.specs.Serving.{ServedRead, serves}
use Rattle.run_words.specs.Setup.{Setup, node_of}
use Rattle.run_words.specs.Transactions.{Beginning, beginning}
use Rattle.sql_eval.specs.Evaluation.{Setting, evaluation}
use Rattle.sql_eval.specs.ListFaults.{IsReadAs}
use Rattle.sql_eval.specs.NextSpan.{next_span, writes_in}
use Rattle.sql_eval.specs.Reads.{served_reads}

-- What the list of a transaction reads and writes, given what was served to one of its attempts. (What a list comes
-- to over what is known of ranges is this project's profile.)

-- The region in which a node stands.
abbrev pub region_of_node : Setup → NodeId → List ℕ
region_of_node setup n = option_map_or (λ node. node.info.region) (node_of setup n) []

-- The setting in which the list of a transaction runs: the tables and ranges in force, the region of its gateway, and
-- its list as it is read.
pub record IsSettingOf (setup : Setup) (h : History) (t : TxnId) (s : Setting) : Type 0 where
  pub begun : Beginning
  pub is_begun : beginning h t ≡ Some begun
  pub layout_is : s.layout ≡ layout_of setup h
  pub region_is : s.region ≡ region_of_node setup begun.gateway
  pub list_is : IsReadAs begun.list begun.kind s.list

-- The rows that a read was served: the pairs that it gives in its span, in the order of their keys.
pub record AreRowsServed (served : ServedRead) (rows : List Pair) : Type 0 where
  pub rising : AllPairs (λ p q. IsKeyBelow p.key q.key) rows
  pub each : (p : Pair) → Contains rows p ↔ (InSpan served.read.span p.key × IsRow served.entries served.read p.key p.value)

-- A span that was fed is that of a served read, with its rows.
pub record IsFedBy (served : ServedRead) (fed : Fed) : Type 0 where
  pub ask_is : fed.ask ≡ record { range = served.range; span = served.read.span }
  pub rows_are : AreRowsServed served fed.rows

-- What was fed, first things first, is what these reads were served, the newest first.
abbrev pub AreFed : List ServedRead → List Fed → Type 0
AreFed [] fed = fed ≡ []
AreFed (served ∷ older) fed =
    (earlier : List Fed) × (last : Fed) × (fed ≡ earlier ++ last ∷ []) × IsFedBy served last × AreFed older earlier

abbrev pub is_ts : Ts → Ts → Bool
is_ts a b = (a.wall == b.wall) && ((a.logical == b.logical) && (a.owner == b.owner))

abbrev pub is_at : Ts → ServedRead → Bool
is_at ts served = is_ts served.read.at ts

-- What was served to an attempt at a timestamp.
abbrev pub served_at : Setup → History → AttemptId → Ts → List ServedRead
served_at setup h a ts = filter (is_at ts) (serves setup h a)

-- The list of an attempt's transaction in its setting, and what was served to the attempt at its read timestamp.
pub record IsListOf (setup : Setup) (h : History) (a : AttemptId) (s : Setting) (fed : List Fed) : Type 0 where
  pub attempt : Attempt
  pub is_attempt : attempt_of h a ≡ Some attempt
  pub setting : IsSettingOf setup h attempt.txn s
  pub fed_is : AreFed (served_at setup h a attempt.read_at) fed

-- The list of an attempt reads this span next.
abbrev pub AsksNext : Setup → History → AttemptId → Ask → Type 0
AsksNext setup h a ask = (s : Setting) × (fed : List Fed) × IsListOf setup h a s fed × (next_span s fed ≡ Some ask)

-- What the list of an attempt writes: the last value of each key that it changes, in the order of ranges and keys.
abbrev pub AreWritesOf : Setup → History → AttemptId → List Write → Type 0
AreWritesOf setup h a writes =
    (s : Setting) × (fed : List Fed) × IsListOf setup h a s fed × (writes_in (evaluation s (served_reads fed)) ≡ writes)

-- The list of an attempt gives a key of a range this value.
abbrev pub WritesTo : Setup → History → AttemptId → RangeId → List ℕ → Option (List ℕ) → Type 0
WritesTo setup h a j key value =
    (writes : List Write) × AreWritesOf setup h a writes × Contains writes (record { range = j; key = key; value = value })

-- The list of an attempt writes a key of a range.
abbrev pub WritesKey : Setup → History → AttemptId → RangeId → List ℕ → Type 0
WritesKey setup h a j key = (value : Option (List ℕ)) × WritesTo setup h a j key value

-- An attempt was served a span of a range at a timestamp.
abbrev pub WasServedAt : Setup → History → AttemptId → RangeId → Span → Ts → Type 0
WasServedAt setup h a j span ts =
    (served : ServedRead) × Contains (serves setup h a) served × (served.range ≡ j) × (served.read.span ≡ span) × (served.read.at ≡ ts)

-- A key lies in a span that was served to an attempt.
abbrev pub WasServedKey : Setup → History → AttemptId → RangeId → List ℕ → Type 0
WasServedKey setup h a j key =
    (served : ServedRead) × Contains (serves setup h a) served × (served.range ≡ j) × InSpan served.read.span key

-- An attempt reads a key: its list asks for a span with it next, or was served one.
abbrev pub ReadsKey : Setup → History → AttemptId → RangeId → List ℕ → Type 0
ReadsKey setup h a j key = ((ask : Ask) × AsksNext setup h a ask × (ask.range ≡ j) × InSpan ask.span key) ⊎ WasServedKey setup h a j key

-- The anchor of an attempt, the range of its record: the one that its puts name or, where it has none, the first
-- range with a key that its list writes. (Transaction records: Taft et al., SIGMOD 2020.)
abbrev pub IsAnchor : Setup → History → AttemptId → RangeId → Type 0
IsAnchor setup h a j =
    ((put : PutMade) × Contains (puts h a) put × (put.anchor ≡ j))
    ⊎ ((puts h a ≡ []) × (first : Write) × (more : List Write) × AreWritesOf setup h a (first ∷ more) × (first.range ≡ j))
