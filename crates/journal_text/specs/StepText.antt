-- The lines that only a trace shows. (Source: this project's profile.)
use Rattle.std.specs.Prelude.{ℕ, List, ◌++◌, Option, Some, None, codes, decimal}
use Rattle.mr_base.specs.Ids.{node_text, range_text, attempt_text, message_text}
use Rattle.mr_base.specs.Timestamps.{ts_text}
use Rattle.mr_base.specs.declared.ids.AttemptId.{AttemptId}
use Rattle.mr_base.specs.declared.ids.MsgId.{MsgId}
use Rattle.mr_base.specs.declared.ids.NodeId.{NodeId}
use Rattle.mr_base.specs.declared.ids.RangeId.{RangeId}
use Rattle.mr_base.specs.declared.ids.TxnId.{TxnId}
use Rattle.mr_base.specs.declared.messages.Fate.{Fate}
use Rattle.mr_base.specs.declared.messages.Known.{Known}
use Rattle.mr_base.specs.declared.spans.Span.{Span}
use Rattle.mr_base.specs.declared.timestamps.Reading.{Reading}
use Rattle.mr_base.specs.declared.timestamps.Ts.{Ts}
use Rattle.range_log.specs.declared.entries.Entry.{Entry}
use Rattle.range_log.specs.declared.entries.RetryCause.{RetryCause}
use Rattle.journal.specs.Names.{name_of}
use Rattle.journal_text.specs.LogText.{cause_text, fate_text, fates_text, log_entry_text, span_text}
use Rattle.journal_text.specs.MessageText.{body_text}
use Rattle.journal_text.specs.Text.{line_end, number_or_dash, reading_text}
use Rattle.journal.specs.declared.entries.How.{How}
use Rattle.journal.specs.declared.entries.How.TheVariants as how
use Rattle.journal.specs.declared.entries.Shown.{Shown}

abbrev pub clock_text : Option Reading → List ℕ
clock_text None = codes "-"
clock_text (Some r) = reading_text r

abbrev pub how_text : How → List ℕ
how_text how.Lease = codes "lease"
how_text how.Closure = codes "closure"

-- A line of the scenario begins.
abbrev pub event_line : (line : ℕ) → List ℕ
event_line line = codes "event " ++ decimal line ++ line_end

-- A transaction begins; a read of the past has no limit.
abbrev pub begin_line : List (List ℕ) → TxnId → AttemptId → NodeId → Ts → Option ℕ → List ℕ
begin_line names t attempt gateway start limit = codes "begin " ++ name_of names t ++ codes " " ++ attempt_text attempt ++ codes " " ++ node_text gateway ++ codes " start " ++ ts_text start ++ codes " limit " ++ number_or_dash limit ++ line_end

-- A message is sent, with its sender's clock if it has one.
abbrev pub sent_line : MsgId → NodeId → NodeId → Option Reading → Shown → List ℕ
sent_line id from to clock body = codes "sent " ++ message_text id ++ codes " " ++ node_text from ++ codes " " ++ node_text to ++ codes " clock " ++ clock_text clock ++ codes " " ++ body_text body ++ line_end

-- What becomes of a message.
abbrev pub message_line : (became : List ℕ) → MsgId → List ℕ
message_line became id = became ++ message_text id ++ line_end

-- An entry is added to the log of a range.
abbrev pub append_line : RangeId → (index : ℕ) → Entry → List ℕ
append_line r index entry = codes "append " ++ range_text r ++ codes " " ++ decimal index ++ codes " " ++ log_entry_text entry ++ line_end

-- Another replica has applied this many entries now.
abbrev pub apply_line : NodeId → RangeId → (count : ℕ) → List ℕ
apply_line n r count = codes "apply " ++ node_text n ++ codes " " ++ range_text r ++ codes " " ++ decimal count ++ line_end

-- To which attempt a replica serves which span.
abbrev pub place_text : AttemptId → NodeId → RangeId → Span → List ℕ
place_text attempt n r span = attempt_text attempt ++ codes " " ++ node_text n ++ codes " " ++ range_text r ++ codes " " ++ span_text span

-- As of when a span is served, how many entries of the range's log were applied, by what right, and
-- which fates were known. A refresh and a read of the past have no limit.
abbrev pub basis_text : Ts → Option ℕ → (log : ℕ) → How → List Known → List ℕ
basis_text at limit log by fates = codes "at " ++ ts_text at ++ codes " limit " ++ number_or_dash limit ++ codes " log " ++ decimal log ++ codes " by " ++ how_text by ++ codes " fates " ++ fates_text fates

-- A span is served.
abbrev pub serve_line : AttemptId → NodeId → RangeId → Span → Ts → Option ℕ → (log : ℕ) → How → List Known → List ℕ
serve_line attempt n r span at limit log by fates = codes "serve " ++ place_text attempt n r span ++ codes " " ++ basis_text at limit log by fates ++ line_end

-- An attempt learns the fate of another, or of itself.
abbrev pub fated_line : AttemptId → AttemptId → Fate → List ℕ
fated_line attempt other fate = codes "fated " ++ attempt_text attempt ++ codes " " ++ attempt_text other ++ codes " " ++ fate_text fate ++ line_end

-- A transaction reads again, as a new attempt.
abbrev pub retry_line : List (List ℕ) → TxnId → AttemptId → RetryCause → List ℕ
retry_line names t attempt cause = codes "retry " ++ name_of names t ++ codes " " ++ attempt_text attempt ++ codes " " ++ cause_text cause ++ line_end
