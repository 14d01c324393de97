-- Parts of the trace that tell of keys, fates and log entries. (Source: this project's profile.)
use Rattle.std.specs.Prelude.{ℕ, ◌+◌, ◌/◌, ◌%◌, List, [], ◌∷◌, ◌++◌, Option, Some, None, nat_lt, if◌then◌else◌, codes, decimal}
use Rattle.std.specs.List.{flat_map}
use Rattle.mr_base.specs.Ids.{node_text, range_text, attempt_text}
use Rattle.mr_base.specs.Timestamps.{ts_text}
use Rattle.mr_base.specs.declared.ids.AttemptId.{AttemptId}
use Rattle.mr_base.specs.declared.ids.RangeId.{RangeId}
use Rattle.mr_base.specs.declared.messages.Fate.{Fate}
use Rattle.mr_base.specs.declared.messages.Fate.TheVariants as fate
use Rattle.mr_base.specs.declared.messages.Known.{Known}
use Rattle.mr_base.specs.declared.spans.Span.{Span}
use Rattle.mr_base.specs.declared.timestamps.Ts.{Ts}
use Rattle.range_log.specs.declared.entries.Entry.{Entry}
use Rattle.range_log.specs.declared.entries.Entry.TheVariants as log
use Rattle.range_log.specs.declared.entries.Lease.{Lease}
use Rattle.range_log.specs.declared.entries.RetryCause.{RetryCause}
use Rattle.range_log.specs.declared.entries.RetryCause.TheVariants as cause
use Rattle.range_log.specs.declared.entries.TxnState.{TxnState}
use Rattle.range_log.specs.declared.entries.TxnState.TheVariants as state
use Rattle.journal_text.specs.Text.{joined}

-- 0 to 9, a to f
abbrev pub hex_digit : ℕ → ℕ
hex_digit d = if nat_lt d 10 then 48 + d else 87 + d

-- Each byte as two hexadecimal digits in lower case.
abbrev pub hex_byte : ℕ → List ℕ
hex_byte b = hex_digit (b / 16) ∷ hex_digit (b % 16) ∷ []

abbrev pub hex_text : List ℕ → List ℕ
hex_text bytes = flat_map hex_byte bytes

-- The keys from the first up to and without the second.
abbrev pub span_text : Span → List ℕ
span_text s = codes "[" ++ hex_text s.lo ++ codes "," ++ hex_text s.hi ++ codes ")"

-- A value, or a deletion.
abbrev pub value_text : Option (List ℕ) → List ℕ
value_text None = codes "-"
value_text (Some value) = hex_text value

-- A fate, with `between` before its timestamp.
abbrev pub fate_parts : List ℕ → Fate → List ℕ
fate_parts between (fate.Committed ts) = codes "committed" ++ between ++ ts_text ts
fate_parts between fate.Aborted = codes "aborted"
fate_parts between (fate.Pushed ts) = codes "pushed" ++ between ++ ts_text ts

abbrev pub fate_text : Fate → List ℕ
fate_text f = fate_parts (codes " ") f

-- The fates that a request carries: attempts with their fates, in which colons stand for spaces.
abbrev pub known_text : Known → List ℕ
known_text known = attempt_text known.attempt ++ codes ":" ++ fate_parts (codes ":") known.fate

abbrev pub fates_text : List Known → List ℕ
fates_text [] = codes "-"
fates_text (known ∷ fates) = joined known_text (codes ",") (known ∷ fates)

-- A version within the uncertainty limit.
abbrev pub uncertain_text : (key : List ℕ) → Ts → List ℕ
uncertain_text key ts = codes "uncertain " ++ hex_text key ++ codes " " ++ ts_text ts

-- Why a transaction reads again.
abbrev pub cause_text : RetryCause → List ℕ
cause_text (cause.Uncertain key ts) = uncertain_text key ts
cause_text (cause.NewerWrite ts) = codes "newer " ++ ts_text ts
cause_text (cause.Pushed ts) = codes "pushed " ++ ts_text ts

-- Where the record of an intent's attempt stands, and when its transaction began.
abbrev pub origin_text : Ts → RangeId → List ℕ
origin_text start anchor = codes "start " ++ ts_text start ++ codes " anchor " ++ range_text anchor

-- What an intent writes.
abbrev pub write_text : Ts → (key : List ℕ) → Option (List ℕ) → List ℕ
write_text ts key value = codes "at " ++ ts_text ts ++ codes " key " ++ hex_text key ++ codes " value " ++ value_text value

abbrev pub log_lease_text : Lease → List ℕ
log_lease_text lease = codes "lease " ++ decimal lease.seq ++ codes " " ++ node_text lease.holder ++ codes " boot " ++ decimal lease.boot ++ codes " expires " ++ decimal lease.expiration ++ codes " low " ++ ts_text lease.low

abbrev pub state_text : TxnState → List ℕ
state_text (state.Pending ts) = codes "pending " ++ ts_text ts
state_text (state.Committed ts) = codes "committed " ++ ts_text ts
state_text (state.Aborted by) = codes "aborted " ++ attempt_text by

-- The entries of an intent, of its resolving, of a record, and of a pair that a range holds from its making on.
abbrev pub put_entry_text : AttemptId → Ts → RangeId → Ts → (key : List ℕ) → Option (List ℕ) → List ℕ
put_entry_text attempt start anchor ts key value = codes "put " ++ attempt_text attempt ++ codes " " ++ origin_text start anchor ++ codes " " ++ write_text ts key value

abbrev pub resolve_entry_text : AttemptId → (key : List ℕ) → Fate → List ℕ
resolve_entry_text attempt key fate = codes "resolve " ++ attempt_text attempt ++ codes " key " ++ hex_text key ++ codes " " ++ fate_text fate

abbrev pub record_text : AttemptId → TxnState → List ℕ
record_text attempt state = codes "record " ++ attempt_text attempt ++ codes " " ++ state_text state

abbrev pub load_text : Ts → (key value : List ℕ) → List ℕ
load_text ts key value = codes "load " ++ ts_text ts ++ codes " key " ++ hex_text key ++ codes " value " ++ hex_text value

-- An entry of a range's log.
abbrev pub log_entry_text : Entry → List ℕ
log_entry_text (log.Lease lease) = log_lease_text lease
log_entry_text (log.Put attempt start anchor ts key value) = put_entry_text attempt start anchor ts key value
log_entry_text (log.Resolve attempt key fate) = resolve_entry_text attempt key fate
log_entry_text (log.State attempt state) = record_text attempt state
log_entry_text (log.Close ts) = codes "close " ++ ts_text ts
log_entry_text (log.Load ts key value) = load_text ts key value
