-- The lines of answers: what became of transactions. (Source: this project's profile; the codes after
-- PostgreSQL's list of SQLSTATE codes.)
use Rattle.std.specs.Prelude.{ℕ, List, ◌++◌, codes, decimal}
use Rattle.std.specs.List.{flat_map}
use Rattle.mr_base.specs.Ids.{attempt_text, message_text, range_text}
use Rattle.mr_base.specs.States.{code_of}
use Rattle.mr_base.specs.Timestamps.{ts_text}
use Rattle.mr_base.specs.declared.ids.TxnId.{TxnId}
use Rattle.mr_base.specs.declared.rows.Datum.{Datum}
use Rattle.mr_base.specs.declared.states.SqlState.{SqlState}
use Rattle.mr_base.specs.declared.timestamps.Ts.{Ts}
use Rattle.journal.specs.Names.{name_of}
use Rattle.journal_text.specs.Text.{line_end, joined, datum_text, nodes_text}
use Rattle.mr_base.specs.declared.results.StatementResult.{StatementResult}
use Rattle.mr_base.specs.declared.results.Verb.{Verb}
use Rattle.mr_base.specs.declared.results.Verb.TheVariants as verb
use Rattle.journal.specs.declared.entries.Why.{Why}
use Rattle.journal.specs.declared.entries.Why.TheVariants as why

abbrev pub verb_text : Verb → List ℕ
verb_text verb.Insert = codes "insert"
verb_text verb.Update = codes "update"
verb_text verb.Delete = codes "delete"
verb_text verb.Select = codes "select"

-- A row is a line: two spaces, and its values with a comma and a space between them.
abbrev pub row_text : List Datum → List ℕ
row_text row = codes "  " ++ joined datum_text (codes ", ") row ++ line_end

-- The answer of a statement: its verb, the number of rows, and the rows that it gives.
abbrev pub result_text : StatementResult → List ℕ
result_text r = codes "= " ++ verb_text r.verb ++ codes " " ++ decimal r.count ++ line_end ++ flat_map row_text r.rows

-- An acknowledgement at a timestamp, with the answers of the statements.
abbrev pub ack_text : List (List ℕ) → TxnId → Ts → List StatementResult → List ℕ
ack_text names t ts results = codes "ack " ++ name_of names t ++ codes " " ++ ts_text ts ++ line_end ++ flat_map result_text results

-- A fault of SQL at a timestamp.
abbrev pub fault_text : List (List ℕ) → TxnId → Ts → SqlState → List ℕ
fault_text names t ts state = codes "fault " ++ name_of names t ++ codes " " ++ ts_text ts ++ codes " " ++ code_of state ++ line_end

abbrev pub why_text : Why → List ℕ
why_text (why.Conflict other) = codes "40001 conflict " ++ attempt_text other
why_text (why.Aborted by) = codes "40001 aborted " ++ attempt_text by
why_text why.Retries = codes "40001 retries"
why_text (why.NoLease range) = codes "nolease " ++ range_text range
why_text (why.NoQuorum range down) = codes "noquorum " ++ range_text range ++ codes " " ++ nodes_text down
why_text (why.Schema ts) = codes "schema " ++ ts_text ts
why_text (why.Ambiguous request) = codes "40003 " ++ message_text request
why_text (why.Timeout request) = codes "timeout " ++ message_text request
why_text (why.Stale range) = codes "stale " ++ range_text range

abbrev pub refusal_text : List (List ℕ) → TxnId → Why → List ℕ
refusal_text names t why = codes "refuse " ++ name_of names t ++ codes " " ++ why_text why ++ line_end

-- The gateway stopped before the transaction was answered.
abbrev pub lost_text : List (List ℕ) → TxnId → List ℕ
lost_text names t = codes "lost " ++ name_of names t ++ line_end
