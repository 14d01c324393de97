-- The text of a journal's entries. (Source: this project's profile.)
use Rattle.std.specs.Prelude.{◌≡◌, ℕ, ◌<◌, List, [], ◌++◌, codes, length}
use Rattle.std.specs.List.{flat_map}
use Rattle.journal_text.specs.AnswerText.{ack_text, fault_text, refusal_text, lost_text}
use Rattle.journal.specs.Names.{NamesOnly, NamesWithin}
use Rattle.journal_text.specs.StateText.{lease_text, lease_refusal_text, close_refusal_text, sql_refusal_text, schema_text, range_line, node_line, flight_line, fresh_line}
use Rattle.journal_text.specs.StepText.{event_line, begin_line, sent_line, message_line, append_line, apply_line, serve_line, fated_line, retry_line}
use Rattle.journal.specs.declared.entries.JournalEntry.{JournalEntry}
use Rattle.journal.specs.declared.entries.JournalEntry.TheVariants as journal
use Rattle.journal_text.specs.declared.modes.Mode.{Mode}
use Rattle.journal_text.specs.declared.modes.Mode.TheVariants as mode

-- What every report shows of an entry: the answers, and the lines that a scenario asks for.
unfoldable pub answer_text : List (List ℕ) → JournalEntry → List ℕ
answer_text names (journal.Ack txn ts results) = ack_text names txn ts results
answer_text names (journal.Fault txn ts state) = fault_text names txn ts state
answer_text names (journal.Refuse txn why) = refusal_text names txn why
answer_text names (journal.Lost txn) = lost_text names txn
answer_text names (journal.Lease range seq holder expiration) = lease_text range seq holder expiration
answer_text names (journal.LeaseRefused range why) = lease_refusal_text range why
answer_text names (journal.CloseRefused range why) = close_refusal_text range why
answer_text names (journal.SqlRefused why) = sql_refusal_text why
answer_text names (journal.Schema ts) = schema_text ts
answer_text names (journal.ShowRange range seq holder expiration closed log) = range_line range seq holder expiration closed log
answer_text names (journal.ShowNode node clock running boot) = node_line node clock running boot
answer_text names (journal.ShowFlight messages) = flight_line messages
answer_text names (journal.ShowFresh node ranges) = fresh_line node ranges
answer_text names _ = []

-- What only a trace shows of an entry: the steps between the answers.
unfoldable pub step_text : List (List ℕ) → JournalEntry → List ℕ
step_text names (journal.Event line) = event_line line
step_text names (journal.Begin txn attempt gateway start limit) = begin_line names txn attempt gateway start limit
step_text names (journal.Sent id from to clock body) = sent_line id from to clock body
step_text names (journal.Taken id) = message_line (codes "taken ") id
step_text names (journal.Bounced id) = message_line (codes "bounced ") id
step_text names (journal.Dropped id) = message_line (codes "dropped ") id
step_text names (journal.Append range index entry) = append_line range index entry
step_text names (journal.Apply node range count) = apply_line node range count
step_text names (journal.Serve attempt node range span at limit log by fates) = serve_line attempt node range span at limit log by fates
step_text names (journal.Fated attempt other fate) = fated_line attempt other fate
step_text names (journal.Retry txn attempt cause) = retry_line names txn attempt cause
step_text names _ = []

-- The text of an entry, given the names of the transactions in the order in which they were read. An
-- entry is either a step or an answer, so a trace shows each by one of the two.
unfoldable pub entry_text : List (List ℕ) → Mode → JournalEntry → List ℕ
entry_text names mode.Answers e = answer_text names e
entry_text names mode.Trace e = step_text names e ++ answer_text names e
entry_text names mode.Summary e = []

-- An entry that names only transactions that have a name keeps its text when more transactions are named.
abbrev pub EntryTextStays : Type 0
EntryTextStays = (names more : List (List ℕ)) (m : Mode) (e : JournalEntry) → NamesWithin names e
    → entry_text (names ++ more) m e ≡ entry_text names m e

-- The same of the texts of entries, one after another.
abbrev pub TextsStay : Type 0
TextsStay = (names more : List (List ℕ)) (m : Mode) (es : List JournalEntry) → NamesOnly (λ t. t.0 < length names) es
    → flat_map (entry_text (names ++ more) m) es ≡ flat_map (entry_text names m) es
