-- The line of counts of a journal. (Source: this project's profile.)
use Rattle.std.specs.Prelude.{ℕ, List, ◌++◌, Bool, true, false, codes, count_by, decimal}
use Rattle.journal_text.specs.Text.{line_end}
use Rattle.journal_text.specs.declared.counts.Counted.{Counted}
use Rattle.journal_text.specs.declared.counts.Counted.TheVariants.{Acked, Faulted, Refused, Lost, Retries}
use Rattle.journal.specs.declared.entries.JournalEntry.{JournalEntry}
use Rattle.journal.specs.declared.entries.JournalEntry.TheVariants as journal

-- Transactions that were acknowledged, ended with a fault, were refused and were lost, and retries.
unfoldable pub is_counted : Counted → JournalEntry → Bool
is_counted Acked (journal.Ack txn ts results) = true
is_counted Faulted (journal.Fault txn ts state) = true
is_counted Refused (journal.Refuse txn why) = true
is_counted Lost (journal.Lost txn) = true
is_counted Retries (journal.Retry txn attempt cause) = true
is_counted _ _ = false

abbrev pub count_of : Counted → List JournalEntry → ℕ
count_of counted j = count_by (λ e. is_counted counted e) j

unfoldable pub counts_text : List JournalEntry → List ℕ
counts_text j = codes "acked " ++ decimal (count_of Acked j) ++ codes " faulted " ++ decimal (count_of Faulted j) ++ codes " refused " ++ decimal (count_of Refused j) ++ codes " lost " ++ decimal (count_of Lost j) ++ codes " retries " ++ decimal (count_of Retries j) ++ line_end
