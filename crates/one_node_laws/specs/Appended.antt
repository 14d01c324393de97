use Rattle.std.specs.Prelude.{◌≡◌, ◌+◌, ⊤, List, [], Some, length}
use Rattle.mr_base.specs.declared.ids.RangeId.{RangeId}
use Rattle.range_log.specs.Facts.{lease_of}
use Rattle.range_log.specs.declared.entries.Entry.{Entry}
use Rattle.range_log.specs.declared.entries.Entry.TheVariants as log
use Rattle.range_log.specs.declared.entries.Lease.{Lease}
use Rattle.journal.specs.declared.entries.JournalEntry.{JournalEntry}
use Rattle.journal.specs.declared.entries.JournalEntry.TheVariants as entry
use Rattle.one_node_laws.specs.Begun.{reading_at}
use Rattle.one_node_laws.specs.LinesRun.{LinesRun}
use Rattle.one_node_laws.specs.Words.{log_of, the_node, the_range, the_first_boot}

-- The first lease of a range: of the first voter at its present boot, with the settings' length from that
-- node's reading on.
pub record IsFirstLease (s : LinesRun) (before : List JournalEntry) (range : RangeId) (lease : Lease) : Type 0 where
  pub first : log_of range before ≡ []
  pub seq : lease.seq ≡ 1
  pub holder : lease.holder ≡ the_node
  pub boot : lease.boot ≡ the_first_boot
  pub expiration : lease.expiration ≡ (reading_at s before).wall + s.settings.lease
  pub low : lease.low ≡ record { wall = 0; logical = 0; owner = 0 }

-- The node holds the last lease of the log at its present boot.
pub record IsHolder (before : List JournalEntry) (range : RangeId) : Type 0 where
  pub lease : Lease
  pub last : lease_of (log_of range before) ≡ Some lease
  pub holder : lease.holder ≡ the_node
  pub boot : lease.boot ≡ the_first_boot

abbrev pub IsAppender : LinesRun → List JournalEntry → RangeId → Entry → Type 0
IsAppender s before range (log.Lease lease) = IsFirstLease s before range lease
IsAppender s before range e = IsHolder before range

-- Appended: the entries of a log are numbered from 1, after the first lease its holder appends them, and the
-- one voter, which never stops, is a majority. (Taft et al., SIGMOD 2020, on ranges and leases.)
abbrev pub Appended : LinesRun → List JournalEntry → JournalEntry → Type 0
Appended s before (entry.Append range index e) =
    (range ≡ the_range) × (index ≡ length (log_of range before) + 1) × IsAppender s before range e
Appended s before e = ⊤
