use Rattle.std.specs.Prelude.{⊤, max, ◌+◌, ◌≡◌, ◌≤◌, ◌⊎◌}
use Rattle.journal.specs.declared.entries.JournalEntry.TheVariants as entry
use Rattle.journal.specs.declared.entries.Shown.TheVariants as shown
use Rattle.mr_base.specs.declared.messages.Fate.TheVariants as fates
use Rattle.mr_base.specs.declared.messages.Request.TheVariants as requests
use Rattle.mr_base.specs.declared.messages.Request.{Request}
use Rattle.mr_base.specs.declared.timestamps.Ts.{Ts}
use Rattle.range_log.specs.declared.entries.Entry.TheVariants as log
use Rattle.range_log.specs.declared.entries.RetryCause.TheVariants as causes
use Rattle.range_log.specs.declared.entries.RetryCause.{RetryCause}
use Rattle.range_log.specs.declared.entries.TxnState.TheVariants as states
use Rattle.run_words.specs.Clocks.{peak}
use Rattle.run_words.specs.Happened.{Always}
use Rattle.run_words.specs.History.{History, Item, Made}
use Rattle.run_words.specs.Setup.{Setup}

-- How far ahead of the clocks the timestamps of transactions stand. (This project's profile.)

-- A request asks at a timestamp.
abbrev pub AsksAt : Request → Ts → Type 0
AsksAt (requests.Read a j span at limit known) ts = ts ≡ at
AsksAt (requests.Refresh a j span from at known) ts = (ts ≡ from) ⊎ (ts ≡ at)
AsksAt (requests.Put a j start anchor at key value known) ts = (ts ≡ start) ⊎ (ts ≡ at)
AsksAt (requests.PushReader a j other at) ts = ts ≡ at
AsksAt (requests.PushWriter a j other start other_start) ts = (ts ≡ start) ⊎ (ts ≡ other_start)
AsksAt (requests.Commit a j at) ts = ts ≡ at
AsksAt _ ts = ⊥

-- A cause to try again names a timestamp.
abbrev pub NamesTs : RetryCause → Ts → Type 0
NamesTs (causes.Uncertain key at) ts = ts ≡ at
NamesTs (causes.NewerWrite at) ts = ts ≡ at
NamesTs (causes.Pushed at) ts = ts ≡ at

-- A timestamp of a transaction stands in an item.
abbrev pub Shows : Item → Ts → Type 0
Shows (Made (entry.Begin t a gateway start limit)) ts = ts ≡ start
Shows (Made (entry.Serve a n j span at limit count by known)) ts = ts ≡ at
Shows (Made (entry.Append j index (log.Put a start anchor at key value))) ts = (ts ≡ start) ⊎ (ts ≡ at)
Shows (Made (entry.Append j index (log.State a (states.Pending at)))) ts = ts ≡ at
Shows (Made (entry.Append j index (log.State a (states.Committed at)))) ts = ts ≡ at
Shows (Made (entry.Append j index (log.Resolve a key (fates.Committed at)))) ts = ts ≡ at
Shows (Made (entry.Fated a b (fates.Committed at))) ts = ts ≡ at
Shows (Made (entry.Fated a b (fates.Pushed at))) ts = ts ≡ at
Shows (Made (entry.Sent m from to clock (shown.Request q))) ts = AsksAt q ts
Shows (Made (entry.Retry t a cause)) ts = NamesTs cause ts
Shows (Made (entry.Ack t at results)) ts = ts ≡ at
Shows (Made (entry.Fault t at state)) ts = ts ≡ at
Shows _ ts = ⊥

-- Each timestamp of a transaction is ahead of the clocks by the lead of global ranges or the offset at most.
abbrev pub AreNear : Setup → History → Type 0
AreNear setup h =
    Always (λ x older. (ts : Ts) → Shows x ts → ts.wall ≤ peak setup h + max setup.settings.lead setup.settings.max_offset) h
