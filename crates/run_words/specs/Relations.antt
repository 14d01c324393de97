use Rattle.std.specs.Prelude.{◌≡◌, IsSome, ◌∷◌, Some}
use Rattle.range_log.specs.declared.entries.TxnState.TheVariants as states
use Rattle.mr_base.specs.declared.ids.AttemptId.{AttemptId}
use Rattle.mr_base.specs.declared.ids.TxnId.{TxnId}
use Rattle.mr_base.specs.declared.messages.Fate.{Fate}
use Rattle.range_log.specs.declared.entries.Entry.TheVariants as log
use Rattle.journal.specs.declared.entries.JournalEntry.TheVariants as entry
use Rattle.range_log.specs.Facts.{first_entries}
use Rattle.run_words.specs.History.{Item, Made, History}
use Rattle.run_words.specs.Happened.{Happened}
use Rattle.run_words.specs.Logs.{log_of}
use Rattle.run_words.specs.Puts.{PutMade, fate_shown}
use Rattle.run_words.specs.Serving.{ServedRead}
use Rattle.run_words.specs.Setup.{Setup}
use Rattle.run_words.specs.Messages.{handled}
use Rattle.run_words.specs.Transactions.{last_attempt}

-- What was served, put and learned somewhere in a history. (This project's profile.)

abbrev pub IsServe : Setup → ServedRead → Item → History → Type 0
IsServe setup s (Made (entry.Serve attempt node range span at limit count by known)) h =
    s ≡ record {
      read = record { attempt = attempt; span = span; at = at; limit = limit; known = known };
      node = node;
      range = range;
      count = count;
      entries = first_entries count (log_of setup h range);
      by = by;
      via = handled h;
    }
IsServe setup s _ h = ⊥

-- A read was served so.
abbrev pub WasServed : Setup → ServedRead → History → Type 0
WasServed setup s h = Happened (IsServe setup s) h

abbrev pub IsPut : AttemptId → PutMade → Item → History → Type 0
IsPut a p (Made (entry.Append range index (log.Put attempt start anchor ts key value))) h =
    (attempt ≡ a)
    × (p ≡ record { range = range; start = start; anchor = anchor; ts = ts; key = key; value = value; via = handled h })
IsPut a p _ h = ⊥

-- An attempt has put so.
abbrev pub WasPut : AttemptId → PutMade → History → Type 0
WasPut a p h = Happened (IsPut a p) h

abbrev pub IsFated : AttemptId → AttemptId → Fate → Item → History → Type 0
IsFated a b f (Made (entry.Fated attempt other fate)) h = (attempt ≡ a) × (other ≡ b) × (fate ≡ f)
IsFated a b f _ h = ⊥

-- An attempt has learned the fate of another.
abbrev pub WasFated : AttemptId → AttemptId → Fate → History → Type 0
WasFated a b f h = Happened (IsFated a b f) h

-- The entries of an attempt: its beginning, what was served to it, what it learned, its puts and its commit.
abbrev pub IsOfAttempt : AttemptId → Item → Type 0
IsOfAttempt a (Made (entry.Begin txn attempt gateway start limit)) = attempt ≡ a
IsOfAttempt a (Made (entry.Retry txn attempt cause)) = attempt ≡ a
IsOfAttempt a (Made (entry.Serve attempt node range span at limit count by known)) = attempt ≡ a
IsOfAttempt a (Made (entry.Fated attempt other fate)) = attempt ≡ a
IsOfAttempt a (Made (entry.Append range index (log.Put attempt start anchor ts key value))) = attempt ≡ a
IsOfAttempt a (Made (entry.Append range index (log.State attempt (states.Committed ts)))) = attempt ≡ a
IsOfAttempt a _ = ⊥

abbrev pub ShowsSince : TxnId → AttemptId → Fate → Item → History → Type 0
ShowsSince t b f x h = IsSome (last_attempt (x ∷ h) t) × (fate_shown (x ∷ h) b ≡ Some f)

-- Since a transaction began, the record of an attempt once showed this fate.
abbrev pub Stood : TxnId → AttemptId → Fate → History → Type 0
Stood t b f h = Happened (ShowsSince t b f) h
