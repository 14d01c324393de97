use Rattle.std.proofs.Common.{◌≡◌, Bool, true, false, List, [], ◌∷◌, inl, inr, sym, subst, true≢false}
use Rattle.std.specs.Prelude.{◌==◌, if◌then◌else◌}
use Rattle.std.specs.List.{Contains}
use Rattle.mr_base.specs.declared.ids.AttemptId.{AttemptId}
use Rattle.mr_base.specs.declared.ids.RangeId.{RangeId}
use Rattle.range_log.specs.declared.entries.Entry.{Entry}
use Rattle.range_log.specs.declared.entries.Entry.TheVariants as log
use Rattle.journal.specs.declared.entries.JournalEntry.TheVariants as entry
use Rattle.run_words.proofs.MemberLemmas.{contains_first, contains_later, itself}
use Rattle.run_words.specs.History.{Item, Made, History}
use Rattle.run_words.specs.Logs.{log_of}
use Rattle.run_words.specs.Puts.{PutMade}
use Rattle.run_words.specs.Relations.{WasPut}
use Rattle.run_words.specs.Setup.{Setup}

-- an entry of a log stays in it
stays : (t : Bool) (e f : Entry) (old : List Entry) → Contains old f → Contains (if t then e ∷ old else old) f
stays true e f old c = contains_later e f old c
stays false e f old c = c

stays_in_log : (setup : Setup) (x : Item) (h : History) (j : RangeId) (f : Entry) → Contains (log_of setup h j) f → Contains (log_of setup (x ∷ h) j) f
stays_in_log setup (Made (entry.Append range index e)) h j f c = stays (range.0 == j.0) e f (log_of setup h j) c
stays_in_log setup _ h j f c = c

-- an entry that is appended stands in the log
stands : (t : Bool) (e : Entry) (old : List Entry) → t ≡ true → Contains (if t then e ∷ old else old) e
stands true e old q = contains_first e old
stands false e old q = absurd (true≢false (sym q))

abbrev entry_of : AttemptId → PutMade → Entry
entry_of a p = log.Put a p.start p.anchor p.ts p.key p.value

pub put_in_log : (setup : Setup) (h : History) (a : AttemptId) (p : PutMade) → WasPut a p h → Contains (log_of setup h p.range) (entry_of a p)
put_in_log setup [] a p w = absurd w
put_in_log setup (Made (entry.Append range index (log.Put attempt start anchor ts key value)) ∷ h) a p (inl q) =
    subst (λ (y : PutMade). Contains (log_of setup (Made (entry.Append range index (log.Put attempt start anchor ts key value)) ∷ h) y.range) (entry_of a y)) (sym q.1)
    (subst (λ (b : AttemptId). Contains (log_of setup (Made (entry.Append range index (log.Put attempt start anchor ts key value)) ∷ h) range) (log.Put b start anchor ts key value)) q.0
    (stands (range.0 == range.0) (log.Put attempt start anchor ts key value) (log_of setup h range) (itself range.0)))
put_in_log setup (x ∷ h) a p (inl q) = absurd q
put_in_log setup (x ∷ h) a p (inr w) = stays_in_log setup x h p.range (entry_of a p) (put_in_log setup h a p w)
