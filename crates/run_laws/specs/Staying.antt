use Rattle.std.specs.List.{Contains}
use Rattle.std.specs.Prelude.{None, Option, Some, length, ⊤, ◌∷◌, ◌≡◌, ◌≤◌}
use Rattle.mr_base.specs.Timestamps.{IsBelow}
use Rattle.mr_base.specs.declared.ids.AttemptId.{AttemptId}
use Rattle.mr_base.specs.declared.ids.NodeId.{NodeId}
use Rattle.mr_base.specs.declared.ids.RangeId.{RangeId}
use Rattle.mr_base.specs.declared.ids.TxnId.{TxnId}
use Rattle.mr_base.specs.declared.messages.Fate.TheVariants as fates
use Rattle.mr_base.specs.declared.messages.Fate.{Fate}
use Rattle.mr_base.specs.declared.timestamps.Ts.{Ts}
use Rattle.range_log.specs.declared.entries.TxnState.TheVariants as states
use Rattle.range_log.specs.declared.entries.TxnState.{TxnState}
use Rattle.run_laws.specs.Lawful.{IsLawful, IsPermitted}
use Rattle.run_words.specs.Attempts.{Attempt, above, attempt_of}
use Rattle.run_words.specs.Happened.{IsPlace}
use Rattle.run_words.specs.History.{History, Item}
use Rattle.run_words.specs.Logs.{applied, log_of}
use Rattle.run_words.specs.Puts.{CommitMade, PutMade, commit, puts, record_of}
use Rattle.run_words.specs.Relations.{IsPut, IsServe, Stood, WasPut, WasServed}
use Rattle.run_words.specs.Serving.{ServedRead}
use Rattle.run_words.specs.Setup.{Setup}
use Rattle.run_words.specs.Transactions.{Beginning, beginning}

-- What stays so in a lawful history, and what was permitted in it: what each proof over all histories begins with.

-- What happened until some moment of a lawful history is lawful.
abbrev pub OlderIsLawful : Type 0
OlderIsLawful = (setup : Setup) (h older : History) → IsLawful setup h → IsPlace older h → IsLawful setup older

-- Each item of a lawful history was permitted.
abbrev pub EachIsPermitted : Type 0
EachIsPermitted =
    (setup : Setup) (h : History) (x : Item) (older : History) → IsLawful setup h → IsPlace (x ∷ older) h → IsPermitted setup older x

-- Each read that was served was permitted where it was.
abbrev pub ServedWasPermitted : Type 0
ServedWasPermitted =
    (setup : Setup) (h : History) (s : ServedRead) → IsLawful setup h → WasServed setup s h
    → (x : Item) × (older : History) × IsPlace (x ∷ older) h × IsServe setup s x older × IsPermitted setup older x × IsLawful setup older

-- Each put was permitted where it was made.
abbrev pub PutWasPermitted : Type 0
PutWasPermitted =
    (setup : Setup) (h : History) (a : AttemptId) (put : PutMade) → IsLawful setup h → WasPut a put h
    → (x : Item) × (older : History) × IsPlace (x ∷ older) h × IsPut a put x older × IsPermitted setup older x × IsLawful setup older

-- The record of an attempt that committed says so ..
abbrev pub CommitIsRecord : Type 0
CommitIsRecord =
    (setup : Setup) (h : History) (a : AttemptId) (made : CommitMade) → IsLawful setup h → commit h a ≡ Some made
    → record_of h a ≡ Some (states.Committed made.ts)

-- .. and stays so.
abbrev pub CommitStays : Type 0
CommitStays =
    (setup : Setup) (h older : History) (a : AttemptId) (made : CommitMade) → IsLawful setup h → IsPlace older h
    → commit older a ≡ Some made → commit h a ≡ Some made

-- An attempt that committed puts nothing above its commit, before it or later.
abbrev pub CommitIsAbovePuts : Type 0
CommitIsAbovePuts =
    (setup : Setup) (h : History) (a : AttemptId) (made : CommitMade) (put : PutMade) → IsLawful setup h → commit h a ≡ Some made
    → Contains (puts h a) put → ¬ IsBelow made.ts put.ts

-- An attempt stays as it was begun, and a transaction too.
abbrev pub AttemptStays : Type 0
AttemptStays =
    (setup : Setup) (h older : History) (a : AttemptId) (x : Attempt) → IsLawful setup h → IsPlace older h
    → attempt_of older a ≡ Some x → attempt_of h a ≡ Some x

abbrev pub BeginningStays : Type 0
BeginningStays =
    (setup : Setup) (h older : History) (t : TxnId) (b : Beginning) → IsLawful setup h → IsPlace older h
    → beginning older t ≡ Some b → beginning h t ≡ Some b

-- What a record said of its attempt's writes at some moment since a transaction began is so from then on: they count at
-- that timestamp; or they never count; or, if they ever count, then above it.
abbrev pub IsPast : Ts → Option TxnState → Type 0
IsPast ts None = ⊥
IsPast ts (Some (states.Pending above)) = ¬ IsBelow above ts
IsPast ts (Some (states.Committed at)) = IsBelow ts at
IsPast ts (Some (states.Aborted by)) = ⊤

abbrev pub HoldsOf : Fate → Option TxnState → Type 0
HoldsOf (fates.Committed ts) state = state ≡ Some (states.Committed ts)
HoldsOf fates.Aborted state = (by : AttemptId) × (state ≡ Some (states.Aborted by))
HoldsOf (fates.Pushed ts) state = IsPast ts state

abbrev pub WhatStoodHolds : Type 0
WhatStoodHolds =
    (setup : Setup) (h : History) (t : TxnId) (b : AttemptId) (f : Fate) → IsLawful setup h → Stood t b f h → HoldsOf f (record_of h b)

-- No node has applied more than stands in the log.
abbrev pub AppliedIsWithin : Type 0
AppliedIsWithin =
    (setup : Setup) (h : History) (n : NodeId) (j : RangeId) → IsLawful setup h → applied setup h n j ≤ length (log_of setup h j)
