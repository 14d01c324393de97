use Rattle.std.specs.List.{Contains}
use Rattle.std.specs.Prelude.{List, ℕ, ◌↔◌, ◌≡◌}
use Rattle.mr_base.specs.Spans.{InSpan}
use Rattle.mr_base.specs.Timestamps.{IsBelow}
use Rattle.mr_base.specs.declared.ids.AttemptId.{AttemptId}
use Rattle.mr_base.specs.declared.ids.TxnId.{TxnId}
use Rattle.mr_base.specs.declared.timestamps.Ts.{Ts}
use Rattle.mvcc_range.specs.Answer.{IsRow}
use Rattle.mvcc_range.specs.RefreshAnswer.{IsNewerWrite, Refresh}
use Rattle.row_locality.specs.Plain.{range_pairs}
use Rattle.run_laws.specs.Beginnings.{IsSoundSetup}
use Rattle.run_laws.specs.Decided.{AreDecided, Decided, replay_below}
use Rattle.run_laws.specs.Held.{IsHeld}
use Rattle.run_laws.specs.Lawful.{IsLawful}
use Rattle.run_laws.specs.Serial.{IsSerial}
use Rattle.run_laws.specs.Visible.{DecidesAt, IsVisible}
use Rattle.run_words.specs.Happened.{Happened}
use Rattle.run_words.specs.History.{History}
use Rattle.run_words.specs.Ranges.{layout_of}
use Rattle.run_words.specs.Relations.{WasServed}
use Rattle.run_words.specs.Serving.{ServedRead, serves}
use Rattle.run_words.specs.Setup.{Setup}

-- What follows from the laws, for every lawful history. Each is stated for a part of a run too, which begins behind a
-- schema change with the rows that it left.

-- Served is held: the rows of each read that was served are what the commits of the whole history make below its
-- timestamp, whatever came later.
abbrev pub ServedIsHeld : Type 0
ServedIsHeld =
    (setup : Setup) (h : History) (s : ServedRead) (key value : List ℕ) → IsSoundSetup setup → IsLawful setup h → WasServed setup s h
    → InSpan s.read.span key → IsRow s.entries s.read key value ↔ IsHeld setup h s.range s.read.at key value

-- A span that was served twice, as a refresh.
abbrev pub refresh_of : (s again : ServedRead) → Refresh
refresh_of s again =
    record { attempt = s.read.attempt; span = s.read.span; from = s.read.at; to = again.read.at; known = again.read.known }

-- The rows of a refresh: a span that an attempt was served at a timestamp and again at a later one, where nothing newer
-- was seen, has the same rows.
abbrev pub RefreshedRowsStay : Type 0
RefreshedRowsStay =
    (setup : Setup) (h : History) (s again : ServedRead) (key value : List ℕ) → IsSoundSetup setup → IsLawful setup h
    → WasServed setup s h → WasServed setup again h → again.read.attempt ≡ s.read.attempt → again.range ≡ s.range
    → again.read.span ≡ s.read.span → IsBelow s.read.at again.read.at
    → ((ts : Ts) → ¬ IsNewerWrite again.entries (refresh_of s again) ts) → InSpan s.read.span key
    → IsRow again.entries again.read key value ↔ IsRow s.entries s.read key value

-- Decided reads agree: what was served to a deciding attempt at the timestamp of the decision is in the tables of the
-- replay below it.
abbrev pub DecidedReadsAgree : Type 0
DecidedReadsAgree =
    (setup : Setup) (h : History) (ds : List Decided) (t : TxnId) (a : AttemptId) (ts : Ts) (s : ServedRead) (key value : List ℕ)
    → IsSoundSetup setup → IsLawful setup h → AreDecided setup h ds → Happened (DecidesAt t a ts) h → Contains (serves setup h a) s
    → s.read.at ≡ ts → InSpan s.read.span key
    → Contains (range_pairs (layout_of setup h) (replay_below setup ds ts) s.range) (key, value) ↔ IsRow s.entries s.read key value

-- Every lawful history is serial.
abbrev pub LawfulIsSerial : Type 0
LawfulIsSerial = (setup : Setup) (h : History) → IsSoundSetup setup → IsLawful setup h → IsSerial setup h

-- Every lawful history is visible.
abbrev pub LawfulIsVisible : Type 0
LawfulIsVisible = (setup : Setup) (h : History) → IsSoundSetup setup → IsLawful setup h → IsVisible setup h
