use Rattle.std.proofs.Common.{◌≡◌, ℕ, ◌≤◌, ◌∷◌, List, sym, ap, ◌∙◌, subst}
use Rattle.std.specs.Prelude.{◌↔◌}
use Rattle.std.specs.List.{Contains}
use Rattle.held_reads.specs.KeepsReads.{KeepsReads}
use Rattle.held_reads.specs.Laws.{FedReadsAgree, HeldReadsAgree, IsHeldBelow}
use Rattle.journal.specs.declared.entries.JournalEntry.TheVariants as entry
use Rattle.mr_base.specs.Spans.{InSpan}
use Rattle.mr_base.specs.Timestamps.{IsBelow}
use Rattle.mr_base.specs.declared.ids.AttemptId.{AttemptId}
use Rattle.mr_base.specs.declared.ids.TxnId.{TxnId}
use Rattle.mr_base.specs.declared.timestamps.Ts.{Ts}
use Rattle.mvcc_range.specs.Answer.{IsRow}
use Rattle.range_log.specs.declared.entries.Entry.TheVariants as log
use Rattle.range_log.specs.declared.entries.TxnState.TheVariants as states
use Rattle.row_locality.specs.Plain.{range_pairs}
use Rattle.run_laws.proofs.LawfulLemmas.{happened_so}
use Rattle.run_laws.specs.Beginnings.{IsSoundSetup}
use Rattle.run_laws.specs.Decided.{AreDecided, Decided, replay_below}
use Rattle.run_laws.specs.Lawful.{IsLawful, IsPermitted}
use Rattle.run_laws.specs.Serial.{IsInPart}
use Rattle.run_laws.specs.Visible.{DecidesAt}
use Rattle.run_words.proofs.AttemptLemmas.{serve_was_served}
use Rattle.run_words.specs.Happened.{Happened, IsPlace}
use Rattle.run_words.specs.History.{History, Item, Made}
use Rattle.run_words.specs.Ranges.{layout_of}
use Rattle.run_words.specs.Relations.{WasServed}
use Rattle.run_words.specs.Serving.{ServedRead, serves}
use Rattle.run_words.specs.Setup.{Setup}
use Rattle.run_words.specs.Transactions.{last_attempt}
use Rattle.serial_runs.proofs.Heard.{IsGood, was_good}
use Rattle.serial_runs.proofs.Numbers.{some_same}
use Rattle.serial_runs.proofs.Owners.{ack_owned, attempt_owned, greatest_owned}
use Rattle.serial_runs.proofs.Replays.{held_below}
use Rattle.serial_runs.proofs.Serials.{holds_below}
use Rattle.serial_runs.proofs.Since.{above_since}

-- an attempt that decides at a timestamp owns it
abbrev IsOwner : AttemptId → Ts → Type 0
IsOwner a ts = (ts.owner ≡ a.0) × (1 ≤ a.0)

owner_at : (setup : Setup) (t : TxnId) (a : AttemptId) (ts : Ts) (x : Item) (g : History) → DecidesAt t a ts x g → IsPermitted setup g x → IsLawful setup g → IsOwner a ts
owner_at setup t a ts (Made (entry.Append j index (log.State b (states.Committed c)))) g e p l = (
  sym (ap (λ (u : Ts). u.owner) e.2) ∙ (ap (λ (u : Ts). u.owner) p.records.by.at_is
      ∙ (greatest_owned setup g l b p.records.by.attempt p.records.by.is_attempt ∙ ap (λ (y : AttemptId). y.0) e.0)),
  subst (λ (y : AttemptId). 1 ≤ y.0) e.0 (attempt_owned setup g l b p.records.by.attempt p.records.by.is_attempt).positive,
)
owner_at setup t a ts (Made (entry.Ack u at results)) g e p l =
    let same : p.determined.attempt ≡ a = some_same (sym p.determined.last ∙ (ap (λ (v : TxnId). last_attempt g v) e.0 ∙ e.2)) in (
      sym (ap (λ (v : Ts). v.owner) e.1) ∙ (ack_owned setup g l u p.determined.attempt at p.determined.at ∙ ap (λ (y : AttemptId). y.0) same),
      subst (λ (y : AttemptId). 1 ≤ y.0) same (attempt_owned setup g l p.determined.attempt p.determined.answer.attempt p.determined.answer.is_attempt).positive,
    )
owner_at setup t a ts (Made (entry.Fault u at state)) g e p l =
    let same : p.determined.attempt ≡ a = some_same (sym p.determined.last ∙ (ap (λ (v : TxnId). last_attempt g v) e.0 ∙ e.2)) in (
      sym (ap (λ (v : Ts). v.owner) e.1) ∙ (sym (ap (λ (v : Ts). v.owner) p.determined.at.2)
          ∙ ((attempt_owned setup g l p.determined.attempt p.determined.at.0 p.determined.at.1).owned ∙ ap (λ (y : AttemptId). y.0) same)),
      subst (λ (y : AttemptId). 1 ≤ y.0) same (attempt_owned setup g l p.determined.attempt p.determined.at.0 p.determined.at.1).positive,
    )
owner_at setup t a ts x g e p l = absurd e

-- what was served to it at that is in the replay
pub decided_reads : (setup : Setup) (h : History) (ds : List Decided) (t : TxnId) (a : AttemptId) (ts : Ts) (s : ServedRead) (key value : List ℕ) → KeepsReads setup h → FedReadsAgree
    → HeldReadsAgree → IsSoundSetup setup → IsLawful setup h → AreDecided setup h ds → Happened (DecidesAt t a ts) h → Contains (serves setup h a) s → s.read.at ≡ ts
    → InSpan s.read.span key → Contains (range_pairs (layout_of setup h) (replay_below setup ds ts) s.range) (key, value) ↔ IsRow s.entries s.read key value
decided_reads setup h ds t a ts s key value keeps feds agree sound lawful are decides among at inside =
    let f : (x : Item) × (g : History) × IsPlace (x ∷ g) h × DecidesAt t a ts x g × IsPermitted setup g x × IsLawful setup g = happened_so setup h (DecidesAt t a ts) lawful decides in
    let owner : IsOwner a ts = owner_at setup t a ts f.0 f.1 f.3 f.4 f.5 in
    let was : WasServed setup s h = (serve_was_served setup h a s among).0 in
    let good : IsGood setup s = was_good setup h s lawful was in
    let part : IsInPart setup ts = λ changed q. above_since setup sound changed q ts a owner.0 owner.1 (subst (λ (u : Ts). ¬ IsBelow u changed) at (good.since changed q)) in
    let held : IsHeldBelow setup h s.range ts (replay_below setup ds ts) =
    held_below setup sound h lawful keeps feds (replay_below setup ds ts) ts (holds_below setup sound h lawful keeps feds ds are ts part) s.range good.live in
    agree setup h (replay_below setup ds ts) s key value sound keeps (subst (λ (u : Ts). IsHeldBelow setup h s.range u (replay_below setup ds ts)) (sym at) held) was inside
