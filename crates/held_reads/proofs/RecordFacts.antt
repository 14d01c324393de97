use Rattle.std.proofs.Common.{◌≡◌, ◌∷◌, [], inl, inr, refl, sym, subst, option_map}
use Rattle.std.specs.Prelude.{◌==◌, ⊤, Bool, true, false, cond, Option, Some, None}
use Rattle.journal.specs.declared.entries.JournalEntry.TheVariants as entry
use Rattle.mr_base.specs.Timestamps.{IsBelow}
use Rattle.mr_base.specs.declared.ids.AttemptId.{AttemptId}
use Rattle.mr_base.specs.declared.ids.TxnId.{TxnId}
use Rattle.mr_base.specs.declared.messages.Fate.TheVariants as fates
use Rattle.mr_base.specs.declared.messages.Fate.{Fate}
use Rattle.range_log.specs.declared.entries.Entry.TheVariants as log
use Rattle.range_log.specs.declared.entries.TxnState.TheVariants as states
use Rattle.range_log.specs.declared.entries.TxnState.{TxnState}
use Rattle.range_rules.specs.Records.{Goes, IsAbovePending}
use Rattle.range_rules.specs.Resolves.{Repeats}
use Rattle.held_reads.proofs.Basics.{attempts_same, not_none, some_same}
use Rattle.held_reads.proofs.TsLemmas.{le_below, le_trans, not_itself}
use Rattle.held_reads.specs.KeepsReads.{IsKeptForReads, KeepsReads}
use Rattle.run_words.specs.History.{History, Item, Made}
use Rattle.run_words.specs.Puts.{fate_of, record_of}
use Rattle.run_words.specs.Relations.{Stood, WasFated}
use Rattle.run_words.specs.Setup.{Setup}

-- what was once so of a record, and is so whatever the record became
abbrev pub StillHolds : Fate → Option TxnState → Type 0
StillHolds (fates.Committed c) (Some (states.Committed d)) = c ≡ d
StillHolds fates.Aborted (Some (states.Aborted by)) = ⊤
StillHolds (fates.Pushed y) (Some (states.Pending z)) = ¬ IsBelow z y
StillHolds (fates.Pushed y) (Some (states.Committed c)) = IsBelow y c
StillHolds (fates.Pushed y) (Some (states.Aborted by)) = ⊤
StillHolds _ _ = ⊥

-- a commit is above all that the record was pending above
abbrev pub IsFair : Option TxnState → TxnState → Type 0
IsFair old (states.Committed c) = IsAbovePending old c
IsFair old _ = ⊤

pub still_goes : (f : Fate) (old : Option TxnState) (new : TxnState) → StillHolds f old → Goes old new → IsFair old new → StillHolds f (Some new)
still_goes (fates.Committed c) (Some (states.Committed d)) new holds goes fair = absurd goes
still_goes fates.Aborted (Some (states.Aborted by)) new holds goes fair = absurd goes
still_goes (fates.Pushed y) (Some (states.Pending z)) (states.Pending w) holds goes fair = le_trans y z w holds goes
still_goes (fates.Pushed y) (Some (states.Pending z)) (states.Committed c) holds goes fair = le_below y z c holds fair
still_goes (fates.Pushed y) (Some (states.Pending z)) (states.Aborted by) holds goes fair = tt
still_goes (fates.Pushed y) (Some (states.Committed c)) new holds goes fair = absurd goes
still_goes (fates.Pushed y) (Some (states.Aborted by)) new holds goes fair = absurd goes
still_goes _ _ new holds goes fair = absurd holds

pub holds_now : (f : Fate) (r : Option TxnState) → option_map fate_of r ≡ Some f → StillHolds f r
holds_now f None e = absurd (not_none e)
holds_now f (Some (states.Pending ts)) e =
    subst (λ (y : Fate). StillHolds y (Some (states.Pending ts))) (some_same e) (not_itself ts)
holds_now f (Some (states.Committed ts)) e = subst (λ (y : Fate). StillHolds y (Some (states.Committed ts))) (some_same e) refl
holds_now f (Some (states.Aborted by)) e = subst (λ (y : Fate). StillHolds y (Some (states.Aborted by))) (some_same e) tt

-- a property of records that each change keeps
module _ (P : Option TxnState → Type 0) (keeps : (old : Option TxnState) (new : TxnState) → P old → Goes old new → IsFair old new → P (Some new)) where
  picked : (t : Bool) (b a : AttemptId) (old : AttemptId → Option TxnState) (new : TxnState) → t ≡ (b.0 == a.0) → P (old a) → Goes (old b) new → IsFair (old b) new
      → P (cond t (Some new) (old a))
  picked true b a old new e p g f =
      let same : b ≡ a = attempts_same b a (sym e) in
      keeps (old a) new p (subst (λ (y : AttemptId). Goes (old y) new) same g) (subst (λ (y : AttemptId). IsFair (old y) new) same f)
  picked false b a old new e p g f = p

  pub record_keeps : (setup : Setup) (x : Item) (h : History) → IsKeptForReads setup h x → (a : AttemptId) → P (record_of h a) → P (record_of (x ∷ h) a)
  record_keeps setup (Made (entry.Append range index (log.State b (states.Committed c)))) h k a p =
      picked (b.0 == a.0) b a (record_of h) (states.Committed c) refl p k.records.goes k.records.by.changes.above
  record_keeps setup (Made (entry.Append range index (log.State b (states.Pending c)))) h k a p =
      picked (b.0 == a.0) b a (record_of h) (states.Pending c) refl p k.records.goes tt
  record_keeps setup (Made (entry.Append range index (log.State b (states.Aborted c)))) h k a p =
      picked (b.0 == a.0) b a (record_of h) (states.Aborted c) refl p k.records.goes tt
  record_keeps setup x h k a p = p

-- what holds of a record goes on to hold
pub still_holds : (setup : Setup) (x : Item) (h : History) → IsKeptForReads setup h x → (f : Fate) (a : AttemptId) → StillHolds f (record_of h a) → StillHolds f (record_of (x ∷ h) a)
still_holds setup x h k f a p = record_keeps (StillHolds f) (still_goes f) setup x h k a p

-- what stood of a record holds of it
pub stood_holds : (setup : Setup) (h : History) → KeepsReads setup h → (t : TxnId) (b : AttemptId) (f : Fate) → Stood t b f h → StillHolds f (record_of h b)
stood_holds setup [] k t b f s = absurd s
stood_holds setup (x ∷ h) k t b f (inl s) = holds_now f (record_of (x ∷ h) b) s.1
stood_holds setup (x ∷ h) k t b f (inr s) = still_holds setup x h k.0 f b (stood_holds setup h k.1 t b f s)

-- what was learned of a record holds of it
pub fated_holds : (setup : Setup) (h : History) → KeepsReads setup h → (a b : AttemptId) (f : Fate) → WasFated a b f h → StillHolds f (record_of h b)
fated_holds setup [] k a b f w = absurd w
fated_holds setup (Made (entry.Fated c o g) ∷ h) k a b f (inl w) =
    subst (λ (y : AttemptId). StillHolds f (record_of h y)) w.1
    (subst (λ (y : Fate). StillHolds y (record_of h o)) w.2 (stood_holds setup h k.1 k.0.records.txn o g k.0.records.stood))
fated_holds setup (x ∷ h) k a b f (inl w) = absurd w
fated_holds setup (x ∷ h) k a b f (inr w) = still_holds setup x h k.0 f b (fated_holds setup h k.1 a b f w)

-- a decided record is repeated for good
repeats_goes : (f : Fate) (old : Option TxnState) (new : TxnState) → Repeats old f → Goes old new → IsFair old new → Repeats (Some new) f
repeats_goes f (Some (states.Committed d)) new holds goes fair = absurd goes
repeats_goes f (Some (states.Aborted d)) new holds goes fair = absurd goes
repeats_goes f (Some (states.Pending d)) new holds goes fair = absurd holds
repeats_goes f None new holds goes fair = absurd holds

pub still_repeats : (setup : Setup) (x : Item) (h : History) → IsKeptForReads setup h x → (f : Fate) (a : AttemptId) → Repeats (record_of h a) f → Repeats (record_of (x ∷ h) a) f
still_repeats setup x h k f a p = record_keeps (λ r. Repeats r f) (repeats_goes f) setup x h k a p
