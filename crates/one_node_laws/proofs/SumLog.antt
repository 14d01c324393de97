use Rattle.std.proofs.Common.{◌≡◌, ℕ, List, ◌∷◌, inl, inr, ⊎_elim, sym, subst}
use Rattle.std.specs.Prelude.{Option}
use Rattle.mr_base.specs.declared.ids.AttemptId.{AttemptId}
use Rattle.mr_base.specs.declared.ids.RangeId.{RangeId}
use Rattle.mr_base.specs.declared.ids.TxnId.{TxnId}
use Rattle.mr_base.specs.declared.messages.Fate.{Fate}
use Rattle.mr_base.specs.declared.messages.Fate.TheVariants as fates
use Rattle.mr_base.specs.declared.timestamps.Ts.{Ts}
use Rattle.range_log.specs.Facts.{HasRecord}
use Rattle.range_log.specs.declared.entries.Entry.TheVariants as log
use Rattle.range_log.specs.declared.entries.TxnState.TheVariants as records
use Rattle.range_log.specs.declared.entries.Lease.{Lease}
use Rattle.one_node_laws.proofs.Core.{core_iff}
use Rattle.one_node_laws.proofs.CoreLog.{core_lease, core_put, core_resolve}
use Rattle.one_node_laws.proofs.Sum.{Current, IsDecidedNow, Sum}
use Rattle.one_node_laws.proofs.SumSteps.{right}
use Rattle.one_node_laws.specs.Lawful.{IsPermitted}
use Rattle.one_node_laws.specs.LinesRun.{LinesRun}
use Rattle.one_node_laws.specs.Words.{Beginning, log_of, the_range}
use Rattle.journal.specs.declared.entries.JournalEntry.{JournalEntry}
use Rattle.journal.specs.declared.entries.JournalEntry.TheVariants as entry
use Rattle.journal.specs.declared.entries.Why.{Why}

-- a first lease
pub sum_lease : (s : LinesRun) (journal : List JournalEntry) (index : ℕ) (lease : Lease) → Sum s journal → Sum s (entry.Append the_range index (log.Lease lease) ∷ journal)
sum_lease s journal index lease sum =
    record {
      core = core_iff _ _ _ _ (λ d h. inr h) (λ d h. right h) (core_lease _ _ _ lease sum.core);
      acked_past = sum.acked_past;
      faulted_past = sum.faulted_past;
      answers = sum.answers;
      faults = sum.faults;
      served_past = sum.served_past;
      held = sum.held;
      served_by = sum.served_by;
      no_spans = sum.no_spans;
      recorded_by = sum.recorded_by;
      current = λ b e.
          let cur : Current s journal sum.core.decided b = sum.current b e in
          record { attempt = cur.attempt; start = cur.start; below = cur.below; commits = cur.commits; acks = cur.acks; faults = cur.faults; agree = cur.agree; at = cur.at; under = cur.under; some = cur.some };
    }

-- a put
pub sum_put : (s : LinesRun) (journal : List JournalEntry) (index : ℕ) (a : AttemptId) (start : Ts) (anchor : RangeId) (ts : Ts) (key : List ℕ) (value : Option (List ℕ))
    → IsPermitted s journal (entry.Append the_range index (log.Put a start anchor ts key value)) → Sum s journal → Sum s (entry.Append the_range index (log.Put a start anchor ts key value) ∷ journal)
sum_put s journal index a start anchor ts key value q sum =
    record {
      core = core_iff _ _ _ _ (λ d h. inr h) (λ d h. right h) (core_put _ _ _ sum.core a start anchor ts key value q.laid.alone q.laid.first q.laid.undecided);
      acked_past = sum.acked_past;
      faulted_past = sum.faulted_past;
      answers = sum.answers;
      faults = sum.faults;
      served_past = sum.served_past;
      held = sum.held;
      served_by = sum.served_by;
      no_spans = sum.no_spans;
      recorded_by = sum.recorded_by;
      current = λ b e.
          let cur : Current s journal sum.core.decided b = sum.current b e in
          record { attempt = cur.attempt; start = cur.start; below = cur.below; commits = cur.commits; acks = cur.acks; faults = cur.faults; agree = cur.agree; at = cur.at; under = cur.under; some = cur.some };
    }

same_fate : {c d : Ts} → fates.Committed c ≡ fates.Committed d → c ≡ d
same_fate e = cc

-- a resolve
resolve_by : (s : LinesRun) (journal : List JournalEntry) (index : ℕ) (a : AttemptId) (key : List ℕ) (ts : Ts)
    → IsPermitted s journal (entry.Append the_range index (log.Resolve a key (fates.Committed ts))) → Sum s journal → Sum s (entry.Append the_range index (log.Resolve a key (fates.Committed ts)) ∷ journal)
resolve_by s journal index a key ts q sum =
    record {
      core = core_iff _ _ _ _ (λ d h. inr h) (λ d h. right h)
          (core_resolve _ _ _ sum.core a key ts (subst (λ (t : Ts). HasRecord a (records.Committed t) (log_of the_range journal)) (sym (same_fate q.records.fate_is)) q.records.decided) q.records.intent q.records.stands q.records.own);
      acked_past = sum.acked_past;
      faulted_past = sum.faulted_past;
      answers = sum.answers;
      faults = sum.faults;
      served_past = sum.served_past;
      held = sum.held;
      served_by = sum.served_by;
      no_spans = sum.no_spans;
      recorded_by = sum.recorded_by;
      current = λ b e.
          let cur : Current s journal sum.core.decided b = sum.current b e in
          record { attempt = cur.attempt; start = cur.start; below = cur.below; commits = cur.commits; acks = cur.acks; faults = cur.faults; agree = cur.agree; at = cur.at; under = cur.under; some = cur.some };
    }

pub sum_resolve : (s : LinesRun) (journal : List JournalEntry) (index : ℕ) (a : AttemptId) (key : List ℕ) (fate : Fate)
    → IsPermitted s journal (entry.Append the_range index (log.Resolve a key fate)) → Sum s journal → Sum s (entry.Append the_range index (log.Resolve a key fate) ∷ journal)
sum_resolve s journal index a key fate q sum =
    subst (λ (f : Fate). Sum s (entry.Append the_range index (log.Resolve a key f) ∷ journal)) (sym q.records.fate_is)
    (resolve_by s journal index a key q.records.ts (subst (λ (f : Fate). IsPermitted s journal (entry.Append the_range index (log.Resolve a key f))) q.records.fate_is q) sum)

-- a refusal
later_decided : (journal : List JournalEntry) (b : Beginning) (t : TxnId) (why : Why) → IsDecidedNow journal b → IsDecidedNow (entry.Refuse t why ∷ journal) b
later_decided journal b t why (inl h) = inl h
later_decided journal b t why (inr h) = inr (inr h)

pub sum_refuse : (s : LinesRun) (journal : List JournalEntry) (t : TxnId) (why : Why) → Sum s journal → Sum s (entry.Refuse t why ∷ journal)
sum_refuse s journal t why sum =
    record {
      core = core_iff _ _ _ _ (λ d h. inr h) (λ d h. right h) sum.core;
      acked_past = sum.acked_past;
      faulted_past = sum.faulted_past;
      answers = sum.answers;
      faults = sum.faults;
      served_past = sum.served_past;
      held = sum.held;
      served_by = sum.served_by;
      no_spans = sum.no_spans;
      recorded_by = sum.recorded_by;
      current = λ b e.
          let cur : Current s journal sum.core.decided b = sum.current b e in
          record {
            attempt = cur.attempt;
            start = cur.start;
            below = λ d h. ⊎_elim (λ p. inl p) (λ p. inr (later_decided journal b t why p)) (cur.below d h);
            commits = cur.commits;
            acks = λ x h. ⊎_elim (λ p. inl p) (λ p. inr (inr p)) (cur.acks x h);
            faults = λ x h. ⊎_elim (λ p. inl p) (λ p. inr (inr p)) (cur.faults x h);
            agree = cur.agree;
            at = cur.at;
            under = cur.under;
            some = cur.some;
          };
    }
