use Rattle.std.proofs.Common.{◌≡◌, ℕ, List, ◌∷◌, ◌≤◌, inl, inr, ⊎_elim, refl, sym, ap, ap₂, ◌∙◌, subst, arith}
use Rattle.std.specs.Prelude.{◌⊎◌, Option, Result, Err}
use Rattle.mr_base.specs.Timestamps.{IsBelow}
use Rattle.mr_base.specs.declared.ids.AttemptId.{AttemptId}
use Rattle.mr_base.specs.declared.ids.TxnId.{TxnId}
use Rattle.mr_base.specs.declared.states.SqlState.{SqlState}
use Rattle.mr_base.specs.declared.timestamps.Reading.{Reading}
use Rattle.mr_base.specs.declared.timestamps.Ts.{Ts}
use Rattle.mvcc_range.specs.Answer.{IsRow}
use Rattle.range_log.specs.Facts.{HasRecord}
use Rattle.range_log.specs.declared.entries.Entry.TheVariants as log
use Rattle.range_log.specs.declared.entries.TxnState.{TxnState}
use Rattle.range_log.specs.declared.entries.TxnState.TheVariants as records
use Rattle.region_sql.specs.declared.one_column_forms.OneColumnStatement.{OneColumnStatement}
use Rattle.row_locality.specs.OneColumnDatabases.{Database, IsValid}
use Rattle.one_node_laws.proofs.CommitLemmas.{Commits, answers, commits, unchanged}
use Rattle.one_node_laws.proofs.Core.{core_iff}
use Rattle.one_node_laws.proofs.CoreDecide.{core_commit, core_same}
use Rattle.one_node_laws.proofs.OrderLemmas.{IsPast, all_are_below, all_below, head_not_below, not_both, not_itself}
use Rattle.one_node_laws.proofs.StatementLemmas.{same_beginning, same_statement}
use Rattle.one_node_laws.proofs.Sum.{Current, IsDecidedNow, Sum}
use Rattle.one_node_laws.proofs.SumSteps.{some_same}
use Rattle.one_node_laws.specs.Decided.{Decided, AreBelow, WasDecided, after, replay, those_below}
use Rattle.one_node_laws.specs.Determined.{Agrees, GivesFault, GivesPuts, GivesResults, IsDetermined}
use Rattle.one_node_laws.specs.LinesRun.{LinesRun}
use Rattle.one_node_laws.specs.Serial.{Acknowledged, Answers, Faulted, HasFaulted, WasAcknowledged}
use Rattle.one_node_laws.specs.Steps.{IsStepOf}
use Rattle.one_node_laws.specs.Words.{Beginning, HasPut, ServedRead, WasServed, attempts_of, greatest_start, log_of, the_range}
use Rattle.journal.specs.declared.entries.JournalEntry.{JournalEntry}
use Rattle.journal.specs.declared.entries.JournalEntry.TheVariants as entry
use Rattle.mr_base.specs.declared.results.StatementResult.{StatementResult}
use Rattle.sql_eval.specs.OneColumnAgreement.{AgreesOn}
use Rattle.sql_eval.specs.OneColumnExecution.{Executed, exec}

module _ (s : LinesRun) (journal : List JournalEntry) (sum : Sum s journal) (b : Beginning) (st : OneColumnStatement) (step : IsStepOf s journal b st) where
  cur : Current s journal sum.core.decided b
  cur = sum.current b step.begun

  -- what was decided before is below the start, where this transaction isn't decided yet
  all_under : ((c : Ts) → ¬ HasRecord b.attempt (records.Committed c) (log_of the_range journal)) → AreBelow b.start sum.core.decided
  all_under undecided =
      all_are_below b.start sum.core.decided
      (λ d h. ⊎_elim (λ p. p) (λ (p : IsDecidedNow journal b). ⊎_elim (λ (x : (c : Ts) × HasRecord b.attempt (records.Committed c) (log_of the_range journal)). absurd (undecided x.0 x.1)) (λ x. absurd (step.open_yet x)) p) (cur.below d h))

  pub is_past : IsPast (greatest_start journal) b.start
  is_past = subst (λ (y : Reading). IsPast y b.start) (sym cur.start) (inr (refl, omega arith))

  -- the replay below the start is valid and agrees with what was served
  pub is_valid : IsValid (replay (those_below b.start sum.core.decided))
  is_valid = sum.core.valid b.start

  pub agrees : Agrees (replay (those_below b.start sum.core.decided)) b.attempt journal
  agrees x w own = cur.agree x w own

  -- what it was served was at its start
  pub is_start : (ts : Ts) (P : Database → Result Executed SqlState → Type 0) → IsDetermined journal b.attempt st ts P → ts ≡ b.start
  is_start ts P det =
      let f : (x : ServedRead) × WasServed the_range x journal × (x.read.attempt ≡ b.attempt) = cur.some _ det.nothing in
      sym (det.at f.0 f.1 f.2) ∙ cur.at f.0 f.1 f.2

  gives : (ts : Ts) (P : Database → Result Executed SqlState → Type 0) → IsDetermined journal b.attempt st ts P
      → P (replay (those_below b.start sum.core.decided)) (exec st (replay (those_below b.start sum.core.decided)))
  gives ts P det = det.every (replay (those_below b.start sum.core.decided)) is_valid agrees

  -- the acknowledgements and faults before are below it
  acks_under : (x : Acknowledged) → WasAcknowledged s x journal → IsBelow x.ts b.start
  acks_under x h = ⊎_elim (λ p. p) (λ p. absurd (step.open_yet p)) (cur.acks x h)

  faults_under : (x : Faulted) → HasFaulted s x journal → IsBelow x.ts b.start
  faults_under x h = ⊎_elim (λ p. p) (λ p. absurd (step.open_yet p)) (cur.faults x h)

  abbrev the_decision : Decided
  the_decision = record { ts = b.start; statement = st }

  same_below : (ts : Ts) → ¬ IsBelow b.start ts → those_below ts (the_decision ∷ sum.core.decided) ≡ those_below ts sum.core.decided
  same_below ts h = head_not_below ts the_decision sum.core.decided h

  -- the answers before are those of the longer replay
  old_answers : (x : Acknowledged) → WasAcknowledged s x journal → Answers x.statement x.results (exec x.statement (replay (those_below x.ts (the_decision ∷ sum.core.decided))))
  old_answers x h =
      subst (λ (y : List Decided). Answers x.statement x.results (exec x.statement (replay y))) (sym (same_below x.ts (not_both x.ts b.start (acks_under x h)))) (sum.answers x h)

  old_faults : (x : Faulted) → HasFaulted s x journal → exec x.statement (replay (those_below x.ts (the_decision ∷ sum.core.decided))) ≡ Err x.state
  old_faults x h =
      subst (λ (y : List Decided). exec x.statement (replay y) ≡ Err x.state) (sym (same_below x.ts (not_both x.ts b.start (faults_under x h)))) (sum.faults x h)

  agree_still : (x : ServedRead) → WasServed the_range x journal → x.read.attempt ≡ b.attempt → AgreesOn (replay (those_below b.start (the_decision ∷ sum.core.decided))) x.read.span (IsRow x.entries x.read)
  agree_still x w own = subst (λ (y : List Decided). AgreesOn (replay y) x.read.span (IsRow x.entries x.read)) (sym (same_below b.start (not_itself b.start))) (cur.agree x w own)

  not_under : (x : ServedRead) → WasServed the_range x journal → ¬ IsBelow b.start x.read.at
  not_under x w late = ⊎_elim (λ p. not_both x.read.at b.start p late) (λ (p : x.read.at ≡ b.start). not_itself b.start (subst (λ (y : Ts). IsBelow b.start y) p late)) (cur.under x w)

  held_still : (x : ServedRead) → WasServed the_range x journal → AgreesOn (replay (those_below x.read.at (the_decision ∷ sum.core.decided))) x.read.span (IsRow x.entries x.read)
  held_still x w = subst (λ (y : List Decided). AgreesOn (replay y) x.read.span (IsRow x.entries x.read)) (sym (same_below x.read.at (not_under x w))) (sum.held x w)

  same_decision : (x : Decided) → st ≡ x.statement → x.ts ≡ b.start → the_decision ≡ x
  same_decision x e f = ap₂ (λ (t : Ts) (y : OneColumnStatement). record { ts = t; statement = y }) (sym f) e

  whole : ((c : Ts) → ¬ HasRecord b.attempt (records.Committed c) (log_of the_range journal)) → replay (those_below b.start sum.core.decided) ≡ replay sum.core.decided
  whole undecided = ap replay (all_below b.start sum.core.decided (all_under undecided))

  -- a fault
  module _ (t : TxnId) (txn : b.txn ≡ t) (state : SqlState) (det : IsDetermined journal b.attempt st b.start (GivesFault state)) (undecided : (c : Ts) → ¬ HasRecord b.attempt (records.Committed c) (log_of the_range journal)) where
    is_fault : exec st (replay sum.core.decided) ≡ Err state
    is_fault = subst (λ (y : Database). exec st y ≡ Err state) (whole undecided) (gives b.start (GivesFault state) det)

    new_fault : (x : Faulted) → ((g : Beginning) × IsStepOf s journal g x.statement × (g.txn ≡ t) × (x.ts ≡ b.start) × (x.state ≡ state))
        → exec x.statement (replay (those_below x.ts (the_decision ∷ sum.core.decided))) ≡ Err x.state
    new_fault x (g, other, e, f, z) =
        let one : st ≡ x.statement = same_statement s journal b st x.statement step (subst (λ (y : Beginning). IsStepOf s journal y x.statement) (sym (same_beginning s journal b g st x.statement step other)) other) in
        subst (λ (y : Ts). exec x.statement (replay (those_below y (the_decision ∷ sum.core.decided))) ≡ Err x.state) (sym f)
        (subst (λ (y : List Decided). exec x.statement (replay y) ≡ Err x.state) (sym (same_below b.start (not_itself b.start)))
        (subst (λ (y : OneColumnStatement). exec y (replay (those_below b.start sum.core.decided)) ≡ Err x.state) one (gives b.start (GivesFault state) det ∙ ap Err (sym z))))

    to_fault : (x : Decided) → ((the_decision ≡ x) ⊎ WasDecided s x journal) → WasDecided s x (entry.Fault t b.start state ∷ journal)
    to_fault x (inl e) = inl (b, subst (λ (y : Decided). IsStepOf s journal b y.statement) e step, txn, ap (λ (y : Decided). y.ts) (sym e))
    to_fault x (inr h) = inr h

    from_fault : (x : Decided) → WasDecided s x (entry.Fault t b.start state ∷ journal) → (the_decision ≡ x) ⊎ WasDecided s x journal
    from_fault x (inl (g, other, e, f)) =
        inl (same_decision x (same_statement s journal b st x.statement step (subst (λ (y : Beginning). IsStepOf s journal y x.statement) (sym (same_beginning s journal b g st x.statement step other)) other)) f)
    from_fault x (inr h) = inr h

    pub sum_fault_at : Sum s (entry.Fault t b.start state ∷ journal)
    sum_fault_at =
        record {
          core = core_iff _ _ _ _ to_fault from_fault (core_same _ _ _ sum.core the_decision (all_under undecided) is_past (ap (λ (r : Result Executed SqlState). after r (replay sum.core.decided)) is_fault));
          acked_past = sum.acked_past;
          faulted_past = λ x h. ⊎_elim (λ (p : (g : Beginning) × IsStepOf s journal g x.statement × (g.txn ≡ t) × (x.ts ≡ b.start) × (x.state ≡ state)). subst (λ (y : Ts). IsPast (greatest_start journal) y) (sym p.3) is_past) (λ p. sum.faulted_past x p) h;
          answers = old_answers;
          faults = λ x h. ⊎_elim (λ p. new_fault x p) (λ p. old_faults x p) h;
          served_past = sum.served_past;
          held = held_still;
          served_by = sum.served_by;
          no_spans = sum.no_spans;
          recorded_by = sum.recorded_by;
          current = λ g e. subst (λ (y : Beginning). Current s (entry.Fault t b.start state ∷ journal) (the_decision ∷ sum.core.decided) y) (some_same (sym step.begun ∙ e))
              (record {
                attempt = cur.attempt;
                start = cur.start;
                below = λ d h. inr (inr (inl txn));
                commits = cur.commits;
                acks = λ x h. inr (inl txn);
                faults = λ x h. inr (inl txn);
                agree = agree_still;
                at = cur.at;
                under = cur.under;
                some = cur.some;
              });
        }

  -- an acknowledgement
  module _ (t : TxnId) (txn : b.txn ≡ t) (results : List StatementResult) (det : IsDetermined journal b.attempt st b.start (GivesResults st results b.attempt journal)) where
    new_answer : (ds : List Decided) → those_below b.start ds ≡ those_below b.start sum.core.decided → (x : Acknowledged) → ((g : Beginning) × IsStepOf s journal g x.statement × (g.txn ≡ t) × (x.ts ≡ b.start) × (x.results ≡ results))
        → Answers x.statement x.results (exec x.statement (replay (those_below x.ts ds)))
    new_answer ds same x (g, other, e, f, z) =
        let one : st ≡ x.statement = same_statement s journal b st x.statement step (subst (λ (y : Beginning). IsStepOf s journal y x.statement) (sym (same_beginning s journal b g st x.statement step other)) other) in
        subst (λ (y : Ts). Answers x.statement x.results (exec x.statement (replay (those_below y ds)))) (sym f)
        (subst (λ (y : List Decided). Answers x.statement x.results (exec x.statement (replay y))) (sym same)
        (subst (λ (y : List StatementResult). Answers x.statement y (exec x.statement (replay (those_below b.start sum.core.decided)))) (sym z)
        (subst (λ (y : OneColumnStatement). Answers y results (exec y (replay (those_below b.start sum.core.decided)))) one
        (answers st results b.attempt journal (replay (those_below b.start sum.core.decided)) (exec st (replay (those_below b.start sum.core.decided))) (gives b.start (GivesResults st results b.attempt journal) det)))))

    acked_past : (x : Acknowledged) → WasAcknowledged s x (entry.Ack t b.start results ∷ journal) → IsPast (greatest_start journal) x.ts
    acked_past x (inl (g, other, e, f, z)) = subst (λ (y : Ts). IsPast (greatest_start journal) y) (sym f) is_past
    acked_past x (inr h) = sum.acked_past x h

    -- of a commit
    no_new : (c : Ts) → HasRecord b.attempt (records.Committed c) (log_of the_range journal) → (x : Decided) → WasDecided s x (entry.Ack t b.start results ∷ journal) → WasDecided s x journal
    no_new c rec x (inl (g, other, e, f, un)) =
        absurd (un c (subst (λ (y : Beginning). HasRecord y.attempt (records.Committed c) (log_of the_range journal)) (same_beginning s journal b g st x.statement step other) rec))
    no_new c rec x (inr h) = h

    pub sum_ack_commit : (c : Ts) → HasRecord b.attempt (records.Committed c) (log_of the_range journal) → Sum s (entry.Ack t b.start results ∷ journal)
    sum_ack_commit c rec =
        record {
          core = core_iff _ _ _ _ (λ d h. inr h) (λ d h. no_new c rec d h) sum.core;
          acked_past = acked_past;
          faulted_past = sum.faulted_past;
          answers = λ x h. ⊎_elim (λ p. new_answer sum.core.decided refl x p) (λ p. sum.answers x p) h;
          faults = sum.faults;
          served_past = sum.served_past;
          held = sum.held;
          served_by = sum.served_by;
          no_spans = sum.no_spans;
          recorded_by = sum.recorded_by;
          current = λ g e. subst (λ (y : Beginning). Current s (entry.Ack t b.start results ∷ journal) sum.core.decided y) (some_same (sym step.begun ∙ e))
              (record {
                attempt = cur.attempt;
                start = cur.start;
                below = λ d h. inr (inr (inl txn));
                commits = cur.commits;
                acks = λ x h. inr (inl txn);
                faults = λ x h. inr (inl txn);
                agree = cur.agree;
                at = cur.at;
                under = cur.under;
                some = cur.some;
              });
        }

    -- of an attempt that put nothing
    module _ (none : (key : List ℕ) (value : Option (List ℕ)) (at : Ts) → ¬ HasPut b.attempt key value at (log_of the_range journal)) (undecided : (c : Ts) → ¬ HasRecord b.attempt (records.Committed c) (log_of the_range journal)) where
      is_unchanged : after (exec st (replay sum.core.decided)) (replay sum.core.decided) ≡ replay sum.core.decided
      is_unchanged =
          subst (λ (y : Database). after (exec st y) y ≡ y) (whole undecided)
          (unchanged step.text st step.list results b.attempt journal (replay (those_below b.start sum.core.decided)) is_valid none (gives b.start (GivesResults st results b.attempt journal) det))

      to_ack : (x : Decided) → ((the_decision ≡ x) ⊎ WasDecided s x journal) → WasDecided s x (entry.Ack t b.start results ∷ journal)
      to_ack x (inl e) = inl (b, subst (λ (y : Decided). IsStepOf s journal b y.statement) e step, txn, ap (λ (y : Decided). y.ts) (sym e), undecided)
      to_ack x (inr h) = inr h

      from_ack : (x : Decided) → WasDecided s x (entry.Ack t b.start results ∷ journal) → (the_decision ≡ x) ⊎ WasDecided s x journal
      from_ack x (inl (g, other, e, f, un)) =
          inl (same_decision x (same_statement s journal b st x.statement step (subst (λ (y : Beginning). IsStepOf s journal y x.statement) (sym (same_beginning s journal b g st x.statement step other)) other)) f)
      from_ack x (inr h) = inr h

      pub sum_ack_reads : Sum s (entry.Ack t b.start results ∷ journal)
      sum_ack_reads =
          record {
            core = core_iff _ _ _ _ to_ack from_ack (core_same _ _ _ sum.core the_decision (all_under undecided) is_past is_unchanged);
            acked_past = acked_past;
            faulted_past = sum.faulted_past;
            answers = λ x h. ⊎_elim (λ p. new_answer (the_decision ∷ sum.core.decided) (same_below b.start (not_itself b.start)) x p) (λ p. old_answers x p) h;
            faults = old_faults;
            served_past = sum.served_past;
            held = held_still;
            served_by = sum.served_by;
            no_spans = sum.no_spans;
            recorded_by = sum.recorded_by;
            current = λ g e. subst (λ (y : Beginning). Current s (entry.Ack t b.start results ∷ journal) (the_decision ∷ sum.core.decided) y) (some_same (sym step.begun ∙ e))
                (record {
                  attempt = cur.attempt;
                  start = cur.start;
                  below = λ d h. inr (inr (inl txn));
                  commits = cur.commits;
                  acks = λ x h. inr (inl txn);
                  faults = λ x h. inr (inl txn);
                  agree = agree_still;
                  at = cur.at;
                  under = cur.under;
                  some = cur.some;
                });
          }

  -- a commit
  module _ (index : ℕ) (det : IsDetermined journal b.attempt st b.start (GivesPuts b.attempt journal)) (fresh : (state : TxnState) → ¬ HasRecord b.attempt state (log_of the_range journal))
      (low : (key : List ℕ) (value : Option (List ℕ)) (p : Ts) → HasPut b.attempt key value p (log_of the_range journal) → ¬ IsBelow b.start p) where
    undecided_yet : (c : Ts) → ¬ HasRecord b.attempt (records.Committed c) (log_of the_range journal)
    undecided_yet c h = fresh (records.Committed c) h

    its_puts : Commits b.attempt (log_of the_range journal) (replay sum.core.decided) (after (exec st (replay sum.core.decided)) (replay sum.core.decided))
    its_puts =
        subst (λ (y : Database). Commits b.attempt (log_of the_range journal) y (after (exec st y) y)) (whole undecided_yet)
        (commits step.text st step.list b.attempt journal (replay (those_below b.start sum.core.decided)) is_valid (gives b.start (GivesPuts b.attempt journal) det))

    abbrev commit_entry : JournalEntry
    commit_entry = entry.Append the_range index (log.State b.attempt (records.Committed b.start))

    to_commit : (x : Decided) → ((the_decision ≡ x) ⊎ WasDecided s x journal) → WasDecided s x (commit_entry ∷ journal)
    to_commit x (inl e) = inl (b, subst (λ (y : Decided). IsStepOf s journal b y.statement) e step, refl, ap (λ (y : Decided). y.ts) (sym e))
    to_commit x (inr h) = inr h

    from_commit : (x : Decided) → WasDecided s x (commit_entry ∷ journal) → (the_decision ≡ x) ⊎ WasDecided s x journal
    from_commit x (inl (g, other, e, f)) =
        inl (same_decision x (same_statement s journal b st x.statement step (subst (λ (y : Beginning). IsStepOf s journal y x.statement) (sym (same_beginning s journal b g st x.statement step other)) other)) f)
    from_commit x (inr h) = inr h

    same_ts : {c e : Ts} → records.Committed c ≡ records.Committed e → c ≡ e
    same_ts q = cc

    recorded_now : (c : Ts) → HasRecord b.attempt (records.Committed c) (log_of the_range (commit_entry ∷ journal)) → c ≡ b.start
    recorded_now c (inl (e, f)) = sym (same_ts f)
    recorded_now c (inr (n, h)) = absurd (n refl)

    recorded_by : (a : AttemptId) (c : Ts) → HasRecord a (records.Committed c) (log_of the_range (commit_entry ∷ journal)) → a.0 ≤ attempts_of journal
    recorded_by a c (inl (e, f)) = omega (arith, cur.attempt, ap (λ (y : AttemptId). y.0) e)
    recorded_by a c (inr (n, h)) = sum.recorded_by a c h

    pub sum_commit_at : Sum s (commit_entry ∷ journal)
    sum_commit_at =
        record {
          core = core_iff _ _ _ _ to_commit from_commit
              (core_commit _ _ _ sum.core the_decision (all_under undecided_yet) is_past b.attempt fresh low its_puts.new_held its_puts.held_new its_puts.still its_puts.apart its_puts.well);
          acked_past = sum.acked_past;
          faulted_past = sum.faulted_past;
          answers = old_answers;
          faults = old_faults;
          served_past = sum.served_past;
          held = held_still;
          served_by = sum.served_by;
          no_spans = sum.no_spans;
          recorded_by = recorded_by;
          current = λ g e. subst (λ (y : Beginning). Current s (commit_entry ∷ journal) (the_decision ∷ sum.core.decided) y) (some_same (sym step.begun ∙ e))
              (record {
                attempt = cur.attempt;
                start = cur.start;
                below = λ d h. inr (inl (b.start, inl (refl, refl)));
                commits = recorded_now;
                acks = λ x h. inl (acks_under x h);
                faults = λ x h. inl (faults_under x h);
                agree = agree_still;
                at = cur.at;
                under = cur.under;
                some = cur.some;
              });
        }
