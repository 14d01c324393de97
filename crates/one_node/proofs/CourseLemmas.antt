use Rattle.std.proofs.Common.{◌≡◌, ℕ, ℤ, List, [], ◌∷◌, ◌+◌, inl, inr, refl, sym, ap, ◌∙◌, subst, arith, length}
use Rattle.std.specs.Prelude.{map, Option, Some, Result, Err}
use Rattle.closed_ts.specs.Serving.{ServesByLease}
use Rattle.mr_base.specs.Timestamps.{IsBelow}
use Rattle.mr_base.specs.declared.messages.Fate.TheVariants as fates
use Rattle.mr_base.specs.declared.spans.Span.{Span}
use Rattle.mr_base.specs.declared.states.SqlState.{SqlState}
use Rattle.mr_base.specs.declared.states.SqlState.TheVariants as states
use Rattle.mr_base.specs.declared.timestamps.Reading.{Reading}
use Rattle.mr_base.specs.declared.timestamps.Ts.{Ts}
use Rattle.range_log.specs.Facts.{lease_of}
use Rattle.range_log.specs.declared.entries.Entry.TheVariants as log
use Rattle.range_log.specs.declared.entries.Lease.{Lease}
use Rattle.range_log.specs.declared.entries.TxnState.TheVariants as records
use Rattle.region_sql.specs.declared.one_column_forms.OneColumnStatement.{OneColumnStatement}
use Rattle.row_locality.specs.OneColumnDatabases.{Database, IsValid, row_with}
use Rattle.row_locality.specs.OneColumnRows.{int_key, int_value}
use Rattle.one_node_laws.specs.Appended.{IsHolder}
use Rattle.one_node_laws.specs.Caused.{Cause}
use Rattle.one_node_laws.specs.Determined.{Agrees, GivesFault, GivesPuts, GivesResults, IsDetermined}
use Rattle.one_node_laws.specs.Laid.{StandsInTheWay}
use Rattle.one_node_laws.specs.Lawful.{IsPermitted}
use Rattle.one_node_laws.specs.LinesRun.{LinesRun, NumberedEvent}
use Rattle.one_node_laws.specs.Served.{MayServe}
use Rattle.one_node_laws.specs.Steps.{IsStepOf}
use Rattle.one_node_laws.specs.Words.{ServedRead, HasPut, log_of, the_node, the_range}
use Rattle.journal.specs.declared.entries.How.{How}
use Rattle.journal.specs.declared.entries.How.TheVariants as how
use Rattle.journal.specs.declared.entries.JournalEntry.{JournalEntry}
use Rattle.journal.specs.declared.entries.JournalEntry.TheVariants as entry
use Rattle.mr_base.specs.declared.results.Verb.TheVariants as verbs
use Rattle.mr_base.specs.Spans.{IsInsideOne}
use Rattle.sql_eval.specs.OneColumnNextSpan.{span_of}
use Rattle.one_node.proofs.FactLemmas.{LogFacts, no_spans}
use Rattle.one_node.proofs.JournalLemmas.{served_before}
use Rattle.one_node.proofs.LineLemmas.{TxnFacts, asks_nothing, at_start, beginning_of, log_is, served_journal, step_of, with_txn}
use Rattle.one_node.proofs.ReadLemmas.{below_start, not_before_it, not_itself_ts}
use Rattle.one_node.specs.Bounds.{IsBehind}
use Rattle.one_node.specs.Courses.{IsServable}
use Rattle.one_node.specs.Kept.{nothing_kept}
use Rattle.one_node.specs.Steps.{append_step, begin_step, ack_insert, ack_select, duplicate, no_lease, first_lease}
use Rattle.one_node.specs.declared.range.Range.{Range}
use Rattle.one_node.specs.declared.transaction.Begun.{Begun}
use Rattle.sql_eval.specs.OneColumnExecution.{Executed, exec}

some_same : {l m : Lease} → Some l ≡ Some m → l ≡ m
some_same e = cc

not_below_zero : (p : Ts) → ¬ IsBelow p nothing_kept
not_below_zero p (inl h) = omega (arith, h)
not_below_zero p (inr (e, inl h)) = omega (arith, h)
not_below_zero p (inr (e, inr (f, h))) = omega (arith, h)

module _ (later : List NumberedEvent) (s : LinesRun) (k : Reading) (count line : ℕ) (b : Begun) (st : OneColumnStatement) (text : List ℕ) (range : Range) (journal : List JournalEntry)
    (facts : TxnFacts s k count line b st text range journal) where
  abbrev pub begun_journal : List JournalEntry
  begun_journal = begin_step b ∷ entry.Event line ∷ journal

  -- what was served stands before each entry of a transaction that is served
  abbrev pub with_serve : List JournalEntry
  with_serve = served_journal later s k count line b st text range journal facts

  known_log : LogFacts k count facts.kept.expiration facts.kept.rows b.attempt b.start (log_of the_range journal)
  known_log = log_is later s k count line b st text range journal facts

  -- a transaction that isn't served
  refused_step : IsStepOf (with_txn later s line b text) begun_journal (beginning_of b) st
  refused_step = step_of later s k count line b st text range journal facts begun_journal refl refl facts.fresh

  pub refuse_ok : IsPermitted (with_txn later s line b text) begun_journal (no_lease b)
  refuse_ok =
      record {
        order = (beginning_of b, st, refused_step, refl);
        served = tt;
        appended = tt;
        laid = tt;
        records = tt;
        determined = (beginning_of b, st, refused_step, refl, λ c. known_log.records (records.Committed c));
        waited = tt;
        begun = tt;
      }

  not_served : ¬ IsServable range.lease b → (by : How) → ¬ MayServe by (log_of the_range journal) the_node b.start (Some b.limit)
  not_served no_serve how.Lease (lease, l, may) =
      no_serve (first_lease facts.kept.expiration, facts.kept.lease, subst (λ (y : Lease). ServesByLease y the_node 1 b.start (Some b.limit)) (some_same (sym l ∙ known_log.lease)) may)
  not_served no_serve how.Closure (below, limit) = not_below_zero b.start (subst (λ (t : Ts). IsBelow b.start t) known_log.closed below)

  pub refuse_caused : ¬ IsServable range.lease b → Cause (with_txn later s line b text) begun_journal (no_lease b)
  refuse_caused no_serve =
      record {
        beginning = beginning_of b;
        statement = st;
        step = refused_step;
        txn = refl;
        range_is = refl;
        span = span_of st;
        asked = (refl, subst (λ (y : List Span). ¬ IsInsideOne (span_of st) y) (sym (no_spans k count journal facts.within b.attempt (omega (arith, facts.attempt)))) (λ h. h));
        unserved = not_served no_serve;
      }

  -- an INSERT of an id that is there
  served_step : IsStepOf (with_txn later s line b text) with_serve (beginning_of b) st
  served_step = step_of later s k count line b st text range journal facts with_serve refl refl facts.fresh

  determined : (P : Database → Result Executed SqlState → Type 0) → ((d : Database) → IsValid d → Agrees d b.attempt with_serve → P d (exec st d)) → IsDetermined with_serve b.attempt st b.start P
  determined P every = record { at = at_start later s k count line b st text range journal facts; nothing = asks_nothing later s k count line b st text range journal facts; every = every }

  pub fault_ok : ((d : Database) → IsValid d → Agrees d b.attempt with_serve → exec st d ≡ Err states.S23505) → IsPermitted (with_txn later s line b text) with_serve (duplicate b)
  fault_ok every =
      record {
        order = (beginning_of b, st, served_step, refl);
        served = tt;
        appended = tt;
        laid = tt;
        records = tt;
        determined = (beginning_of b, st, served_step, refl, determined (GivesFault states.S23505) every, refl, λ c. known_log.records (records.Committed c));
        waited = facts.passed;
        begun = tt;
      }

  -- a SELECT
  pub select_ok : (ids : List ℤ) → ((d : Database) → IsValid d → Agrees d b.attempt with_serve → GivesResults st (record { verb = verbs.Select; count = length ids; rows = map row_with ids } ∷ []) b.attempt with_serve d (exec st d))
      → IsPermitted (with_txn later s line b text) with_serve (ack_select b ids)
  select_ok ids every =
      record {
        order = (beginning_of b, st, served_step, refl);
        served = tt;
        appended = tt;
        laid = tt;
        records = tt;
        determined = (
          beginning_of b,
          st,
          served_step,
          refl,
          determined (GivesResults st (record { verb = verbs.Select; count = length ids; rows = map row_with ids } ∷ []) b.attempt with_serve) every,
          inr (refl, known_log.puts, λ c. known_log.records (records.Committed c)),
        );
        waited = facts.passed;
        begun = tt;
      }

  -- an INSERT: its put
  in_the_way : (key : List ℕ) (ts : Ts) → StandsInTheWay with_serve the_range b.attempt key ts → ¬ IsBelow b.start ts
  in_the_way key ts (inl (x, inl (r, q), other, inside, at)) late = absurd (other (ap (λ (y : ServedRead). y.read.attempt) q))
  in_the_way key ts (inl (x, inr w, other, inside, at)) late =
      not_before_it ts b.start (below_start k count ts b.start (subst (λ (t : Ts). IsBehind k count t) at (served_before k count journal facts.within the_range x w).1) facts.ahead) late
  in_the_way key ts (inr (inl (v, h, e, at))) late =
      not_before_it ts b.start (below_start k count ts b.start (subst (λ (t : Ts). IsBehind k count t) at (known_log.versions v h)) facts.ahead) late
  in_the_way key ts (inr (inr (inl e))) late = not_below_zero b.start (subst (λ (t : Ts). IsBelow b.start t) (sym e ∙ known_log.closed) late)
  in_the_way key ts (inr (inr (inr (lease, l, e)))) late =
      not_below_zero b.start (subst (λ (t : Ts). IsBelow b.start t) (sym e ∙ ap (λ (y : Lease). y.low) (some_same (sym l ∙ known_log.lease))) late)

  holder : (before : List JournalEntry) → lease_of (log_of the_range before) ≡ lease_of (log_of the_range journal) → IsHolder before the_range
  holder before e = record { lease = first_lease facts.kept.expiration; last = e ∙ known_log.lease; holder = refl; boot = refl }

  abbrev pub put_step : ℤ → JournalEntry
  put_step m = append_step (range.length + 1) (log.Put b.attempt b.start the_range b.start (int_key m) (Some (int_value m)))

  length_is : range.length ≡ length (log_of the_range journal)
  length_is = facts.kept.length_is ∙ ap length (sym facts.kept.log_is)

  pub put_ok : (m : ℤ) → IsPermitted (with_txn later s line b text) with_serve (put_step m)
  put_ok m =
      record {
        order = (beginning_of b, st, served_step, refl);
        served = tt;
        appended = (refl, ap (λ x. x + 1) length_is, holder with_serve refl);
        laid = record {
          beginning = beginning_of b;
          statement = st;
          step = served_step;
          attempt = refl;
          start_is = refl;
          anchor_is = refl;
          clear = in_the_way (int_key m);
          alone = λ i h. absurd (known_log.intents (int_key m) i h);
          first = known_log.puts (int_key m);
          undecided = known_log.records;
          at = inl (sym known_log.asked);
        };
        records = tt;
        determined = tt;
        waited = tt;
        begun = tt;
      }

  -- its record
  abbrev pub with_put : ℤ → List JournalEntry
  with_put m = put_step m ∷ with_serve

  put_here : (m : ℤ) → IsStepOf (with_txn later s line b text) (with_put m) (beginning_of b) st
  put_here m = step_of later s k count line b st text range journal facts (with_put m) refl refl facts.fresh

  abbrev pub state_step : JournalEntry
  state_step = append_step (range.length + 2) (log.State b.attempt (records.Committed b.start))

  own_puts : (m : ℤ) (key : List ℕ) (value : Option (List ℕ)) (ts : Ts) → HasPut b.attempt key value ts (log_of the_range (with_put m)) → ¬ IsBelow b.start ts
  own_puts m key value ts (inl (a, e, v, at)) late = not_itself_ts b.start (subst (λ (t : Ts). IsBelow b.start t) (sym at) late)
  own_puts m key value ts (inr h) late = known_log.puts key value ts h

  pub state_ok : (m : ℤ) → ((d : Database) → IsValid d → Agrees d b.attempt with_serve → GivesPuts b.attempt (with_put m) d (exec st d)) → IsPermitted (with_txn later s line b text) (with_put m) state_step
  state_ok m every =
      record {
        order = (beginning_of b, st, put_here m, refl);
        served = tt;
        appended = (refl, omega (arith, length_is), holder (with_put m) refl);
        laid = tt;
        records = record { anchor = refl; fresh = known_log.records; puts = own_puts m };
        determined = (beginning_of b, st, put_here m, refl, record { at = at_start later s k count line b st text range journal facts; nothing = asks_nothing later s k count line b st text range journal facts; every = every });
        waited = tt;
        begun = tt;
      }

  -- its resolve
  abbrev pub with_state : ℤ → List JournalEntry
  with_state m = state_step ∷ with_put m

  abbrev pub resolve_step : ℤ → JournalEntry
  resolve_step m = append_step (range.length + 3) (log.Resolve b.attempt (int_key m) (fates.Committed b.start))

  pub resolve_ok : (m : ℤ) → IsPermitted (with_txn later s line b text) (with_state m) (resolve_step m)
  resolve_ok m =
      record {
        order = (beginning_of b, st, step_of later s k count line b st text range journal facts (with_state m) refl refl facts.fresh, refl);
        served = tt;
        appended = (refl, omega (arith, length_is), holder (with_state m) refl);
        laid = tt;
        records = record {
          ts = b.start;
          fate_is = refl;
          decided = inl (refl, refl);
          intent = record { attempt = b.attempt; start = b.start; anchor = the_range; ts = b.start; value = Some (int_value m) };
          stands = inl (refl, refl);
          own = refl;
        };
        determined = tt;
        waited = tt;
        begun = tt;
      }

  -- its acknowledgement
  abbrev pub with_resolve : ℤ → List JournalEntry
  with_resolve m = resolve_step m ∷ with_state m

  pub insert_ok : (m : ℤ) → ((d : Database) → IsValid d → Agrees d b.attempt with_serve → GivesResults st (record { verb = verbs.Insert; count = 1; rows = [] } ∷ []) b.attempt (with_resolve m) d (exec st d))
      → IsPermitted (with_txn later s line b text) (with_resolve m) (ack_insert b b.start)
  insert_ok m every =
      record {
        order = (beginning_of b, st, step_of later s k count line b st text range journal facts (with_resolve m) refl refl facts.fresh, refl);
        served = tt;
        appended = tt;
        laid = tt;
        records = tt;
        determined = (
          beginning_of b,
          st,
          step_of later s k count line b st text range journal facts (with_resolve m) refl refl facts.fresh,
          refl,
          record { at = at_start later s k count line b st text range journal facts; nothing = asks_nothing later s k count line b st text range journal facts; every = every },
          inl (inl (refl, refl)),
        );
        waited = facts.passed;
        begun = tt;
      }
