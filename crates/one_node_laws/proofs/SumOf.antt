use Rattle.std.proofs.Common.{◌≡◌, ℕ, List, [], ◌∷◌, inl, inr, refl, sym, subst}
use Rattle.std.specs.Prelude.{◌↔◌, Option, Some, None}
use Rattle.mr_base.specs.Timestamps.{IsBelow}
use Rattle.mr_base.specs.declared.ids.AttemptId.{AttemptId}
use Rattle.mr_base.specs.declared.ids.RangeId.{RangeId}
use Rattle.mr_base.specs.declared.ids.TxnId.{TxnId}
use Rattle.mr_base.specs.declared.states.SqlState.{SqlState}
use Rattle.mr_base.specs.declared.timestamps.Ts.{Ts}
use Rattle.range_log.specs.Facts.{HasRecord}
use Rattle.range_log.specs.declared.entries.Entry.{Entry}
use Rattle.range_log.specs.declared.entries.Entry.TheVariants as log
use Rattle.range_log.specs.declared.entries.TxnState.{TxnState}
use Rattle.range_log.specs.declared.entries.TxnState.TheVariants as records
use Rattle.region_sql.specs.declared.one_column_forms.OneColumnStatement.{OneColumnStatement}
use Rattle.mr_base.specs.Spans.{InSpan}
use Rattle.mvcc_range.specs.Answer.{IsRow}
use Rattle.one_node_laws.proofs.Core.{Core}
use Rattle.one_node_laws.proofs.LogFacts.{one_commit_of}
use Rattle.one_node_laws.proofs.OrderLemmas.{not_itself}
use Rattle.one_node_laws.proofs.Sum.{Sum}
use Rattle.one_node_laws.proofs.SumDecide.{is_start, sum_ack_commit, sum_ack_reads, sum_commit_at, sum_fault_at}
use Rattle.one_node_laws.proofs.SumLog.{sum_lease, sum_put, sum_refuse, sum_resolve}
use Rattle.one_node_laws.proofs.SumSteps.{sum_begin, sum_event, sum_serve}
use Rattle.one_node_laws.specs.Decided.{IsHeld, WasDecided, replay, those_below}
use Rattle.one_node_laws.specs.Determined.{GivesFault, GivesPuts, GivesResults, IsAnsweredAt, IsDetermined}
use Rattle.one_node_laws.specs.Lawful.{IsLawful, IsPermitted}
use Rattle.one_node_laws.specs.LinesRun.{LinesRun}
use Rattle.one_node_laws.specs.Serial.{IsSerial}
use Rattle.one_node_laws.specs.Steps.{IsStepOf}
use Rattle.one_node_laws.specs.Words.{Beginning, HasPut, ServedRead, WasServed, log_of, the_range}
use Rattle.journal.specs.declared.entries.JournalEntry.{JournalEntry}
use Rattle.journal.specs.declared.entries.JournalEntry.TheVariants as entry
use Rattle.mr_base.specs.declared.results.StatementResult.{StatementResult}
use Rattle.sql_eval.specs.OneColumnAgreement.{Holds}

nothing_core : (s : LinesRun) → Core [] (record { wall = 0; logical = 0 }) (λ d. WasDecided s d [])
nothing_core s =
    record {
      decided = [];
      falling = tt;
      are = λ d. (λ h. h, λ h. h);
      past = tt;
      valid = λ ts. ([], refl, tt, tt);
      recorded = λ a c h. absurd h;
      puts_held = λ ts a c key value p rec put h. absurd rec;
      held_puts = λ ts key v h. absurd h;
      one_writer = λ a b c d key u v p q ra pa rb pb. absurd ra;
      low = λ a c key u p rec put. absurd rec;
      one_put = λ a key u v p q h g. absurd h;
      versions = λ v h. absurd h;
      stands = λ a key u p h. absurd h;
    }

none_is_some : {b : Beginning} → None ≡ Some b → ⊥
none_is_some e = cc

sum_nothing : (s : LinesRun) → Sum s []
sum_nothing s =
    record {
      core = nothing_core s;
      acked_past = λ x h. absurd h;
      faulted_past = λ x h. absurd h;
      answers = λ x h. absurd h;
      faults = λ x h. absurd h;
      served_past = λ x h. absurd h;
      held = λ x h. absurd h;
      served_by = λ x h. absurd h;
      no_spans = λ a h. refl;
      recorded_by = λ a c h. absurd h;
      current = λ b e. absurd (none_is_some e);
    }

module _ (s : LinesRun) (journal : List JournalEntry) (sum : Sum s journal) where
  commit_of : (index : ℕ) (b : Beginning) (st : OneColumnStatement) (step : IsStepOf s journal b st) (c : Ts) → IsDetermined journal b.attempt st c (GivesPuts b.attempt journal)
      → ((state : TxnState) → ¬ HasRecord b.attempt state (log_of the_range journal))
      → ((key : List ℕ) (value : Option (List ℕ)) (p : Ts) → HasPut b.attempt key value p (log_of the_range journal) → ¬ IsBelow c p)
      → Sum s (entry.Append the_range index (log.State b.attempt (records.Committed c)) ∷ journal)
  commit_of index b st step c det fresh low =
      let e : c ≡ b.start = is_start s journal sum b st step c (GivesPuts b.attempt journal) det in
      subst (λ (y : Ts). Sum s (entry.Append the_range index (log.State b.attempt (records.Committed y)) ∷ journal)) (sym e)
      (sum_commit_at s journal sum b st step index (subst (λ (y : Ts). IsDetermined journal b.attempt st y (GivesPuts b.attempt journal)) e det) fresh
      (λ key value p h. subst (λ (y : Ts). ¬ IsBelow y p) e (low key value p h)))

  commit_by : (index : ℕ) (a : AttemptId) (c : Ts) → IsPermitted s journal (entry.Append the_range index (log.State a (records.Committed c))) → Sum s (entry.Append the_range index (log.State a (records.Committed c)) ∷ journal)
  commit_by index a c q =
      let own : q.determined.0.attempt ≡ a = q.determined.3 in
      subst (λ (y : AttemptId). Sum s (entry.Append the_range index (log.State y (records.Committed c)) ∷ journal)) own
      (commit_of index q.determined.0 q.determined.1 q.determined.2 c
      (subst (λ (y : AttemptId). IsDetermined journal y q.determined.1 c (GivesPuts y journal)) (sym own) q.determined.4)
      (subst (λ (y : AttemptId). (state : TxnState) → ¬ HasRecord y state (log_of the_range journal)) (sym own) q.records.fresh)
      (subst (λ (y : AttemptId). (key : List ℕ) (value : Option (List ℕ)) (p : Ts) → HasPut y key value p (log_of the_range journal) → ¬ IsBelow c p) (sym own) q.records.puts))

  fault_by : (t : TxnId) (ts : Ts) (state : SqlState) → IsPermitted s journal (entry.Fault t ts state) → Sum s (entry.Fault t ts state ∷ journal)
  fault_by t ts state q =
      let e : ts ≡ q.determined.0.start = q.determined.5 in
      subst (λ (y : Ts). Sum s (entry.Fault t y state ∷ journal)) (sym e)
      (sum_fault_at s journal sum q.determined.0 q.determined.1 q.determined.2 t q.determined.3 state
      (subst (λ (y : Ts). IsDetermined journal q.determined.0.attempt q.determined.1 y (GivesFault state)) e q.determined.4) q.determined.6)

  ack_of : (t : TxnId) (results : List StatementResult) (b : Beginning) (st : OneColumnStatement) (step : IsStepOf s journal b st) → b.txn ≡ t
      → IsDetermined journal b.attempt st b.start (GivesResults st results b.attempt journal) → IsAnsweredAt journal b b.start → Sum s (entry.Ack t b.start results ∷ journal)
  ack_of t results b st step txn det (inl rec) = sum_ack_commit s journal sum b st step t txn results det b.start rec
  ack_of t results b st step txn det (inr (e, none, undecided)) = sum_ack_reads s journal sum b st step t txn results det none undecided

  ack_by : (t : TxnId) (ts : Ts) (results : List StatementResult) → IsPermitted s journal (entry.Ack t ts results) → Sum s (entry.Ack t ts results ∷ journal)
  ack_by t ts results q =
      let e : ts ≡ q.determined.0.start = is_start s journal sum q.determined.0 q.determined.1 q.determined.2 ts (GivesResults q.determined.1 results q.determined.0.attempt journal) q.determined.4 in
      subst (λ (y : Ts). Sum s (entry.Ack t y results ∷ journal)) (sym e)
      (ack_of t results q.determined.0 q.determined.1 q.determined.2 q.determined.3
      (subst (λ (y : Ts). IsDetermined journal q.determined.0.attempt q.determined.1 y (GivesResults q.determined.1 results q.determined.0.attempt journal)) e q.determined.4)
      (subst (λ (y : Ts). IsAnsweredAt journal q.determined.0 y) e q.determined.5))

  append_by : (index : ℕ) (e : Entry) → IsPermitted s journal (entry.Append the_range index e) → Sum s (entry.Append the_range index e ∷ journal)
  append_by index (log.Lease lease) q = sum_lease s journal index lease sum
  append_by index (log.Put a start anchor ts key value) q = sum_put s journal index a start anchor ts key value q sum
  append_by index (log.Resolve a key fate) q = sum_resolve s journal index a key fate q sum
  append_by index (log.State a (records.Committed c)) q = commit_by index a c q
  append_by index (log.State a (records.Pending c)) q = absurd q.records
  append_by index (log.State a (records.Aborted by)) q = absurd q.records
  append_by index (log.Close ts) q = absurd q.order
  append_by index (log.Load ts key value) q = absurd q.order

  sum_next : (e : JournalEntry) → IsPermitted s journal e → Sum s (e ∷ journal)
  sum_next (entry.Event line) q = sum_event s journal line sum
  sum_next (entry.Begin t a gateway start limit) q = sum_begin s journal t a gateway start limit q sum
  sum_next (entry.Append range index e) q =
      subst (λ (y : RangeId). Sum s (entry.Append y index e ∷ journal)) (sym q.appended.0)
      (append_by index e (subst (λ (y : RangeId). IsPermitted s journal (entry.Append y index e)) q.appended.0 q))
  sum_next (entry.Serve a node range span at limit count by known) q =
      subst (λ (y : RangeId). Sum s (entry.Serve a node y span at limit count by known ∷ journal)) (sym q.served.range_is)
      (sum_serve s journal a node span at limit count by known (subst (λ (y : RangeId). IsPermitted s journal (entry.Serve a node y span at limit count by known)) q.served.range_is q) sum)
  sum_next (entry.Ack t ts results) q = ack_by t ts results q
  sum_next (entry.Fault t ts state) q = fault_by t ts state q
  sum_next (entry.Refuse t why) q = sum_refuse s journal t why sum
  sum_next e q = absurd q.order

pub sum_of : (s : LinesRun) (journal : List JournalEntry) → IsLawful s journal → Sum s journal
sum_of s [] h = sum_nothing s
sum_of s (e ∷ journal) h = sum_next s journal (sum_of s journal h.1) e h.0

pub value_same : {u v : List ℕ} → Some u ≡ Some v → u ≡ v
value_same e = cc

-- a lawful journal is serial
abbrev pub serial : (s : LinesRun) (journal : List JournalEntry) → IsLawful s journal → IsSerial s journal
serial s journal h =
    let sum : Sum s journal = sum_of s journal h in
    record {
      decided = sum.core.decided;
      latest_first = sum.core.falling;
      are = sum.core.are;
      answers = sum.answers;
      faults = sum.faults;
      valid = sum.core.valid;
      held = λ ts key value. (
        λ q.
            let f : (a : AttemptId) × (c : Ts) × (p : Ts) × HasRecord a (records.Committed c) (log_of the_range journal) × HasPut a key (Some value) p (log_of the_range journal) × IsBelow c ts = sum.core.held_puts ts key value q in
            record {
              attempt = f.0;
              commit = f.1;
              committed = f.3;
              laid = f.2;
              put = f.4;
              below = f.5;
              last = λ a c v p rec put under late.
                  let same : a ≡ f.0 = sum.core.one_writer a f.0 c f.1 key v (Some value) p f.2 rec put f.3 f.4 in
                  not_itself f.1 (subst (λ (y : Ts). IsBelow f.1 y) (one_commit_of (log_of the_range journal) f.0 c f.1 (subst (λ (y : AttemptId). HasRecord y (records.Committed c) (log_of the_range journal)) same rec) f.3) late);
            },
        λ q.
            let f : (v : List ℕ) × (Some value ≡ Some v) × Holds (replay (those_below ts sum.core.decided)) key v = sum.core.puts_held ts q.attempt q.commit key (Some value) q.laid q.committed q.put q.below in
            subst (λ (y : List ℕ). Holds (replay (those_below ts sum.core.decided)) key y) (sym (value_same f.1)) f.2,
      );
    }

-- what was served is what the whole run holds below its timestamp
pub held : (s : LinesRun) (journal : List JournalEntry) → IsLawful s journal → (x : ServedRead) → WasServed the_range x journal → (key value : List ℕ) → InSpan x.read.span key
    → (IsRow x.entries x.read key value ↔ IsHeld (log_of the_range journal) x.read.at key value)
held s journal h x w key value inside =
    let sum : Sum s journal = sum_of s journal h in
    let all : IsSerial s journal = serial s journal h in
    (λ q. (all.held x.read.at key value).0 ((sum.held x w key value inside).1 q), λ q. (sum.held x w key value inside).0 ((all.held x.read.at key value).1 q))
