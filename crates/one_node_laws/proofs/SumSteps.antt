use Rattle.std.proofs.Common.{◌≡◌, ◌≢◌, ℕ, Bool, true, false, cond, List, ◌∷◌, ◌+◌, inl, inr, ⊎_elim, refl, sym, ap, ◌∙◌, subst, arith, length}
use Rattle.std.specs.Prelude.{◌⊎◌, Option, Some, None, nat_lt}
use Rattle.std.proofs.Math.Nat.{sub_self}
use Rattle.std.proofs.lemmas.Bool.Decides.{nat_tests}
use Rattle.mr_base.specs.Spans.{IsInsideOne}
use Rattle.mr_base.specs.Timestamps.{IsBelow}
use Rattle.mr_base.specs.declared.ids.AttemptId.{AttemptId}
use Rattle.mr_base.specs.declared.ids.NodeId.{NodeId}
use Rattle.mr_base.specs.declared.ids.TxnId.{TxnId}
use Rattle.mr_base.specs.declared.messages.Known.{Known}
use Rattle.mr_base.specs.declared.spans.Span.{Span}
use Rattle.mr_base.specs.declared.timestamps.Reading.{Reading}
use Rattle.mr_base.specs.declared.timestamps.Ts.{Ts}
use Rattle.mvcc_range.specs.Answer.{GivesRows, IsRow, Read}
use Rattle.range_log.specs.Facts.{HasRecord, first_entries}
use Rattle.range_log.specs.declared.entries.Entry.{Entry}
use Rattle.range_log.specs.declared.entries.TxnState.TheVariants as records
use Rattle.one_node_laws.proofs.Core.{core_iff, core_later}
use Rattle.one_node_laws.proofs.OrderLemmas.{ArePast, IsAheadOf, IsPast, later_ahead, not_itself, past_among, past_below, past_more, past_next, told_apart}
use Rattle.one_node_laws.proofs.ServeLemmas.{served_is_held}
use Rattle.one_node_laws.proofs.Sum.{Current, Sum}
use Rattle.one_node_laws.specs.Decided.{replay, those_below}
use Rattle.one_node_laws.specs.Lawful.{IsPermitted}
use Rattle.one_node_laws.specs.LinesRun.{LinesRun}
use Rattle.one_node_laws.specs.Words.{Beginning, ServedRead, WasServed, attempts_of, begun_here, greatest_start, later_reading, log_of, the_range}
use Rattle.journal.specs.declared.entries.How.{How}
use Rattle.journal.specs.declared.entries.JournalEntry.{JournalEntry}
use Rattle.journal.specs.declared.entries.JournalEntry.TheVariants as entry
use Rattle.sql_eval.specs.OneColumnAgreement.{AgreesOn}

none_is_some : {b : Beginning} → None ≡ Some b → ⊥
none_is_some e = cc

pub some_same : {a b : Beginning} → Some a ≡ Some b → a ≡ b
some_same e = cc

pub right : {A : Type 0} → ⊥ ⊎ A → A
right (inl e) = absurd e
right (inr a) = a

-- an event
pub sum_event : (s : LinesRun) (journal : List JournalEntry) (line : ℕ) → Sum s journal → Sum s (entry.Event line ∷ journal)
sum_event s journal line sum =
    record {
      core = core_iff _ _ _ _ (λ d h. inr h) (λ d h. right h) sum.core;
      acked_past = sum.acked_past;
      faulted_past = sum.faulted_past;
      answers = sum.answers;
      faults = sum.faults;
      served_past = sum.served_past;
      held = sum.held;
      served_by = sum.served_by;
      no_spans = sum.no_spans;
      recorded_by = sum.recorded_by;
      current = λ b e. absurd (none_is_some e);
    }

-- a beginning
ahead_by : (r : Reading) (clock : ℕ) (t : Bool) → nat_lt r.wall clock ≡ t → IsAheadOf r (cond t (record { wall = clock; logical = 0 }) (record { wall = r.wall; logical = r.logical + 1 }))
ahead_by r clock true e = inl (grind (arith, nat_tests, e))
ahead_by r clock false e = inr (refl, omega arith)

module _ (s : LinesRun) (journal : List JournalEntry) (t : TxnId) (a : AttemptId) (gateway : NodeId) (start : Ts) (limit : Option ℕ) (q : IsPermitted s journal (entry.Begin t a gateway start limit)) (sum : Sum s journal) where
  abbrev now : Reading
  now = record { wall = start.wall; logical = start.logical }

  pub ahead : IsAheadOf (greatest_start journal) now
  ahead =
      subst (λ (y : Ts). IsAheadOf (greatest_start journal) (record { wall = y.wall; logical = y.logical })) (sym q.begun.start_is)
      (ahead_by (greatest_start journal) s.clock (nat_lt (greatest_start journal).wall s.clock) refl)

  is_now : later_reading (greatest_start journal) now ≡ now
  is_now = later_ahead (greatest_start journal) now ahead

  new_attempt : a.0 ≡ attempts_of journal + 1
  new_attempt = q.begun.attempt

  abbrev the_beginning : Beginning
  the_beginning = record { txn = t; attempt = a; gateway = gateway; start = start; limit = limit }

  not_served : (x : ServedRead) → WasServed the_range x journal → x.read.attempt ≢ a
  not_served x w own = omega (arith, new_attempt, sum.served_by x w, ap (λ (y : AttemptId). y.0) own)

  not_recorded : (c : Ts) → ¬ HasRecord a (records.Committed c) (log_of the_range journal)
  not_recorded c h = omega (arith, new_attempt, sum.recorded_by a c h)

  begins : Current s (entry.Begin t a gateway start limit ∷ journal) sum.core.decided the_beginning
  begins =
      record {
        attempt = new_attempt;
        start = is_now;
        below = λ d h. inl (past_below (greatest_start journal) d.ts start (past_among (greatest_start journal) sum.core.decided d sum.core.past h) ahead);
        commits = λ c h. absurd (not_recorded c h);
        acks = λ x h. inl (past_below (greatest_start journal) x.ts start (sum.acked_past x h) ahead);
        faults = λ x h. inl (past_below (greatest_start journal) x.ts start (sum.faulted_past x h) ahead);
        agree = λ x w own. absurd (not_served x w own);
        at = λ x w own. absurd (not_served x w own);
        under = λ x w. inl (past_below (greatest_start journal) x.read.at start (sum.served_past x w) ahead);
        some = λ span h. absurd (subst (λ (y : List Span). IsInsideOne span y) (sum.no_spans a (omega (arith, new_attempt))) h);
      }

  pub sum_begin : Sum s (entry.Begin t a gateway start limit ∷ journal)
  sum_begin =
      record {
        core = core_iff _ _ _ _ (λ d h. inr h) (λ d h. right h)
            (core_later _ _ _ _ sum.core (subst (λ (y : Reading). ArePast y sum.core.decided) (sym is_now) (past_more (greatest_start journal) now sum.core.decided ahead sum.core.past)));
        acked_past = λ x h. subst (λ (y : Reading). IsPast y x.ts) (sym is_now) (past_next (greatest_start journal) now x.ts (sum.acked_past x h) ahead);
        faulted_past = λ x h. subst (λ (y : Reading). IsPast y x.ts) (sym is_now) (past_next (greatest_start journal) now x.ts (sum.faulted_past x h) ahead);
        answers = sum.answers;
        faults = sum.faults;
        served_past = λ x w. subst (λ (y : Reading). IsPast y x.read.at) (sym is_now) (past_next (greatest_start journal) now x.read.at (sum.served_past x w) ahead);
        held = sum.held;
        served_by = λ x w. omega (arith, sum.served_by x w);
        no_spans = λ b h. sum.no_spans b (omega (arith, h));
        recorded_by = λ b c h. omega (arith, sum.recorded_by b c h);
        current = λ b e. subst (λ (y : Beginning). Current s (entry.Begin t a gateway start limit ∷ journal) sum.core.decided y) (some_same e) begins;
      }

-- a read that is served
all_entries : (n : ℕ) (entries : List Entry) → n ≡ length entries → first_entries n entries ≡ entries
all_entries n entries e = rw (e, sub_self (length entries)) refl

module _ (s : LinesRun) (journal : List JournalEntry) (a : AttemptId) (node : NodeId) (span : Span) (at : Ts) (limit : Option ℕ) (count : ℕ) (by : How) (known : List Known)
    (q : IsPermitted s journal (entry.Serve a node the_range span at limit count by known)) (sum : Sum s journal) where
  abbrev the_read : Read
  the_read = record { attempt = a; span = span; at = at; limit = limit; known = known }

  abbrev the_served : ServedRead
  the_served = record { read = the_read; entries = first_entries count (log_of the_range journal) }

  entries_are : first_entries count (log_of the_range journal) ≡ log_of the_range journal
  entries_are = all_entries count (log_of the_range journal) q.served.applied

  module _ (b : Beginning) (here : begun_here journal ≡ Some b) where
    cur : Current s journal sum.core.decided b
    cur = sum.current b here

    same : q.served.beginning ≡ b
    same = some_same (sym q.served.step.begun ∙ here)

    own : a ≡ b.attempt
    own = sym q.served.attempt ∙ ap (λ (y : Beginning). y.attempt) same

    at_start : at ≡ b.start
    at_start = q.served.at_is ∙ ap (λ (y : Beginning). y.start) same

    agrees : AgreesOn (replay (those_below b.start sum.core.decided)) span (IsRow (first_entries count (log_of the_range journal)) the_read)
    agrees =
        subst (λ (y : Ts). AgreesOn (replay (those_below y sum.core.decided)) span (IsRow (first_entries count (log_of the_range journal)) the_read)) at_start
        (subst (λ (y : List Entry). AgreesOn (replay (those_below at sum.core.decided)) span (IsRow y the_read)) (sym entries_are)
        (served_is_held _ _ _ sum.core the_read q.served.known_is (subst (λ (y : List Entry). GivesRows y the_read) entries_are q.served.rows)
        (λ c h late. not_itself at (subst (λ (y : Ts). IsBelow y at) (cur.commits c (subst (λ (y : AttemptId). HasRecord y (records.Committed c) (log_of the_range journal)) own h) ∙ sym at_start) late))))

    serves : Current s (entry.Serve a node the_range span at limit count by known ∷ journal) sum.core.decided b
    serves =
        record {
          attempt = cur.attempt;
          start = cur.start;
          below = cur.below;
          commits = cur.commits;
          acks = cur.acks;
          faults = cur.faults;
          agree = λ x w mine. ⊎_elim
              (λ (p : (the_range ≡ the_range) × (x ≡ the_served)). subst (λ (y : ServedRead). AgreesOn (replay (those_below b.start sum.core.decided)) y.read.span (IsRow y.entries y.read)) (sym p.1) agrees)
              (λ v. cur.agree x v mine) w;
          at = λ x w mine. ⊎_elim (λ (p : (the_range ≡ the_range) × (x ≡ the_served)). ap (λ (y : ServedRead). y.read.at) p.1 ∙ at_start) (λ v. cur.at x v mine) w;
          under = λ x w. ⊎_elim (λ (p : (the_range ≡ the_range) × (x ≡ the_served)). inr (ap (λ (y : ServedRead). y.read.at) p.1 ∙ at_start)) (λ v. cur.under x v) w;
          some = λ other h. (the_served, inl (refl, refl), own);
        }

  -- the transaction that is served
  abbrev its : Beginning
  its = q.served.beginning

  held_here : AgreesOn (replay (those_below at sum.core.decided)) span (IsRow (first_entries count (log_of the_range journal)) the_read)
  held_here =
      subst (λ (y : Ts). AgreesOn (replay (those_below y sum.core.decided)) span (IsRow (first_entries count (log_of the_range journal)) the_read)) (sym (at_start its q.served.step.begun))
      (agrees its q.served.step.begun)

  at_past : IsPast (greatest_start journal) at
  at_past =
      subst (λ (y : Ts). IsPast (greatest_start journal) y) (sym (at_start its q.served.step.begun))
      (subst (λ (y : Reading). IsPast y its.start) (sym (cur its q.served.step.begun).start) (inr (refl, omega arith)))

  attempt_is : a.0 ≡ attempts_of journal
  attempt_is = ap (λ (y : AttemptId). y.0) (sym q.served.attempt) ∙ (sum.current q.served.beginning q.served.step.begun).attempt

  pub sum_serve : Sum s (entry.Serve a node the_range span at limit count by known ∷ journal)
  sum_serve =
      record {
        core = core_iff _ _ _ _ (λ d h. inr h) (λ d h. right h) sum.core;
        acked_past = sum.acked_past;
        faulted_past = sum.faulted_past;
        answers = sum.answers;
        faults = sum.faults;
        served_past = λ x w. ⊎_elim (λ (p : (the_range ≡ the_range) × (x ≡ the_served)). subst (λ (y : Ts). IsPast (greatest_start journal) y) (sym (ap (λ (y : ServedRead). y.read.at) p.1)) at_past) (λ v. sum.served_past x v) w;
        held = λ x w. ⊎_elim (λ (p : (the_range ≡ the_range) × (x ≡ the_served)). subst (λ (y : ServedRead). AgreesOn (replay (those_below y.read.at sum.core.decided)) y.read.span (IsRow y.entries y.read)) (sym p.1) held_here) (λ v. sum.held x v) w;
        served_by = λ x w. ⊎_elim (λ (p : (the_range ≡ the_range) × (x ≡ the_served)). omega (arith, attempt_is, ap (λ (y : ServedRead). y.read.attempt.0) p.1)) (λ v. sum.served_by x v) w;
        no_spans = λ b h. rw (told_apart a.0 b.0 (omega (arith, h, attempt_is))) (sum.no_spans b h);
        recorded_by = sum.recorded_by;
        current = serves;
      }
