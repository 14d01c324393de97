use Rattle.std.proofs.Common.{◌≡◌, ◌≢◌, ℕ, ℤ, pos, negsuc, Bool, cond, not, sym, ap, ap₂, ◌∙◌, subst, reverse, [], ◌+◌, ◌++◌, ◌≤◌, ◌<◌, arith, w64, List, SFits}
use Rattle.mr_base.specs.Timestamps.{of_reading}
use Rattle.mr_base.specs.declared.settings.Kind.TheVariants as kinds
use Rattle.mr_base.specs.declared.settings.Settings.{Settings}
use Rattle.mr_base.specs.declared.timestamps.Reading.{Reading}
use Rattle.mr_base.specs.declared.timestamps.Ts.{Ts}
use Rattle.region_sql.specs.OneColumnForms.{IsOneColumnText}
use Rattle.region_sql.specs.declared.one_column_forms.OneColumnStatement.{OneColumnStatement}
use Rattle.region_sql.specs.declared.one_column_forms.OneColumnStatement.TheVariants.{Insert, SelectAll}
use Rattle.row_locality.specs.OneColumnDatabases.{IsInt}
use Rattle.one_node_laws.specs.LinesRun.{with_line}
use Rattle.one_node_laws.specs.Runs.{IsRun}
use Rattle.one_node_laws.specs.Words.{the_node}
use Rattle.journal.specs.declared.entries.JournalEntry.{JournalEntry}
use Rattle.journal.specs.declared.events.Event.TheVariants as events
use Rattle.one_node.proofs.JournalLemmas.{journal_is}
use Rattle.one_node.proofs.KnownLemmas.{IsOfInts, line_journal, line_known, with_floor}
use Rattle.one_node.proofs.LastingLemmas.{lasts_on, served}
use Rattle.one_node.proofs.RunLemmas.{NextReading, next_reading, run_next, steps_name, steps_some, txn_facts}
use Rattle.one_node.specs.Clock.{next_of}
use Rattle.one_node.specs.Kept.{IsKnown}
use Rattle.one_node.specs.Steps.{line_steps}
use Rattle.one_node.specs.View.{View}
use Rattle.one_node.specs.declared.transaction.Begun.{Begun}
use Rattle.one_node.proofs.cluster.Cluster.transaction.Goals as goal

int_from : (n : ℤ) → SFits w64 n → IsInt n
int_from (pos n) f = f.sfits
int_from (negsuc n) f = f.sfits

of_ints : (text : List ℕ) (st : OneColumnStatement) → IsOneColumnText text st → IsOfInts st
of_ints text (Insert n) (digits, e, int) = int_from n int.fits
of_ints text SelectAll h = tt

abbrev the_begun : goal.After-drop-steps-2 → Begun
the_begun c = record { txn = c.args.txn; attempt = record { 0 = c.in-Some-checked_add.attempt }; start = c.owned_by.result; limit = c.next-start.result.wall + c.self.inside.settings.max_offset }

the_journal : (c : goal.After-drop-steps-2) → reverse c.append.new.self.items ≡ line_journal c.args.line (the_begun c) c.course_of-course.result c.self.inside.range (reverse c.self.inside.journal.items)
the_journal c =
    journal_is c.self.inside.journal.items c.in_ok-steps.steps.items c.append.new.self.items (c.append.ensures.items ∙ ap₂ (λ (t : Bool) (old : List JournalEntry). cond t (old ++ c.in_ok-steps.steps.items) old) (c.is_err.ensures.negation ∙ ap not c.if-is_err.false) c.reserve.ensures.items)
    ∙ ap (λ (steps : List JournalEntry). reverse steps ++ reverse c.self.inside.journal.items) c.in_ok-steps.ensures

-- the next reading
the_next : (c : goal.After-drop-steps-2) → NextReading c.self.inside.clock.physical c.self.inside.clock.kept c.self.inside.attempts c.next-start.result
the_next c =
    subst (λ (y : Reading). NextReading c.self.inside.clock.physical c.self.inside.clock.kept c.self.inside.attempts y) (sym c.next-start.ensures)
    (next_reading c.self.inside.clock.physical c.self.inside.clock.kept c.self.inside.attempts c.self.invariant.0.kept c.self.invariant.0.logical)

the_attempt : (c : goal.After-drop-steps-2) → c.in-Some-checked_add.attempt ≡ c.self.inside.attempts + 1
the_attempt c = c.in-Some-checked_add.ensures.1

some_journal : (c : goal.After-drop-steps-2) → reverse c.self.inside.journal.items ≢ []
some_journal c e = c.requires.0 (sym (ap (λ (v : View). v.journal) c.self.view_is) ∙ e)

started : (c : goal.After-drop-steps-2) → (the_begun c).start.wall ≤ c.self.inside.clock.physical
started c = subst (λ (ts : Ts). ts.wall ≤ c.self.inside.clock.physical) (sym c.owned_by.ensures) (the_next c).within

pub invariant_of-self-2 : goal.invariant_of-self-2
invariant_of-self-2 c = (
  record {
    durations = c.self.invariant.0.durations;
    clock = c.self.invariant.0.clock;
    kept = (the_next c).within;
    logical = subst (λ x. c.next-start.result.logical ≤ x) (sym (the_attempt c)) (the_next c).small;
    attempts = omega (arith, c.in-Some-checked_add.ensures);
  },
  subst (λ (j : List JournalEntry). IsKnown c.next-start.result c.in-Some-checked_add.attempt (with_floor c.take_in.new.self c.owned_by.result) j) (sym (the_journal c))
      (subst (λ x. IsKnown c.next-start.result x (with_floor c.take_in.new.self c.owned_by.result) (line_journal c.args.line (the_begun c) c.course_of-course.result c.self.inside.range (reverse c.self.inside.journal.items)))
      (sym (the_attempt c))
      (line_known c.self.inside.clock.kept c.next-start.result c.self.inside.attempts c.args.line (the_begun c) c.in-Some.statement c.course_of-course.result c.self.inside.range c.take_in.new.self
      (reverse c.self.inside.journal.items) (the_next c).ahead (the_next c).small (the_attempt c) (c.owned_by.ensures ∙ ap (λ x. of_reading c.next-start.result x) (the_attempt c)) (some_journal c)
      (of_ints c.args.list.now c.in-Some.statement c.in-Some.ensures.found) c.course_of-course.ensures c.in_ok-take_in.ensures.ok c.self.invariant.1)),
  lasts_on c.self.inside.settings c.self.inside.clock.physical c.self.inside.range c.take_in.new.self c.course_of-course.result c.in_ok-take_in.ensures.ok c.self.invariant.2,
)

pub returns-clause-run : goal.returns-clause-run
returns-clause-run c s r n =
    let clock : s.clock ≡ c.self.inside.clock.physical = sym (ap (λ (v : View). v.physical) c.self.view_is ∙ r.physical) in
    let settings : s.settings ≡ c.self.inside.settings = sym (ap (λ (v : View). v.settings) c.self.view_is ∙ r.settings) in
    let run : IsRun s (reverse c.self.inside.journal.items) = subst (λ (j : List JournalEntry). IsRun s j) (sym (ap (λ (v : View). v.journal) c.self.view_is)) r.run in
    record {
      settings = sym settings;
      physical = sym clock;
      run = subst (λ (j : List JournalEntry). IsRun (with_line s c.args.line (events.Txn c.args.txn the_node kinds.Now c.args.list.now)) j) (sym (the_journal c))
          (run_next s c.self.inside.clock.kept c.self.inside.attempts c.args.line (the_begun c) c.in-Some.statement c.args.list.now c.course_of-course.result c.self.inside.range (reverse c.self.inside.journal.items)
          run
          (txn_facts s c.self.inside.clock.kept c.self.inside.attempts c.args.line (the_begun c) c.in-Some.statement c.args.list.now c.self.inside.range (reverse c.self.inside.journal.items)
          run n c.in-Some.ensures.found c.self.invariant.1 (some_journal c) (subst (λ x. c.self.inside.clock.kept.wall ≤ x) (sym clock) c.self.invariant.0.kept) c.self.invariant.0.logical (the_attempt c)
          (c.owned_by.ensures ∙ ap (λ (y : Reading). of_reading y c.in-Some-checked_add.attempt) (c.next-start.ensures ∙ ap (λ x. next_of x c.self.inside.clock.kept) (sym clock)))
          (ap₂ (λ x (y : Settings). x + y.max_offset) (sym (ap (λ (ts : Ts). ts.wall) c.owned_by.ensures)) (sym settings)))
          (of_ints c.args.list.now c.in-Some.statement c.in-Some.ensures.found) c.course_of-course.ensures
          (λ w. served c.self.inside.settings c.self.inside.clock.physical c.self.inside.clock.kept c.self.inside.attempts (the_begun c) c.in-Some.statement c.self.inside.range (reverse c.self.inside.journal.items) c.course_of-course.result
          c.self.invariant.1 (some_journal c) c.self.invariant.2 (started c) (ap (λ (ts : Ts). ts.wall + c.self.inside.settings.max_offset) (sym c.owned_by.ensures)) c.course_of-course.ensures
          (subst (λ (x : Settings). x.max_offset < x.lease) settings w)));
    }

pub returns-clause-ok : goal.returns-clause-ok
returns-clause-ok c =
    record {
      settings = ap (λ (v : View). v.settings) c.self.view_is;
      physical = ap (λ (v : View). v.physical) c.self.view_is;
      fresh = reverse (line_steps c.args.line (the_begun c) c.course_of-course.result c.self.inside.range.length c.self.inside.range.ids.keys);
      some = steps_some c.args.line (the_begun c) c.course_of-course.result c.self.inside.range;
      journal = the_journal c ∙ ap (λ (j : List JournalEntry). reverse (line_steps c.args.line (the_begun c) c.course_of-course.result c.self.inside.range.length c.self.inside.range.ids.keys) ++ j) (ap (λ (v : View). v.journal) c.self.view_is);
      names = steps_name c.args.line (the_begun c) c.course_of-course.result c.self.inside.range;
    }
