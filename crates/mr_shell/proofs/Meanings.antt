-- What each task says of a run.
use Rattle.std.proofs.Common.{◌≡◌, ◌≢◌, ℕ, [], Option, Some, None, refl, ap, sym, ◌∙◌, subst, inl, inr, arith}
use Rattle.std.specs.Prelude.{◌⊎◌}
use Rattle.journal_text.specs.declared.modes.Mode.{Mode}
use Rattle.one_node_laws.specs.Laws.{LawfulIsSerial, LawfulIsVisible}
use Rattle.zone_report.specs.Laws.{RangesArePlaced}
use Rattle.zone_report.specs.declared.report.Format.{Format}
use Rattle.mr_io.proofs.Told.{append_known-nil, prepend_known-nil}
use Rattle.mr_shell.specs.Course.{Course, Text}
use Rattle.mr_shell.specs.Ended.{Ended, Gives}
use Rattle.mr_shell.specs.Ends.{status_of}
use Rattle.mr_shell.specs.Exchange.{Exchange, HasFailed, held, left, start, written}
use Rattle.mr_shell.specs.GenEnded.{GenEnded, ScenarioEnded}
use Rattle.mr_shell.specs.LinesEnded.{LinesEnded}
use Rattle.mr_shell.specs.RunEnded.{RunEnded, run_course, run_text}
use Rattle.mr_shell.specs.UsageEnded.{UsageLineEnded}
use Rattle.mr_shell.specs.ZonesEnded.{ZonesEnded, zones_course, zones_text}
use Rattle.mr_shell.specs.declared.outcome.End.{End}
use Rattle.mr_shell.specs.declared.outcome.End.TheVariants as ends
use Rattle.mr_shell.specs.declared.outcome.Outcome.{Outcome}
use Rattle.mr_shell.specs.declared.tasks.Task.{Task}
use Rattle.mr_shell.specs.declared.tasks.Task.TheVariants as tasks
use Rattle.mr_shell.proofs.Exact.{exact_lines}
use Rattle.mr_shell.proofs.Headline.{answered_run, no_line_run, serial_run, visible_run}
use Rattle.mr_shell.proofs.LineEnds.{ended_run, none_ended}
use Rattle.mr_shell.proofs.OneStory.{no_fault}
use Rattle.mr_shell.proofs.OneZoneStory.{no_zone_fault}
use Rattle.mr_shell.proofs.ZonePlaces.{ranges_stand}

pub run_ended : {S K : Type 0} → LawfulIsSerial → LawfulIsVisible → (mode : Mode) (o : Outcome) (x : Exchange S K) → LinesEnded run_course (run_text mode) o x → RunEnded mode o x
run_ended serial visible mode o x h =
    let made = ended_run run_course (run_text mode) h.end h.taken (left x) o.journal (start x) (written x) h.ended in
    record {
      ended = h;
      serial = λ story run. serial_run serial o.journal story run;
      visible = visible_run visible o.journal made.0 made.1;
      answered = λ story run long. answered_run o.journal story run long;
    }

pub zones_ended : {S K : Type 0} → RangesArePlaced → (format : Format) (o : Outcome) (x : Exchange S K) → LinesEnded zones_course (zones_text format) o x → ZonesEnded format o x
zones_ended placed format o x h =
    record {
      ended = h;
      nothing_run = (ended_run zones_course (zones_text format) h.end h.taken (left x) o.journal (start x) (written x) h.ended).1;
      stand = λ lines story tells. ranges_stand placed lines story tells;
    }

-- there was no memory to read the words
lines_none : {S K : Type 0} (c : Course) (text : Text c.State) (o : Outcome) (x : Exchange S K) → c.Makes c.first [] → text.shown c.first [] ≡ [] → o.status ≡ 5 → o.journal ≡ [] → left x ≡ held x → written x ≡ start x → LinesEnded c text o x
lines_none c text o x makes none status nothing unread unwritten =
    record {
      end = ends.Memory;
      taken = [];
      status = status;
      told = sym unread ∙ prepend_known-nil (left x);
      ended = rw (nothing, unwritten) (none_ended c text (left x) (start x) makes none);
    }

pub short_ended : {S K : Type 0} → LawfulIsSerial → LawfulIsVisible → RangesArePlaced → (task : Option Task) (o : Outcome) (x : Exchange S K) → o.status ≡ 5 → o.journal ≡ [] → x.source.after ≡ x.source.before → x.sink.after ≡ x.sink.before → Ended task o x
short_ended serial visible placed None o x status nothing unread unwritten =
    record { nothing_read = unread; nothing_run = nothing; line = inr (inr (status, ap x.sink.bytes unwritten)) }
short_ended serial visible placed (Some (tasks.Run mode)) o x status nothing unread unwritten =
    run_ended serial visible mode o x (lines_none run_course (run_text mode) o x no_line_run refl status nothing (ap x.source.bytes unread) (ap x.sink.bytes unwritten))
short_ended serial visible placed (Some (tasks.Zones format)) o x status nothing unread unwritten =
    zones_ended placed format o x (lines_none zones_course (zones_text format) o x refl refl status nothing (ap x.source.bytes unread) (ap x.sink.bytes unwritten))
short_ended serial visible placed (Some (tasks.Gen seed size)) o x status nothing unread unwritten =
    record { nothing_read = unread; nothing_run = nothing; text = inr (inr status, (0, omega arith, ap x.sink.bytes unwritten ∙ append_known-nil (start x))) }

-- a scenario was generated
pub gen_ended : {S K : Type 0} (task : Task) (seed size m n : ℕ) (o : Outcome) (x : Exchange S K) → task ≡ tasks.Gen seed size → x.source.after ≡ x.source.before → o.journal ≡ [] → ScenarioEnded seed size o.status (start x) (written x) → task ≡ tasks.Gen m n → GenEnded m n o x
gen_ended task seed size m n o x is unread nothing text asked =
    let seeds : seed ≡ m = cc in
    let sizes : size ≡ n = cc in
    record { nothing_read = unread; nothing_run = nothing; text = subst (λ (a : ℕ). ScenarioEnded a n o.status (start x) (written x)) seeds (subst (λ (b : ℕ). ScenarioEnded seed b o.status (start x) (written x)) sizes text) }

pub task_ended : {S K : Type 0} → LawfulIsSerial → LawfulIsVisible → RangesArePlaced → (task : Task) (o : Outcome) (x : Exchange S K) → ((mode : Mode) → task ≡ tasks.Run mode → LinesEnded run_course (run_text mode) o x) → ((format : Format) → task ≡ tasks.Zones format → LinesEnded zones_course (zones_text format) o x) → ((seed size : ℕ) → task ≡ tasks.Gen seed size → GenEnded seed size o x) → Ended (Some task) o x
task_ended serial visible placed (tasks.Run mode) o x ran zoned generated = run_ended serial visible mode o x (ran mode refl)
task_ended serial visible placed (tasks.Zones format) o x ran zoned generated = zones_ended placed format o x (zoned format refl)
task_ended serial visible placed (tasks.Gen seed size) o x ran zoned generated = generated seed size refl

-- where no call failed, the status is the one that the task gives
lines_exact : {S K : Type 0} (o : Outcome) (x : Exchange S K) (end : End) (status : ℕ) → o.status ≡ status_of end → (o.status ≡ 3 → HasFailed x.source) → (o.status ≡ 4 → HasFailed x.sink) → ¬ HasFailed x.source → ¬ HasFailed x.sink → ((end ≢ ends.Read) → (end ≢ ends.Write) → (status_of end ≡ status) ⊎ (status_of end ≡ 5)) → (o.status ≡ status) ⊎ (o.status ≡ 5)
lines_exact o x end status is read write unread unwritten exact =
    rw is (exact (λ e. unread (read (is ∙ ap status_of e))) (λ e. unwritten (write (is ∙ ap status_of e))))

usage_exact : {S K : Type 0} (o : Outcome) (x : Exchange S K) → UsageLineEnded o.status (start x) (written x) → (o.status ≡ 4 → HasFailed x.sink) → ¬ HasFailed x.sink → (status : ℕ) → status ≡ 2 → (o.status ≡ status) ⊎ (o.status ≡ 5)
usage_exact o x (inl h) write unwritten status gives = inl (h.0 ∙ sym gives)
usage_exact o x (inr (inl h)) write unwritten status gives = absurd (unwritten (write h.0))
usage_exact o x (inr (inr h)) write unwritten status gives = inr h.0

gen_exact : {S K : Type 0} (seed size : ℕ) (o : Outcome) (x : Exchange S K) → ScenarioEnded seed size o.status (start x) (written x) → (o.status ≡ 4 → HasFailed x.sink) → ¬ HasFailed x.sink → (status : ℕ) → status ≡ 0 → (o.status ≡ status) ⊎ (o.status ≡ 5)
gen_exact seed size o x (inl h) write unwritten status gives = inl (h.0 ∙ sym gives)
gen_exact seed size o x (inr (inl h, part)) write unwritten status gives = absurd (unwritten (write h))
gen_exact seed size o x (inr (inr h, part)) write unwritten status gives = inr h

pub exact : {S K : Type 0} (task : Option Task) (o : Outcome) (x : Exchange S K) → Ended task o x → (o.status ≡ 3 → HasFailed x.source) → (o.status ≡ 4 → HasFailed x.sink) → ¬ HasFailed x.source → ¬ HasFailed x.sink → (status : ℕ) → Gives task x status → (o.status ≡ status) ⊎ (o.status ≡ 5)
exact None o x h read write unread unwritten status gives = usage_exact o x h.line write unwritten status gives
exact (Some (tasks.Run mode)) o x h read write unread unwritten status gives =
    let l = h.ended in
    lines_exact o x l.end status l.status read write unread unwritten (exact_lines run_course no_fault (run_text mode) l.taken (held x) (left x) o.journal (start x) (written x) l.end status l.told l.ended gives)
exact (Some (tasks.Zones format)) o x h read write unread unwritten status gives =
    let l = h.ended in
    lines_exact o x l.end status l.status read write unread unwritten (exact_lines zones_course no_zone_fault (zones_text format) l.taken (held x) (left x) o.journal (start x) (written x) l.end status l.told l.ended gives)
exact (Some (tasks.Gen seed size)) o x h read write unread unwritten status gives = gen_exact seed size o x h.text write unwritten status gives
