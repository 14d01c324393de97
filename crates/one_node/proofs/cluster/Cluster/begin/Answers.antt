use Rattle.std.proofs.Common.{◌≡◌, refl, sym, ap, ap₂, ◌∙◌, subst, reverse, [], ◌+◌, ◌≤◌, arith}
use Rattle.std.specs.Prelude.{List, Some}
use Rattle.mr_base.specs.declared.timestamps.Reading.{Reading}
use Rattle.range_log.specs.declared.entries.Lease.{Lease}
use Rattle.one_node_laws.specs.LinesRun.{with_line}
use Rattle.one_node_laws.specs.Runs.{IsRun}
use Rattle.one_node_laws.specs.Words.{greatest_start}
use Rattle.journal.specs.declared.entries.JournalEntry.{JournalEntry}
use Rattle.journal.specs.declared.events.Event.TheVariants as events
use Rattle.one_node.proofs.BeginLemmas.{begun_journal, begin_run, begin_known}
use Rattle.one_node.proofs.LastingLemmas.{lasts_from, shows_physical}
use Rattle.one_node.specs.Clock.{reading_of}
use Rattle.one_node.specs.Kept.{IsKnown}
use Rattle.one_node.specs.declared.range.Range.{Range}
use Rattle.one_node.specs.View.{View}
use Rattle.one_node.proofs.cluster.Cluster.begin.Goals as goal

pub invariant_of-self-2 : goal.invariant_of-self-2
invariant_of-self-2 c =
    let empty : reverse c.self.inside.journal.items ≡ [] = ap (λ (v : View). v.journal) c.self.view_is ∙ c.requires in
    let made : Range = record { lease = Some c.lease_until-lease.result; length = 1; ids = c.self.inside.range.ids; floor = c.self.inside.range.floor } in
    let until : c.self.inside.clock.physical ≤ c.reading.result.wall =
    subst (λ (r : Reading). c.self.inside.clock.physical ≤ r.wall) (sym c.reading.ensures) (shows_physical c.self.inside.clock.physical c.self.inside.clock.kept) in (
      c.self.invariant.0,
      subst (λ (j : List JournalEntry). IsKnown c.self.inside.clock.kept c.self.inside.attempts made j)
          (sym (begun_journal c.args.line (c.reading.result.wall + c.self.inside.settings.lease) c.self.inside.journal.items c.in_ok-steps.steps.items c.append.new.self.items c.lease_until-lease.result
          c.in_ok-append.ensures.items c.in_ok-steps.ensures c.lease_until-lease.ensures empty))
          (begin_known c.self.inside.clock.kept c.self.inside.attempts c.args.line (c.reading.result.wall + c.self.inside.settings.lease) c.self.inside.range made (reverse c.self.inside.journal.items)
          empty c.self.invariant.1 (ap Some c.lease_until-lease.ensures) refl refl refl),
      lasts_from c.self.inside.settings c.self.inside.clock.physical made c.lease_until-lease.result refl
          (subst (λ (l : Lease). c.self.inside.clock.physical + c.self.inside.settings.lease ≤ l.expiration) (sym c.lease_until-lease.ensures) (omega (arith, until))),
    )

pub returns-clause-run : goal.returns-clause-run
returns-clause-run c s r n =
    let empty : reverse c.self.inside.journal.items ≡ [] = ap (λ (v : View). v.journal) c.self.view_is ∙ c.requires in
    let kept : record { wall = 0; logical = 0 } ≡ c.self.inside.clock.kept = ap greatest_start (sym empty) ∙ c.self.invariant.1.starts in
    let reads : c.reading.result ≡ reading_of s.clock (record { wall = 0; logical = 0 }) =
    c.reading.ensures ∙ ap₂ reading_of (ap (λ (v : View). v.physical) c.self.view_is ∙ r.physical) (sym kept) in
    let expires : c.reading.result.wall + c.self.inside.settings.lease ≡ (reading_of s.clock (record { wall = 0; logical = 0 })).wall + s.settings.lease =
    ap₂ (λ (a : Reading) b. a.wall + b) reads (ap (λ (v : View). v.settings.lease) c.self.view_is ∙ ap (λ x. x.lease) r.settings) in
    record {
      settings = ap (λ (v : View). v.settings) c.self.view_is ∙ r.settings;
      physical = ap (λ (v : View). v.physical) c.self.view_is ∙ r.physical;
      run = subst (λ (j : List JournalEntry). IsRun (with_line s c.args.line events.Begin) j)
          (sym (begun_journal c.args.line (c.reading.result.wall + c.self.inside.settings.lease) c.self.inside.journal.items c.in_ok-steps.steps.items c.append.new.self.items c.lease_until-lease.result
          c.in_ok-append.ensures.items c.in_ok-steps.ensures c.lease_until-lease.ensures empty))
          (begin_run s c.args.line (c.reading.result.wall + c.self.inside.settings.lease) (subst (λ (j : List JournalEntry). IsRun s j) c.requires r.run) expires);
    }
