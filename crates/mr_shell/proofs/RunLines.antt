-- A session, as its lines are read and run.
use Rattle.std.proofs.Common.{◌≡◌, ℕ, ◌+◌, ◌<◌, List, [], ◌∷◌, Option, refl, ap, sym, ◌∙◌, subst, inl, inr, length, drop, add-one}
use Rattle.std.specs.Prelude.{◌⊎◌, reverse}
use Rattle.std.specs.Io.KnownBytes.{append_known}
use Rattle.mr_base.specs.declared.byte_string.Bytes.{Bytes}
use Rattle.mr_base.specs.declared.settings.Settings.{Settings}
use Rattle.journal.specs.Names.{NamesOnly}
use Rattle.journal.specs.declared.entries.JournalEntry.{JournalEntry}
use Rattle.journal.specs.declared.events.Event.{Event}
use Rattle.scenario.specs.declared.lines.Line.{Line}
use Rattle.scenario.specs.declared.lines.Line.TheVariants as lines
use Rattle.journal_text.specs.declared.modes.Mode.{Mode}
use Rattle.one_node.specs.Cluster.{GoesOn, IsRunOf}
use Rattle.one_node.specs.View.{View}
use Rattle.mr_shell.specs.RunEnded.{run_shown}
use Rattle.mr_shell.specs.Session.{HasRead, HasRun, StopsAt}
use Rattle.one_node_laws.specs.LinesRun.{IsNextLine, LinesRun, with_line}
use Rattle.mr_shell.specs.Story.{run_with}
use Rattle.mr_shell.specs.Texts.{Report, ShowsSome, Wrote, WrotePart, journal_text, texts}
use Rattle.mr_shell.specs.declared.outcome.End.{End}
use Rattle.mr_shell.specs.declared.outcome.End.TheVariants as ends
use Rattle.mr_shell.specs.declared.session.Session.{Session}
use Rattle.mr_shell.proofs.NextLine.{is_next_line}
use Rattle.mr_shell.proofs.RunLemmas.{follows_event, follows_names, fresh_entries, shows_entries, shows_part}

-- a line that makes no entry and leaves the cluster
pub has_run_quiet : (line : Line) (text : List ℕ) (before : List (List ℕ)) (report : Report) (written : Option (List ℕ)) (session : Session) → (line ≡ lines.Skipped) ⊎ ((sql : Bytes) × (line ≡ lines.Sql sql)) → HasRead report line text before session written → HasRun report (text ∷ before) session written
has_run_quiet line text before report written session (inl e) h =
    record {
      story = record { seen = session.scenario; run = h.story.run };
      tells = (h.story, h.tells, (line, h.read, sym (ap (run_with h.story.run (length before + 1)) e)));
      seen = refl;
      shown = h.shown;
      number = h.number ∙ add-one (length before);
      follows = follows_names h.story session.settings session.cluster report written text line session.scenario h.read h.follows;
    }
has_run_quiet line text before report written session (inr e) h =
    record {
      story = record { seen = session.scenario; run = h.story.run };
      tells = (h.story, h.tells, (line, h.read, sym (ap (run_with h.story.run (length before + 1)) e.1)));
      seen = refl;
      shown = h.shown;
      number = h.number ∙ add-one (length before);
      follows = follows_names h.story session.settings session.cluster report written text line session.scenario h.read h.follows;
    }

-- a line that makes the cluster anew, while it has no entry
pub has_run_anew : (line : Line) (text : List ℕ) (before : List (List ℕ)) (report : Report) (written : Option (List ℕ)) (session : Session) (settings : Settings) (cluster : View) (run : LinesRun) (h : HasRead report line text before session written) → run ≡ run_with h.story.run (length before + 1) line → settings ≡ run.settings → IsRunOf run cluster → session.cluster.journal ≡ [] → cluster.journal ≡ [] → HasRun report (text ∷ before) (record session { settings = settings; cluster = cluster }) written
has_run_anew line text before report written session settings cluster run h e made ran none still =
    record {
      story = record { seen = session.scenario; run = run };
      tells = (h.story, h.tells, (line, h.read, e));
      seen = refl;
      shown = h.shown;
      number = h.number ∙ add-one (length before);
      follows = record {
        made = made;
        run = ran;
        names = subst (NamesOnly (λ t. t.0 < length session.scenario.names)) (sym still) tt;
        text = h.follows.text ∙ ap (append_known report.start) (ap (run_shown report.mode h.story) none ∙ sym (ap (journal_text report.mode session.scenario.names) still));
      };
    }

-- the cluster has run the next line
has_run_next : (text : List ℕ) (before : List (List ℕ)) (report : Report) (mid : Option (List ℕ)) (session : Session) (cluster : View) (e : Event) → ((s : LinesRun) → IsRunOf s session.cluster → IsNextLine s session.lines e → IsRunOf (with_line s session.lines e) cluster) → (h : HasRead report (lines.Event e) text before session mid) → IsRunOf (with_line h.story.run (length before + 1) e) cluster
has_run_next text before report mid session cluster e law h =
    subst (λ (n : ℕ). IsRunOf (with_line h.story.run n e) cluster) h.number (law h.story.run h.follows.run (subst (λ (n : ℕ). IsNextLine h.story.run n e) (sym h.number) (is_next_line before h.story text e session.scenario h.tells h.read)))

-- a line whose entries were written
pub has_run_event : (text : List ℕ) (before : List (List ℕ)) (report : Report) (mid written : Option (List ℕ)) (session : Session) (cluster : View) (e : Event) (was is : List JournalEntry) (names : List (List ℕ)) (entries : List JournalEntry) → ((s : LinesRun) → IsRunOf s session.cluster → IsNextLine s session.lines e → IsRunOf (with_line s session.lines e) cluster) → reverse was ≡ session.cluster.journal → reverse is ≡ cluster.journal → names ≡ session.scenario.names → entries ≡ drop (length was) is → GoesOn session.cluster e cluster → Wrote mid written (texts session.mode names entries) → HasRead report (lines.Event e) text before session mid → HasRun report (text ∷ before) (record session { cluster = cluster }) written
has_run_event text before report mid written session cluster e was is names entries law then now same after goes w h =
    let fresh : Wrote mid written (journal_text report.mode session.scenario.names goes.fresh) =
    subst (λ (m : Mode). Wrote mid written (texts m names entries)) h.shown w ∙ (ap (λ (ns : List (List ℕ)). append_known mid (texts report.mode ns entries)) same ∙ ap (λ (es : List JournalEntry). append_known mid (texts report.mode session.scenario.names es)) (after ∙ fresh_entries was is session.cluster cluster e then now goes)) in
    record {
      story = record { seen = session.scenario; run = run_with h.story.run (length before + 1) (lines.Event e) };
      tells = (h.story, h.tells, (lines.Event e, h.read, refl));
      seen = refl;
      shown = h.shown;
      number = h.number ∙ add-one (length before);
      follows = follows_event h.story session.settings session.cluster cluster report mid written text (length before + 1) e session.scenario (has_run_next text before report mid session cluster e law h) h.read h.follows goes fresh;
    }

-- a line whose entries were written in part
pub stops_at_event : (end : End) (text : List ℕ) (before : List (List ℕ)) (report : Report) (mid written : Option (List ℕ)) (session : Session) (cluster : View) (e : Event) (was is : List JournalEntry) (names : List (List ℕ)) (entries : List JournalEntry) → ((s : LinesRun) → IsRunOf s session.cluster → IsNextLine s session.lines e → IsRunOf (with_line s session.lines e) cluster) → reverse was ≡ session.cluster.journal → reverse is ≡ cluster.journal → names ≡ session.scenario.names → entries ≡ drop (length was) is → GoesOn session.cluster e cluster → ShowsSome end session.mode names entries mid written → HasRead report (lines.Event e) text before session mid → StopsAt report end text before cluster.journal written
stops_at_event ends.Memory text before report mid written session cluster e was is names entries law then now same after goes w h =
    let v = subst (λ (m : Mode). ShowsSome ends.Memory m names entries mid written) h.shown w in
    inr (shows_entries text before h.story (record { seen = session.scenario; run = run_with h.story.run (length before + 1) (lines.Event e) }) session.settings session.cluster cluster report mid written e v.0 v.1 (has_run_next text before report mid session cluster e law h) h.tells h.read refl h.follows goes (sym (after ∙ fresh_entries was is session.cluster cluster e then now goes) ∙ v.2) (v.3 ∙ ap (λ (ns : List (List ℕ)). append_known mid (texts report.mode ns v.0)) same))
stops_at_event ends.Write text before report mid written session cluster e was is names entries law then now same after goes w h =
    let shown : texts session.mode names entries ≡ journal_text report.mode session.scenario.names goes.fresh =
    ap (λ (m : Mode). texts m names entries) h.shown ∙ (ap (λ (ns : List (List ℕ)). texts report.mode ns entries) same ∙ ap (texts report.mode session.scenario.names) (after ∙ fresh_entries was is session.cluster cluster e then now goes)) in
    shows_part text before h.story (record { seen = session.scenario; run = run_with h.story.run (length before + 1) (lines.Event e) }) session.settings session.cluster cluster report mid written e (has_run_next text before report mid session cluster e law h) h.tells h.read refl h.follows goes (subst (WrotePart mid written []) shown w)
stops_at_event ends.Whole text before report mid written session cluster e was is names entries law then now same after goes w h = absurd w
stops_at_event ends.Usage text before report mid written session cluster e was is names entries law then now same after goes w h = absurd w
stops_at_event ends.Read text before report mid written session cluster e was is names entries law then now same after goes w h = absurd w
stops_at_event ends.Size text before report mid written session cluster e was is names entries law then now same after goes w h = absurd w
stops_at_event (ends.Fault fault number) text before report mid written session cluster e was is names entries law then now same after goes w h = absurd w
