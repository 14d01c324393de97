-- What a run has written, as its lines are read and its entries made.
use Rattle.std.proofs.Common.{◌≡◌, ℕ, ◌+◌, ◌<◌, ◌≤◌, List, [], ◌∷◌, ◌++◌, Option, refl, ap, sym, ◌∙◌, append_assoc, append-nil, inl, inr, subst, length, length-append, drop, arith}
use Rattle.std.specs.Prelude.{reverse}
use Rattle.std.specs.List.{flat_map}
use Rattle.std.proofs.lemmas.List.{reverse-append, reverse-reverse}
use Rattle.std.proofs.Math.Seq.{drop-append_seam}
use Rattle.std.specs.Io.KnownBytes.{append_known}
use Rattle.mr_base.specs.declared.ids.TxnId.{TxnId}
use Rattle.journal_text.specs.EntryText.{entry_text}
use Rattle.scenario.specs.FirstPath.{Reads}
use Rattle.journal.specs.Names.{NamesOnly}
use Rattle.scenario.specs.FirstSeen.{Seen}
use Rattle.journal.specs.declared.entries.JournalEntry.{JournalEntry}
use Rattle.journal.specs.declared.events.Event.{Event}
use Rattle.journal.specs.declared.events.Event.TheVariants as events
use Rattle.scenario.specs.declared.lines.Line.{Line}
use Rattle.scenario.specs.declared.lines.Line.TheVariants as lines
use Rattle.journal_text.specs.declared.modes.Mode.{Mode}
use Rattle.journal_text.proofs.MoreNames.{texts-more}
use Rattle.journal.proofs.NamesOnly.{NamesOnly-append, NamesOnly-reverse, NamesOnly-weaker}
use Rattle.one_node.specs.Cluster.{GoesOn, IsOf, IsRunOf}
use Rattle.one_node.specs.View.{View}
use Rattle.mr_base.specs.declared.settings.Settings.{Settings}
use Rattle.mr_shell.specs.Course.{RunsLine, Tells}
use Rattle.mr_shell.specs.LinesEnded.{ShowsAll, ShowsEntries, ShowsPart}
use Rattle.mr_shell.specs.RunEnded.{run_course, run_shown}
use Rattle.mr_shell.specs.Session.{Follows}
use Rattle.one_node_laws.specs.LinesRun.{with_line}
use Rattle.mr_shell.specs.Story.{Story, run_with}
use Rattle.mr_shell.specs.Texts.{Report, texts, journal_text, Wrote, WrotePart}
use Rattle.mr_shell.proofs.Written.{part_behind, wrote-more}

flat_map-append : (f : JournalEntry → List ℕ) (xs ys : List JournalEntry) → flat_map f (xs ++ ys) ≡ flat_map f xs ++ flat_map f ys
flat_map-append f [] ys = refl
flat_map-append f (x ∷ xs) ys = ap (λ (l : List ℕ). f x ++ l) (flat_map-append f xs ys) ∙ sym (append_assoc (f x) (flat_map f xs) (flat_map f ys))

pub texts-append : (mode : Mode) (names : List (List ℕ)) (es fs : List JournalEntry) → texts mode names (es ++ fs) ≡ texts mode names es ++ texts mode names fs
texts-append mode names es fs = flat_map-append (entry_text names mode) es fs

-- newer entries stand behind the older ones in the text
pub journal_text-append : (mode : Mode) (names : List (List ℕ)) (fresh journal : List JournalEntry) → journal_text mode names (fresh ++ journal) ≡ journal_text mode names journal ++ journal_text mode names fresh
journal_text-append mode names fresh journal = ap (texts mode names) (reverse-append fresh journal) ∙ texts-append mode names (reverse journal) (reverse fresh)

-- more names leave the text of a journal as it is
pub journal_text-more : (mode : Mode) (names more : List (List ℕ)) (journal : List JournalEntry) → NamesOnly (λ t. t.0 < length names) journal → journal_text mode (names ++ more) journal ≡ journal_text mode names journal
journal_text-more mode names more journal h = texts-more names more mode (reverse journal) (NamesOnly-reverse (λ t. t.0 < length names) journal h)

-- a line leaves the names that were there
pub names_stay : (seen : Seen) (text : List ℕ) (line : Line) (seen' : Seen) → Reads seen text line seen' → (more : List (List ℕ)) × (seen'.names ≡ seen.names ++ more)
names_stay seen text lines.Skipped seen' h = ([], ap (λ (s : Seen). s.names) h.1 ∙ sym (append-nil seen.names))
names_stay seen text (lines.Cluster new) seen' h = ([], ap (λ (s : Seen). s.names) h.3 ∙ sym (append-nil seen.names))
names_stay seen text (lines.Node info clock) seen' h = ([], ap (λ (s : Seen). s.names) h.3 ∙ sym (append-nil seen.names))
names_stay seen text (lines.Sql sql) seen' h =
    elim h.1 [
      | inl k ↦ ([], ap (λ (s : Seen). s.names) k.2 ∙ sym (append-nil seen.names))
      | inr k ↦ ([], ap (λ (s : Seen). s.names) k.2 ∙ sym (append-nil seen.names))
    ]
names_stay seen text (lines.Event events.Begin) seen' h = ([], ap (λ (s : Seen). s.names) h.2 ∙ sym (append-nil seen.names))
names_stay seen text (lines.Event (events.Txn t g k list)) seen' h = (h.4 ∷ [], ap (λ (s : Seen). s.names) h.8)
names_stay seen text (lines.Event _) seen' h = absurd h

-- the transaction of an event's line has a name then
pub named : (seen : Seen) (text : List ℕ) (e : Event) (seen' : Seen) → Reads seen text (lines.Event e) seen' → (t : TxnId) → IsOf e t → t.0 < length seen'.names
named seen text events.Begin seen' h t is = absurd is
named seen text (events.Txn u g k list) seen' h t is =
    let at : t.0 ≡ length seen.names = ap (λ (x : TxnId). x.0) (is ∙ h.1) in
    let more : length seen'.names ≡ length (seen.names ++ h.4 ∷ []) = ap (λ (s : Seen). length s.names) h.8 in
    omega (arith, at, more, length-append seen.names (h.4 ∷ []))
named seen text _ seen' h t is = absurd is

within_more : (names more : List (List ℕ)) (t : TxnId) → t.0 < length names → t.0 < length (names ++ more)
within_more names more t h = omega (arith, h, length-append names more)

-- the names of a further line leave what a report shows
same_text : (story : Story) (settings : Settings) (cluster : View) (report : Report) (written : Option (List ℕ)) (text : List ℕ) (line : Line) (seen : Seen) → Reads story.seen text line seen → Follows story settings cluster report written → journal_text report.mode seen.names cluster.journal ≡ journal_text report.mode story.seen.names cluster.journal
same_text story settings cluster report written text line seen read f =
    let n = names_stay story.seen text line seen read in
    ap (λ (names : List (List ℕ)). journal_text report.mode names cluster.journal) n.1 ∙ journal_text-more report.mode story.seen.names n.0 cluster.journal f.names

-- a line that makes no entry
pub follows_names : (story : Story) (settings : Settings) (cluster : View) (report : Report) (written : Option (List ℕ)) (text : List ℕ) (line : Line) (seen : Seen) → Reads story.seen text line seen → Follows story settings cluster report written → Follows (record { seen = seen; run = story.run }) settings cluster report written
follows_names story settings cluster report written text line seen read f =
    let n = names_stay story.seen text line seen read in
    record {
      made = f.made;
      run = f.run;
      names = subst (λ (names : List (List ℕ)). NamesOnly (λ t. t.0 < length names) cluster.journal) (sym n.1) (NamesOnly-weaker (λ t. t.0 < length story.seen.names) (λ t. t.0 < length (story.seen.names ++ n.0)) (within_more story.seen.names n.0) cluster.journal f.names);
      text = f.text ∙ ap (append_known report.start) (sym (same_text story settings cluster report written text line seen read f));
    }

-- a line's entries behind the text of those that were there
pub wrote_entries : (story : Story) (settings : Settings) (cluster : View) (report : Report) (mid written : Option (List ℕ)) (text : List ℕ) (line : Line) (seen : Seen) (more : List ℕ) → Reads story.seen text line seen → Follows story settings cluster report mid → Wrote mid written more → Wrote report.start written (journal_text report.mode seen.names cluster.journal ++ more)
wrote_entries story settings cluster report mid written text line seen more read f w =
    wrote-more report.start mid written (journal_text report.mode seen.names cluster.journal) more (follows_names story settings cluster report mid text line seen read f).text w

-- a line from `begin` on whose entries were all written
pub follows_event : (story : Story) (settings : Settings) (old new : View) (report : Report) (mid written : Option (List ℕ)) (text : List ℕ) (number : ℕ) (e : Event) (seen : Seen) → IsRunOf (with_line story.run number e) new → Reads story.seen text (lines.Event e) seen → Follows story settings old report mid → (goes : GoesOn old e new) → Wrote mid written (journal_text report.mode seen.names goes.fresh) → Follows (record { seen = seen; run = with_line story.run number e }) settings new report written
follows_event story settings old new report mid written text number e seen ran read f goes w =
    let kept = follows_names story settings old report mid text (lines.Event e) seen read f in
    record {
      made = f.made;
      run = ran;
      names = subst (NamesOnly (λ t. t.0 < length seen.names)) (sym goes.journal) (NamesOnly-append (λ t. t.0 < length seen.names) goes.fresh old.journal (NamesOnly-weaker (IsOf e) (λ t. t.0 < length seen.names) (named story.seen text e seen read) goes.fresh goes.names) kept.names);
      text = wrote_entries story settings old report mid written text (lines.Event e) seen (journal_text report.mode seen.names goes.fresh) read f w ∙ ap (append_known report.start) (sym (ap (journal_text report.mode seen.names) goes.journal ∙ journal_text-append report.mode seen.names goes.fresh old.journal));
    }

-- what a journal's entries are behind those that it had
pub fresh_entries : (was is : List JournalEntry) (old new : View) (e : Event) → reverse was ≡ old.journal → reverse is ≡ new.journal → (goes : GoesOn old e new) → drop (length was) is ≡ reverse goes.fresh
fresh_entries was is old new e h k goes =
    let all : is ≡ was ++ reverse goes.fresh =
    sym (reverse-reverse is) ∙ ap (λ (l : List JournalEntry). reverse l) (k ∙ (goes.journal ∙ ap (λ (l : List JournalEntry). goes.fresh ++ l) (sym h))) ∙ reverse-append goes.fresh (reverse was) ∙ ap (λ (l : List JournalEntry). l ++ reverse goes.fresh) (reverse-reverse was) in
    ap (drop (length was)) all ∙ drop-append_seam was (reverse goes.fresh)

pub fewer_entries : (was is : List JournalEntry) (old new : View) (e : Event) → reverse was ≡ old.journal → reverse is ≡ new.journal → (goes : GoesOn old e new) → length was ≤ length is
fewer_entries was is old new e h k goes =
    let all : is ≡ was ++ reverse goes.fresh =
    sym (reverse-reverse is) ∙ ap (λ (l : List JournalEntry). reverse l) (k ∙ (goes.journal ∙ ap (λ (l : List JournalEntry). goes.fresh ++ l) (sym h))) ∙ reverse-append goes.fresh (reverse was) ∙ ap (λ (l : List JournalEntry). l ++ reverse goes.fresh) (reverse-reverse was) in
    omega (arith, ap (λ (l : List JournalEntry). length l) all, length-append was (reverse goes.fresh))

-- a line, its story and the journal that it made
pub runs_line : (text : List ℕ) (before : List (List ℕ)) (earlier story : Story) (old new : View) (line : Line) → IsRunOf earlier.run old → IsRunOf story.run new → Tells run_course before earlier → Reads earlier.seen text line story.seen → story.run ≡ run_with earlier.run (length before + 1) line → RunsLine run_course text before earlier old.journal story new.journal
runs_line text before earlier story old new line was ran tells read run =
    record { were = record { tells = tells; made = was.run }; step = (line, read, run); made = ran.run }

-- writing stopped between two entries
pub shows_entries : (text : List ℕ) (before : List (List ℕ)) (earlier story : Story) (settings : Settings) (old new : View) (report : Report) (mid written : Option (List ℕ)) (e : Event) (shown unshown : List JournalEntry) → IsRunOf story.run new → Tells run_course before earlier → Reads earlier.seen text (lines.Event e) story.seen → story.run ≡ run_with earlier.run (length before + 1) (lines.Event e) → Follows earlier settings old report mid → (goes : GoesOn old e new) → reverse goes.fresh ≡ shown ++ unshown → Wrote mid written (texts report.mode story.seen.names shown) → ShowsEntries run_course (run_shown report.mode) text before new.journal report.start written
shows_entries text before earlier story settings old new report mid written e shown unshown ran tells read run f goes split w =
    let fresh : goes.fresh ≡ reverse unshown ++ reverse shown = sym (reverse-reverse goes.fresh) ∙ ap (λ (l : List JournalEntry). reverse l) split ∙ reverse-append shown unshown in (
      earlier,
      story,
      old.journal,
      reverse shown,
      reverse unshown,
      runs_line text before earlier story old new (lines.Event e) f.run ran tells read run,
      goes.journal ∙ ap (λ (l : List JournalEntry). l ++ old.journal) fresh ∙ append_assoc (reverse unshown) (reverse shown) old.journal,
      wrote_entries earlier settings old report mid written text (lines.Event e) story.seen (texts report.mode story.seen.names shown) read f w
          ∙ ap (append_known report.start) (sym (journal_text-append report.mode story.seen.names (reverse shown) old.journal ∙ ap (λ (l : List JournalEntry). journal_text report.mode story.seen.names old.journal ++ texts report.mode story.seen.names l) (reverse-reverse shown))),
    )

-- a write failed among a line's entries
pub shows_part : (text : List ℕ) (before : List (List ℕ)) (earlier story : Story) (settings : Settings) (old new : View) (report : Report) (mid written : Option (List ℕ)) (e : Event) → IsRunOf story.run new → Tells run_course before earlier → Reads earlier.seen text (lines.Event e) story.seen → story.run ≡ run_with earlier.run (length before + 1) (lines.Event e) → Follows earlier settings old report mid → (goes : GoesOn old e new) → WrotePart mid written [] (journal_text report.mode story.seen.names goes.fresh) → ShowsPart run_course (run_shown report.mode) text before new.journal report.start written
shows_part text before earlier story settings old new report mid written e ran tells read run f goes w = (
  earlier,
  story,
  old.journal,
  goes.fresh,
  runs_line text before earlier story old new (lines.Event e) f.run ran tells read run,
  goes.journal,
  journal_text report.mode story.seen.names goes.fresh,
  ap (journal_text report.mode story.seen.names) goes.journal ∙ (journal_text-append report.mode story.seen.names goes.fresh old.journal ∙ ap (λ (l : List ℕ). l ++ journal_text report.mode story.seen.names goes.fresh) (same_text earlier settings old report mid text (lines.Event e) story.seen read f)),
  part_behind report.start mid written (journal_text report.mode earlier.seen.names old.journal) (journal_text report.mode story.seen.names goes.fresh) f.text w,
)

-- nothing of a line was run
pub shows_all : (before : List (List ℕ)) (story : Story) (settings : Settings) (cluster : View) (report : Report) (written : Option (List ℕ)) → Tells run_course before story → Follows story settings cluster report written → ShowsAll run_course (run_shown report.mode) before cluster.journal report.start written
shows_all before story settings cluster report written tells f = (story, record { tells = tells; made = f.run.run }, f.text)
