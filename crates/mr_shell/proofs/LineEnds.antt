-- How a command has ended, once what was to be said of that was written.
use Rattle.std.proofs.Common.{◌≡◌, ℕ, ◌<◌, List, [], ◌∷◌, ◌++◌, Option, ap, sym, refl, ◌∙◌, append-nil, inl, inr, subst, length, arith}
use Rattle.std.specs.Prelude.{◌⊎◌}
use Rattle.std.specs.Io.KnownBytes.{append_known}
use Rattle.journal.specs.declared.entries.JournalEntry.{JournalEntry}
use Rattle.mr_io.proofs.Told.{append_known-nil}
use Rattle.mr_shell.specs.Content.{AreAllLines, AreLines, AreTakenBefore, AreTakenFor, IsCut, IsWithinLimit, StopWithPiece}
use Rattle.mr_shell.specs.Course.{AreRun, Course, Text}
use Rattle.mr_shell.specs.Ends.{EndsPieces}
use Rattle.mr_shell.specs.LinesEnded.{EndsAfter, EndsWriting, HasEnded, ShowsAll, behind}
use Rattle.mr_shell.specs.Pieces.{Stops, StopsInside}
use Rattle.mr_shell.specs.Stopped.{StopsAtLine}
use Rattle.mr_shell.specs.Texts.{Says, WritesPart, Wrote, WrotePart}
use Rattle.mr_shell.specs.declared.outcome.End.{End}
use Rattle.mr_shell.specs.declared.outcome.End.TheVariants as ends
use Rattle.mr_shell.proofs.Written.{part_behind, wrote-more, wrote-same}
use Rattle.mr_shell.proofs.ContentLemmas.{cut_ended}
use Rattle.mr_shell.proofs.StopLemmas.{taken_before}

-- what was to be said behind the lines was said, or a part of it
said : (c : Course) (text : Text c.State) (end : End) (taken : List ℕ) (left : Option (List ℕ)) (lines : List (List ℕ)) (state : c.State) (journal : List JournalEntry) (start mid written : Option (List ℕ)) → AreRun c lines state journal → EndsAfter c end state taken left lines → Wrote start mid (text.shown state journal) → Wrote mid written (behind text end state journal) → EndsWriting c text (λ shown said. Wrote start written (shown ++ said)) end taken left journal
said c text end taken left lines state journal start mid written run ends shown w =
    (lines, state, run, ends, wrote-more start mid written (text.shown state journal) (behind text end state journal) shown w)

unsaid : (c : Course) (text : Text c.State) (end : End) (taken : List ℕ) (left : Option (List ℕ)) (lines : List (List ℕ)) (state : c.State) (journal : List JournalEntry) (start mid written : Option (List ℕ)) → AreRun c lines state journal → EndsAfter c end state taken left lines → Wrote start mid (text.shown state journal) → WrotePart mid written [] (behind text end state journal) → HasEnded c text ends.Write taken left journal start written
unsaid c text end taken left lines state journal start mid written run ends shown w =
    inr (end, (lines, state, run, ends, part_behind start mid written (text.shown state journal) (behind text end state journal) shown w))

short : (c : Course) (text : Text c.State) (taken : List ℕ) (left : Option (List ℕ)) (lines : List (List ℕ)) (journal : List JournalEntry) (start mid written : Option (List ℕ)) → written ≡ mid → IsWithinLimit taken → AreTakenBefore taken left lines → ShowsAll c text.shown lines journal start mid → HasEnded c text ends.Memory taken left journal start written
short c text taken left lines journal start mid written same within first shows = (within, inl (lines, first, (shows.0, shows.1, same ∙ shows.2)))

-- a line ended the run
line_ended : (c : Course) (text : Text c.State) (end result : End) (taken : List ℕ) (left : Option (List ℕ)) (line : List ℕ) (lines : List (List ℕ)) (journal : List JournalEntry) (start mid written : Option (List ℕ)) → AreTakenFor taken left (line ∷ lines) → IsWithinLimit taken → StopsAtLine c text.shown end line lines journal start mid → Says end result mid written → HasEnded c text result taken left journal start written
line_ended c text (ends.Fault fault number) result taken left line lines journal start mid written first within h (inl s) =
    rw s.0 (said c text (ends.Fault fault number) taken left lines h.1 journal start mid written h.3 (line, first, h.2, h.0, within) h.4 s.1)
line_ended c text (ends.Fault fault number) result taken left line lines journal start mid written first within h (inr (inl s)) =
    rw s.0 (short c text taken left lines journal start mid written s.2 within (taken_before taken left line lines first) (h.1, h.3, h.4))
line_ended c text (ends.Fault fault number) result taken left line lines journal start mid written first within h (inr (inr s)) =
    rw s.0 (unsaid c text (ends.Fault fault number) taken left lines h.1 journal start mid written h.3 (line, first, h.2, h.0, within) h.4 s.2)
line_ended c text ends.Memory result taken left line lines journal start mid written first within (inl h) (inl s) =
    rw s.0 (short c text taken left lines journal start mid written (wrote-same mid written s.1) within (taken_before taken left line lines first) h)
line_ended c text ends.Memory result taken left line lines journal start mid written first within (inr h) (inl s) =
    rw (s.0, wrote-same mid written s.1) (within, inr (line, lines, first, h))
line_ended c text ends.Memory result taken left line lines journal start mid written first within h (inr (inl s)) = absurd s.1
line_ended c text ends.Memory result taken left line lines journal start mid written first within h (inr (inr s)) = absurd s.1
line_ended c text ends.Write result taken left line lines journal start mid written first within h (inl s) =
    rw (s.0, wrote-same mid written s.1) (inl (within, (line, lines, first, h)))
line_ended c text ends.Write result taken left line lines journal start mid written first within h (inr (inl s)) = absurd s.1
line_ended c text ends.Write result taken left line lines journal start mid written first within h (inr (inr s)) = absurd s.1
line_ended c text ends.Whole result taken left line lines journal start mid written first within h s = absurd h
line_ended c text ends.Usage result taken left line lines journal start mid written first within h s = absurd h
line_ended c text ends.Read result taken left line lines journal start mid written first within h s = absurd h
line_ended c text ends.Size result taken left line lines journal start mid written first within h s = absurd h

-- memory ran out between two lines
short_ended : (c : Course) (text : Text c.State) (end result : End) (taken : List ℕ) (left : Option (List ℕ)) (lines : List (List ℕ)) (journal : List JournalEntry) (start mid written : Option (List ℕ)) → end ≡ ends.Memory → AreTakenBefore taken left lines → IsWithinLimit taken → ShowsAll c text.shown lines journal start mid → Says end result mid written → HasEnded c text result taken left journal start written
short_ended c text ends.Memory result taken left lines journal start mid written is first within h (inl s) =
    rw s.0 (short c text taken left lines journal start mid written (wrote-same mid written s.1) within first h)
short_ended c text ends.Memory result taken left lines journal start mid written is first within h (inr (inl s)) = absurd s.1
short_ended c text ends.Memory result taken left lines journal start mid written is first within h (inr (inr s)) = absurd s.1
short_ended c text ends.Write result taken left lines journal start mid written is first within h s = cc
short_ended c text (ends.Fault fault number) result taken left lines journal start mid written is first within h s = cc
short_ended c text ends.Whole result taken left lines journal start mid written is first within h s = cc
short_ended c text ends.Usage result taken left lines journal start mid written is first within h s = cc
short_ended c text ends.Read result taken left lines journal start mid written is first within h s = cc
short_ended c text ends.Size result taken left lines journal start mid written is first within h s = cc

module _ {R : Type 0} (HasRun : List (List ℕ) → R → Option (List ℕ) → Type 0) (StopsAt : End → List ℕ → List (List ℕ) → R → Option (List ℕ) → Type 0) (c : Course) (text : Text c.State) (journal : R → List JournalEntry) (start : Option (List ℕ)) (shows : (lines : List (List ℕ)) (runner : R) (written : Option (List ℕ)) → HasRun lines runner written → ShowsAll c text.shown lines (journal runner) start written) (stops : (end : End) (line : List ℕ) (lines : List (List ℕ)) (runner : R) (written : Option (List ℕ)) → StopsAt end line lines runner written → StopsAtLine c text.shown end line lines (journal runner) start written) where
  piece_ended : (end result : End) (taken front ahead : List ℕ) (left : Option (List ℕ)) (runner : R) (mid written : Option (List ℕ)) → taken ≡ front ++ ahead → length ahead < 65536 → IsWithinLimit taken → (((line : List ℕ) × (lines : List (List ℕ)) × AreLines front (line ∷ lines) × StopsAt end line lines runner mid) ⊎ ((end ≡ ends.Memory) × (lines : List (List ℕ)) × (rest : List ℕ) × IsCut front lines rest × HasRun lines runner mid)) → Says end result mid written → HasEnded c text result taken left (journal runner) start written
  piece_ended end result taken front ahead left runner mid written whole piece within (inl h) s =
      line_ended c text end result taken left h.0 h.1 (journal runner) start mid written (inl (record { front = front; ahead = ahead; ended = h.2; whole = whole; piece = piece })) within (stops end h.0 h.1 runner mid h.3) s
  piece_ended end result taken front ahead left runner mid written whole piece within (inr h) s =
      let before : StopWithPiece taken h.1 = record { front = front; rest = h.2; ahead = ahead; cut = h.3; whole = whole; piece = omega (arith, piece) } in
      short_ended c text end result taken left h.1 (journal runner) start mid written h.0 (inl before) within (shows h.1 runner mid h.4) s

  inside_ended : (end result : End) (taken : List ℕ) (left : Option (List ℕ)) (runner : R) (mid written : Option (List ℕ)) → StopsInside HasRun StopsAt end taken left runner mid → Says end result mid written → HasEnded c text result taken left (journal runner) start written
  inside_ended end result taken left runner mid written (within, inr h) s =
      line_ended c text end result taken left h.0 h.1 (journal runner) start mid written (inr h.2) within (stops end h.0 h.1 runner mid h.3) s
  inside_ended end result taken left runner mid written (within, inl h) s =
      piece_ended end result taken h.front h.ahead left runner mid written h.whole h.piece within h.stops s

  -- the run ended before the end of its source
  pub ended : (end result : End) (taken : List ℕ) (left : Option (List ℕ)) (runner : R) (mid written : Option (List ℕ)) → EndsPieces end → Stops HasRun StopsAt end taken left runner mid → Says end result mid written → HasEnded c text result taken left (journal runner) start written
  ended (ends.Fault fault number) result taken left runner mid written is h s = inside_ended (ends.Fault fault number) result taken left runner mid written h s
  ended ends.Memory result taken left runner mid written is h s = inside_ended ends.Memory result taken left runner mid written h s
  ended ends.Write result taken left runner mid written is h s = inside_ended ends.Write result taken left runner mid written h s
  ended ends.Size result taken left runner mid written is h (inl s) =
      let run = shows h.0 runner mid h.7 in
      rw s.0 (said c text ends.Size taken left h.0 run.0 (journal runner) start mid written run.1 (h.1, h.2, h.3, h.4, h.5, h.6) run.2 s.1)
  ended ends.Size result taken left runner mid written is h (inr (inl s)) = absurd s.1
  ended ends.Size result taken left runner mid written is h (inr (inr s)) =
      let run = shows h.0 runner mid h.7 in
      rw s.0 (unsaid c text ends.Size taken left h.0 run.0 (journal runner) start mid written run.1 (h.1, h.2, h.3, h.4, h.5, h.6) run.2 s.2)
  ended ends.Read result taken left runner mid written is h (inl s) =
      let run = shows h.0 runner mid h.4 in
      rw s.0 (said c text ends.Read taken left h.0 run.0 (journal runner) start mid written run.1 (h.1, h.2, h.3) run.2 s.1)
  ended ends.Read result taken left runner mid written is h (inr (inl s)) = absurd s.1
  ended ends.Read result taken left runner mid written is h (inr (inr s)) = absurd s.1
  ended ends.Whole result taken left runner mid written is h s = absurd is
  ended ends.Usage result taken left runner mid written is h s = absurd is

-- every line was run, and the report was written, or a part of it
pub whole_ended : (c : Course) (text : Text c.State) (result : End) (taken : List ℕ) (left : Option (List ℕ)) (lines : List (List ℕ)) (state : c.State) (journal : List JournalEntry) (start mid written : Option (List ℕ)) → AreRun c lines state journal → AreAllLines taken left lines → IsWithinLimit taken → Wrote start mid (text.shown state journal) → WritesPart result (text.report state journal) mid written → HasEnded c text result taken left journal start written
whole_ended c text ends.Whole taken left lines state journal start mid written run all within shown w = said c text ends.Whole taken left lines state journal start mid written run (all, within) shown w
whole_ended c text ends.Memory taken left lines state journal start mid written run all within shown w = short c text taken left lines journal start mid written w within (inr all) (state, run, shown)
whole_ended c text ends.Write taken left lines state journal start mid written run all within shown w = unsaid c text ends.Whole taken left lines state journal start mid written run (all, within) shown w
whole_ended c text ends.Usage taken left lines state journal start mid written run all within shown w = absurd w
whole_ended c text ends.Read taken left lines state journal start mid written run all within shown w = absurd w
whole_ended c text ends.Size taken left lines state journal start mid written run all within shown w = absurd w
whole_ended c text (ends.Fault fault number) taken left lines state journal start mid written run all within shown w = absurd w

-- there was no memory to read the first line
pub none_ended : (c : Course) (text : Text c.State) (left start : Option (List ℕ)) → c.Makes c.first [] → text.shown c.first [] ≡ [] → HasEnded c text ends.Memory [] left [] start start
none_ended c text left start makes none =
    let before : StopWithPiece [] [] = record { front = []; rest = []; ahead = []; cut = cut_ended [] [] refl; whole = refl; piece = omega arith } in
    (omega arith, inl ([], inl before, (c.first, record { tells = refl; made = makes }, append_known-nil start ∙ ap (append_known start) (sym none))))

-- whatever the end is, the journal was made of some lines
pub ended_run : (c : Course) (text : Text c.State) (end : End) (taken : List ℕ) (left : Option (List ℕ)) (journal : List JournalEntry) (start written : Option (List ℕ)) → HasEnded c text end taken left journal start written → (state : c.State) × c.Makes state journal
ended_run c text ends.Memory taken left journal start written (within, inl h) = (h.2.0, h.2.1.made)
ended_run c text ends.Memory taken left journal start written (within, inr h) = (h.3.1, h.3.5.made)
ended_run c text ends.Write taken left journal start written (inl h) = (h.1.3.1, h.1.3.4.made)
ended_run c text ends.Write taken left journal start written (inr h) = (h.1.1, h.1.2.made)
ended_run c text ends.Whole taken left journal start written h = (h.1, h.2.made)
ended_run c text ends.Usage taken left journal start written h = (h.1, h.2.made)
ended_run c text ends.Read taken left journal start written h = (h.1, h.2.made)
ended_run c text ends.Size taken left journal start written h = (h.1, h.2.made)
ended_run c text (ends.Fault fault number) taken left journal start written h = (h.1, h.2.made)
