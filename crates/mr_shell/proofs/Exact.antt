-- How a command ends, by what its source holds.
use Rattle.std.proofs.Common.{◌≡◌, ◌≢◌, ℕ, List, [], ◌∷◌, ◌++◌, Option, Some, None, refl, ap, sym, ◌∙◌, subst, inl, inr, length, length-append, append-nil, append_assoc, arith}
use Rattle.std.specs.Prelude.{◌⊎◌}
use Rattle.std.specs.Io.KnownBytes.{prepend_known}
use Rattle.journal.specs.declared.entries.JournalEntry.{JournalEntry}
use Rattle.mr_shell.specs.Content.{AreTakenFor, IsCut, IsWithinLimit, with_last}
use Rattle.mr_shell.specs.Course.{Course, Tells, Text}
use Rattle.mr_shell.specs.Ends.{status_of}
use Rattle.mr_shell.specs.Gives.{EndWithinLimit, IsFaultless, IsFaulty, IsTooLarge, LinesGive}
use Rattle.mr_shell.specs.LinesEnded.{HasEnded}
use Rattle.mr_shell.specs.declared.outcome.End.{End}
use Rattle.mr_shell.specs.declared.outcome.End.TheVariants as ends
use Rattle.mr_shell.proofs.ContentLemmas.{AreFirstLines, BeginsWith, begins_more}
use Rattle.mr_shell.proofs.OneCut.{begins_first, first_of_all, within_first}

-- a run that goes beyond the limit takes more bytes than there are
too_few : (bytes taken left first : List ℕ) (beyond : ℕ) → bytes ≡ taken ++ left → IsWithinLimit bytes → taken ≡ first ++ beyond ∷ [] → length first ≡ 16777216 → ⊥
too_few bytes taken left first beyond e within is long =
    omega (arith, within, ap (λ (l : List ℕ). length l) e, length-append taken left, ap (λ (l : List ℕ). length l) is, length-append first (beyond ∷ []), long)

-- a run within the limit doesn't come to the end of more bytes
too_many : (bytes taken left first beyond : List ℕ) → bytes ≡ taken ++ left → bytes ≡ first ++ beyond → IsWithinLimit taken → left ≡ [] → length first ≡ 16777216 → beyond ≢ [] → ⊥
too_many bytes taken left first [] e is within ended long some = some refl
too_many bytes taken left first (b ∷ beyond) e is within ended long some =
    omega (arith, within, ap (λ (l : List ℕ). length l) (sym e ∙ is), length-append taken left, ap (λ (l : List ℕ). length l) ended, length-append first (b ∷ beyond), long)

-- what was taken for lines begins with them
first_lines : (taken : List ℕ) (left : Option (List ℕ)) (lines : List (List ℕ)) → AreTakenFor taken left lines → AreFirstLines taken left lines
first_lines taken left lines (inl h) = inl (record { front = h.front; beyond = h.ahead; ended = h.ended; whole = h.whole })
first_lines taken left lines (inr h) = inr h

held_lines : (bytes : List ℕ) (lines : List (List ℕ)) → EndWithinLimit bytes lines → AreFirstLines bytes (Some []) lines
held_lines bytes lines (inl h) = inl (record { front = h.0; beyond = h.1; ended = h.2; whole = h.3 })
held_lines bytes lines (inr h) = inr h.0

-- lines that a run within the limit took end within the limit
first_begins : (bytes taken left first beyond : List ℕ) (lines : List (List ℕ)) → bytes ≡ taken ++ left → bytes ≡ first ++ beyond → IsWithinLimit taken → length first ≡ 16777216 → beyond ≢ [] → AreFirstLines taken (Some left) lines → BeginsWith first lines
first_begins bytes taken left first beyond lines e is within long some (inl h) =
    let p = within_first taken left first beyond (sym e ∙ is) (omega (arith, within, long)) in
    subst (λ (l : List ℕ). BeginsWith l lines) (sym p.1) (begins_more taken p.0 lines h)
first_begins bytes taken left first beyond lines e is within long some (inr h) = absurd (too_many bytes taken left first beyond e is within h.source long some)

-- lines that end within the limit are the first of those up to it
held_begins : (bytes taken left first : List ℕ) (beyond : ℕ) (lines : List (List ℕ)) → bytes ≡ taken ++ left → taken ≡ first ++ beyond ∷ [] → length first ≡ 16777216 → EndWithinLimit bytes lines → BeginsWith first lines
held_begins bytes taken left first beyond lines e is long (inl h) =
    let whole : h.0 ++ h.1 ≡ first ++ (beyond ∷ left) = sym h.3 ∙ (e ∙ (ap (λ (l : List ℕ). l ++ left) is ∙ append_assoc first (beyond ∷ []) left)) in
    let p = within_first h.0 h.1 first (beyond ∷ left) whole (omega (arith, h.4, long)) in
    record { front = h.0; beyond = p.0; ended = h.2; whole = p.1 }
held_begins bytes taken left first beyond lines e is long (inr h) = absurd (too_few bytes taken left first beyond e h.1 is long)

tells_part : (c : Course) (later lines : List (List ℕ)) (state : c.State) → Tells c (later ++ lines) state → (part : c.State) × Tells c lines part
tells_part c [] lines state h = (state, h)
tells_part c (line ∷ later) lines state h = tells_part c later lines h.0 h.1

module _ (c : Course) (no_fault : (lines : List (List ℕ)) (line : List ℕ) (state whole : c.State) (fault : ℕ) → Tells c lines state → Tells c (line ∷ lines) whole → c.HasFault state line fault → ⊥) (text : Text c.State) (taken left bytes : List ℕ) (journal : List JournalEntry) (start written : Option (List ℕ)) (e : bytes ≡ taken ++ left) where
  none_before : (all later lines : List (List ℕ)) (line : List ℕ) (whole state : c.State) (fault : ℕ) → all ≡ later ++ (line ∷ lines) → Tells c all whole → Tells c lines state → c.HasFault state line fault → ⊥
  none_before all later lines line whole state fault is tells before has =
      let p = tells_part c later (line ∷ lines) whole (subst (λ (l : List (List ℕ)). Tells c l whole) is tells) in
      no_fault lines line state p.0 fault before p.1 has

  faultless : (end : End) → HasEnded c text end taken (Some left) journal start written → IsFaultless c bytes → end ≢ ends.Read → end ≢ ends.Write → (status_of end ≡ 0) ⊎ (status_of end ≡ 5)
  faultless ends.Whole h known read write = inl refl
  faultless ends.Memory h known read write = inr refl
  faultless ends.Read h known read write = absurd (read refl)
  faultless ends.Write h known read write = absurd (write refl)
  faultless ends.Usage h known read write = absurd h.3
  faultless (ends.Fault fault number) h known read write =
      let all = known.2 in
      let f = h.3 in
      let first = first_lines taken (Some left) (f.0 ∷ h.0) f.1 in
      let p = first_of_all taken left (f.0 ∷ h.0) all.ended all.rest first (subst (λ (l : List ℕ). IsCut l all.ended all.rest) e all.cut) in
      absurd (none_before known.1 p.0 h.0 f.0 known.3 h.1 fault (all.last ∙ p.1) known.4 h.2.tells f.2)
  faultless ends.Size h known read write =
      let f = h.3 in
      absurd (too_few bytes taken left f.0 f.2 e known.0 f.3 f.4)

  faulty : (end : End) → HasEnded c text end taken (Some left) journal start written → IsFaulty c bytes → end ≢ ends.Read → end ≢ ends.Write → (status_of end ≡ 1) ⊎ (status_of end ≡ 5)
  faulty (ends.Fault fault number) h known read write = inl refl
  faulty ends.Memory h known read write = inr refl
  faulty ends.Read h known read write = absurd (read refl)
  faulty ends.Write h known read write = absurd (write refl)
  faulty ends.Usage h known read write = absurd h.3
  faulty ends.Whole h known read write =
      let all = h.3.0 in
      let same : taken ≡ bytes ++ [] = sym (append-nil taken) ∙ (ap (λ (l : List ℕ). taken ++ l) (sym all.source) ∙ (sym e ∙ sym (append-nil bytes))) in
      let first = held_lines bytes (known.0 ∷ known.1) known.2 in
      let p = first_of_all bytes [] (known.0 ∷ known.1) all.ended all.rest first (subst (λ (l : List ℕ). IsCut l all.ended all.rest) same all.cut) in
      absurd (none_before h.0 p.0 known.1 known.0 h.1 known.3 known.5 (all.last ∙ p.1) h.2.tells known.4 known.6)
  faulty ends.Size h known read write =
      let f = h.3 in
      let first = held_begins bytes taken left f.0 f.2 (known.0 ∷ known.1) e f.3 f.4 known.2 in
      let p = begins_first f.0 (known.0 ∷ known.1) h.0 f.1 first f.5 in
      absurd (none_before h.0 p.0 known.1 known.0 h.1 known.3 known.5 p.1 h.2.tells known.4 known.6)

  too_large : (end : End) → HasEnded c text end taken (Some left) journal start written → IsTooLarge c bytes → end ≢ ends.Read → end ≢ ends.Write → (status_of end ≡ 7) ⊎ (status_of end ≡ 5)
  too_large ends.Size h known read write = inl refl
  too_large ends.Memory h known read write = inr refl
  too_large ends.Read h known read write = absurd (read refl)
  too_large ends.Write h known read write = absurd (write refl)
  too_large ends.Usage h known read write = absurd h.3
  too_large ends.Whole h known read write =
      absurd (too_many bytes taken left known.0 known.1 e known.3 h.3.1 h.3.0.source known.4 known.5)
  too_large (ends.Fault fault number) h known read write =
      let f = h.3 in
      let first = first_begins bytes taken left known.0 known.1 (f.0 ∷ h.0) e known.3 f.4 known.4 known.5 (first_lines taken (Some left) (f.0 ∷ h.0) f.1) in
      let p = begins_first known.0 (f.0 ∷ h.0) known.6 known.2 first known.7 in
      absurd (none_before known.6 p.0 h.0 f.0 known.8 h.1 fault p.1 known.9 h.2.tells f.2)

  given : (end : End) (status : ℕ) → HasEnded c text end taken (Some left) journal start written → LinesGive c (Some bytes) status → end ≢ ends.Read → end ≢ ends.Write → (status_of end ≡ status) ⊎ (status_of end ≡ 5)
  given end status h (inl k) read write = rw k.0 (faultless end h k.1 read write)
  given end status h (inr (inl k)) read write = rw k.0 (faulty end h k.1 read write)
  given end status h (inr (inr k)) read write = rw k.0 (too_large end h k.1 read write)

-- where no call failed, the status is the one that the bytes held give
pub exact_lines : (c : Course) → ((lines : List (List ℕ)) (line : List ℕ) (state whole : c.State) (fault : ℕ) → Tells c lines state → Tells c (line ∷ lines) whole → c.HasFault state line fault → ⊥) → (text : Text c.State) (taken : List ℕ) (held left : Option (List ℕ)) (journal : List JournalEntry) (start written : Option (List ℕ)) (end : End) (status : ℕ) → held ≡ prepend_known taken left → HasEnded c text end taken left journal start written → LinesGive c held status → end ≢ ends.Read → end ≢ ends.Write → (status_of end ≡ status) ⊎ (status_of end ≡ 5)
exact_lines c no_fault text taken None left journal start written end status told h gives read write = absurd gives
exact_lines c no_fault text taken (Some bytes) None journal start written end status told h gives read write = cc
exact_lines c no_fault text taken (Some bytes) (Some left) journal start written end status told h gives read write =
    let e : bytes ≡ taken ++ left = cc in
    given c no_fault text taken left bytes journal start written e end status h gives read write
