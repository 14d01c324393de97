-- Lines tell one story.
use Rattle.std.proofs.Common.{◌≡◌, ℕ, List, [], ◌∷◌, ap, sym, ◌∙◌, subst}
use Rattle.scenario.specs.FirstSeen.{Seen}
use Rattle.scenario.specs.FirstPath.{Reads}
use Rattle.mr_shell.specs.Course.{Tells}
use Rattle.mr_shell.specs.RunEnded.{run_course}
use Rattle.mr_shell.specs.Story.{HasFault, Story}
use Rattle.mr_shell.proofs.OneReading.{one_reading}

one_story : (lines : List (List ℕ)) (a b : Story) → Tells run_course lines a → Tells run_course lines b → a.seen ≡ b.seen
one_story [] a b h k = ap (λ (s : Story). s.seen) (h ∙ sym k)
one_story (text ∷ before) a b h k =
    let e = one_story before h.0 k.0 h.1 k.1 in
    one_reading h.0.seen text h.2.0 a.seen k.2.0 b.seen h.2.1 (subst (λ (s : Seen). Reads s text k.2.0 b.seen) (sym e) k.2.1)

-- a line that is read has no fault
pub no_fault : (lines : List (List ℕ)) (text : List ℕ) (story whole : Story) (fault : ℕ) → Tells run_course lines story → Tells run_course (text ∷ lines) whole → HasFault story text fault → ⊥
no_fault lines text story whole fault before h has =
    let same = one_story lines h.0 story h.1 before in
    has.1 h.2.0 whole.seen (subst (λ (s : Seen). Reads s text h.2.0 whole.seen) same h.2.1)
