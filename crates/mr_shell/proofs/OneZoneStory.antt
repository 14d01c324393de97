-- Lines tell one story of nodes and statements.
use Rattle.std.proofs.Common.{◌≡◌, ℕ, List, [], ◌∷◌, ap, sym, ◌∙◌}
use Rattle.std.specs.Prelude.{Ok, Err, Result}
use Rattle.scenario.specs.Lines.{reads}
use Rattle.scenario.specs.declared.lines.Line.{Line}
use Rattle.scenario.specs.declared.seen.Seen.{Seen}
use Rattle.mr_shell.specs.Course.{Tells}
use Rattle.mr_shell.specs.ZoneStory.{HasZoneFault, ZoneStory, nothing_told}
use Rattle.mr_shell.specs.ZonesEnded.{zones_course}

abbrev read_so : Line → Seen → Result (Line × Seen) ℕ
read_so l s = Ok (l, s)

abbrev refused_so : ℕ → Result (Line × Seen) ℕ
refused_so fault = Err fault

abbrev seen_or : Seen → Result (Line × Seen) ℕ → Seen
seen_or none (Ok read) = read.1
seen_or none (Err fault) = none

-- what is seen once a line was read
one_seen : (l m : Line) (s t : Seen) → read_so l s ≡ read_so m t → s ≡ t
one_seen l m s t e = ap (seen_or s) e

one_story : (lines : List (List ℕ)) (a b : ZoneStory) → Tells zones_course lines a → Tells zones_course lines b → a.seen ≡ b.seen
one_story [] a b h k = ap (λ (s : ZoneStory). s.seen) (h ∙ sym k)
one_story (text ∷ before) a b h k =
    let e = one_story before h.0 k.0 h.1 k.1 in
    one_seen h.2.0 k.2.0 a.seen b.seen (sym h.2.1 ∙ (ap (λ (s : Seen). reads s nothing_told text) e ∙ k.2.1))

apart : (l : Line) (s : Seen) (fault : ℕ) → read_so l s ≡ refused_so fault → ⊥
apart l s fault e = cc

-- a line that is read has no fault
pub no_zone_fault : (lines : List (List ℕ)) (text : List ℕ) (story whole : ZoneStory) (fault : ℕ) → Tells zones_course lines story → Tells zones_course (text ∷ lines) whole → HasZoneFault story text fault → ⊥
no_zone_fault lines text story whole fault before h has =
    let same = one_story lines h.0 story h.1 before in
    apart h.2.0 whole.seen fault (sym h.2.1 ∙ (ap (λ (s : Seen). reads s nothing_told text) same ∙ has))
