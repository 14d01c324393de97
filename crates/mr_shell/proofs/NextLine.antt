-- The next line of a scenario has a number of its own, and so has its transaction.
use Rattle.std.proofs.Common.{◌≡◌, ℕ, ◌+◌, ◌≤◌, List, [], ◌∷◌, ◌++◌, ap, sym, ◌∙◌, subst, length, length-append, add-one, arith}
use Rattle.mr_base.specs.declared.ids.TxnId.{TxnId}
use Rattle.one_node_laws.specs.LinesRun.{AreBefore, AreNotOf, IsNextLine, IsNotOf, LinesRun, NumberedEvent}
use Rattle.scenario.specs.FirstPath.{Reads}
use Rattle.scenario.specs.FirstSeen.{Seen}
use Rattle.journal.specs.declared.events.Event.{Event}
use Rattle.journal.specs.declared.events.Event.TheVariants as events
use Rattle.scenario.specs.declared.lines.Line.{Line}
use Rattle.scenario.specs.declared.lines.Line.TheVariants as lines
use Rattle.mr_shell.specs.Story.{Story, run_with}
use Rattle.mr_shell.specs.Course.{Tells}
use Rattle.mr_shell.specs.RunEnded.{run_course}
use Rattle.mr_shell.proofs.RunLemmas.{names_stay}

-- the events so far have lower numbers, and their transactions have names
record Knows (number : ℕ) (names : List (List ℕ)) (es : List NumberedEvent) : Type 0 where
  before : AreBefore number es
  apart : (t : TxnId) → length names ≤ t.0 → AreNotOf t es

before_more : (m n : ℕ) (es : List NumberedEvent) → m ≤ n → AreBefore m es → AreBefore n es
before_more m n [] h k = tt
before_more m n (e ∷ es) h k = (omega (arith, h, k.0), before_more m n es h k.1)

knows_more : (m n : ℕ) (names names' : List (List ℕ)) (es : List NumberedEvent) → m ≤ n → length names ≤ length names' → Knows m names es → Knows n names' es
knows_more m n names names' es h k know = record { before = before_more m n es h know.before; apart = λ t above. know.apart t (omega (arith, k, above)) }

knows_nothing : (n : ℕ) (names : List (List ℕ)) → Knows n names []
knows_nothing n names = record { before = tt; apart = λ t above. tt }

-- the event of the line that was read is not of a transaction that has no name yet
not_of : (seen : Seen) (text : List ℕ) (e : Event) (seen' : Seen) → Reads seen text (lines.Event e) seen' → (t : TxnId) → length seen'.names ≤ t.0 → IsNotOf t e
not_of seen text events.Begin seen' h t above = tt
not_of seen text (events.Txn u g k list) seen' h t above =
    λ same.
    let more : length seen'.names ≡ length (seen.names ++ h.4 ∷ []) = ap (λ (s : Seen). length s.names) h.8 in
    let at : t.0 ≡ length seen.names = ap (λ (x : TxnId). x.0) (sym same ∙ h.1) in
    omega (arith, at, above, more, length-append seen.names (h.4 ∷ []))
not_of seen text _ seen' h t above = absurd h

step : (line : Line) (n : ℕ) (seen : Seen) (text : List ℕ) (seen' : Seen) (run : LinesRun) → Reads seen text line seen' → Knows n seen.names run.events → Knows (n + 1) seen'.names (run_with run n line).events
step (lines.Event e) n seen text seen' run read know =
    let m = names_stay seen text (lines.Event e) seen' read in
    let longer : length seen.names ≤ length seen'.names = omega (arith, ap (λ (names : List (List ℕ)). length names) m.1, length-append seen.names m.0) in
    let old = knows_more n (n + 1) seen.names seen'.names run.events (omega arith) longer know in
    record { before = (omega arith, old.before); apart = λ t above. (not_of seen text e seen' read t above, old.apart t above) }
step (lines.Cluster settings) n seen text seen' run read know = knows_nothing (n + 1) seen'.names
step (lines.Node info clock) n seen text seen' run read know = knows_nothing (n + 1) seen'.names
step lines.Skipped n seen text seen' run read know =
    let m = names_stay seen text lines.Skipped seen' read in
    knows_more n (n + 1) seen.names seen'.names run.events (omega arith) (omega (arith, ap (λ (names : List (List ℕ)). length names) m.1, length-append seen.names m.0)) know
step (lines.Sql sql) n seen text seen' run read know =
    let m = names_stay seen text (lines.Sql sql) seen' read in
    knows_more n (n + 1) seen.names seen'.names run.events (omega arith) (omega (arith, ap (λ (names : List (List ℕ)). length names) m.1, length-append seen.names m.0)) know

knows : (before : List (List ℕ)) (story : Story) → Tells run_course before story → Knows (length before + 1) story.seen.names story.run.events
knows [] story tells = subst (λ (s : Story). Knows 1 s.seen.names s.run.events) (sym tells) (knows_nothing 1 [])
knows (text ∷ before) story tells =
    let earlier = tells.0 in
    let later = step tells.2.0 (length before + 1) earlier.seen text story.seen earlier.run tells.2.1 (knows before earlier tells.1) in
    let same : length before + 1 + 1 ≡ length (text ∷ before) + 1 = ap (λ (n : ℕ). n + 1) (add-one (length before)) in
    subst (λ (n : ℕ). Knows n story.seen.names story.run.events) same (subst (λ (r : LinesRun). Knows (length before + 1 + 1) story.seen.names r.events) (sym tells.2.2) later)

pub is_next_line : (before : List (List ℕ)) (story : Story) (text : List ℕ) (e : Event) (seen : Seen) → Tells run_course before story → Reads story.seen text (lines.Event e) seen → IsNextLine story.run (length before + 1) e
is_next_line before story text events.Begin seen tells read = ((knows before story tells).before, tt)
is_next_line before story text (events.Txn t g k list) seen tells read =
    let at : length story.seen.names ≤ t.0 = omega (arith, ap (λ (x : TxnId). x.0) read.1) in
    ((knows before story tells).before, (knows before story tells).apart t at)
is_next_line before story text _ seen tells read = absurd read
