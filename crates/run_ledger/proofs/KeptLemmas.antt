use Rattle.std.proofs.Common.{◌≡◌, ℕ, ◌+◌, ◌-◌, ◌<◌, Bool, true, false, List, [], ◌∷◌, ◌++◌, length, refl, ap, sym, ◌∙◌, arith, add-one, length-append}
use Rattle.std.specs.Prelude.{reverse, slice_get, Some}
use Rattle.std.proofs.lemmas.List.{reverse-append}
use Rattle.std.proofs.lemmas.Option.{slice_get-get_or}
use Rattle.std.proofs.Math.Seq.{get_or-append_seam}
use Rattle.journal.specs.declared.entries.JournalEntry.{JournalEntry}
use Rattle.journal.specs.declared.entries.JournalEntry.TheVariants as entry
use Rattle.journal.specs.declared.events.Event.{Event}
use Rattle.run_words.specs.History.{History, Made, journal_of}
use Rattle.std.proofs.Common.{append_assoc, map}
use Rattle.std.proofs.lemmas.List.{append-nil, map-append}
use Rattle.run_ledger.specs.LedgerValue.{made_all}
use Rattle.run_ledger.specs.Kept.{IsKept, history_of}
use Rattle.run_ledger.specs.declared.marks.Mark.{Mark}
use Rattle.run_ledger.specs.declared.marks.Mark.TheVariants as mark

-- the last item of a list that one was added to
last_added : {X : Type 0} (xs : List X) (x : X) → slice_get (xs ++ x ∷ []) (length (xs ++ x ∷ []) - 1) ≡ Some x
last_added xs x =
    let l : length (xs ++ x ∷ []) - 1 ≡ length xs = grind (arith, length-append xs (x ∷ [])) in
    let i : length xs < length (xs ++ x ∷ []) = grind (arith, length-append xs (x ∷ [])) in
    rw l (slice_get-get_or (xs ++ x ∷ []) (length xs) x i ∙ ap Some (get_or-append_seam xs x [] x))

reversed : {X : Type 0} (xs : List X) (x : X) → reverse (xs ++ x ∷ []) ≡ x ∷ reverse xs
reversed xs x = reverse-append xs (x ∷ [])

-- what is kept agrees with the history once a line was run
pub line_kept : (n behind : ℕ) (event : Event) (es : List JournalEntry) (ms : List Mark) (evs : List Event) (has tick : Bool)
    → IsKept (history_of behind (reverse es) (reverse ms) (reverse evs)) behind es evs has tick
    → IsKept (history_of 0 (reverse (es ++ entry.Event n ∷ [])) (reverse (ms ++ mark.Line n behind ∷ [])) (reverse (evs ++ event ∷ [])))
    0 (es ++ entry.Event n ∷ []) (evs ++ event ∷ []) false false
line_kept n behind event es ms evs has tick k =
    rw (reversed es (entry.Event n), reversed ms (mark.Line n behind), reversed evs event) (record {
      journal = rw (reversed es (entry.Event n)) (ap (λ (j : List JournalEntry). entry.Event n ∷ j) k.journal);
      event = sym (last_added evs event);
      has_entry = refl;
      has_ticked = refl;
      counted = omega arith;
    })

-- an entry is made in front of what happened
pub made_first : (behind : ℕ) (e : JournalEntry) (es : List JournalEntry) (ms : List Mark) (evs : List Event)
    → history_of (behind + 1) (e ∷ es) ms evs ≡ Made e ∷ history_of behind es ms evs
made_first behind e es ms evs = rw (add-one behind) refl

pub write_kept : (behind : ℕ) (e : JournalEntry) (es : List JournalEntry) (ms : List Mark) (evs : List Event) (has tick : Bool)
    → IsKept (history_of behind (reverse es) (reverse ms) (reverse evs)) behind es evs has tick
    → IsKept (history_of (behind + 1) (reverse (es ++ e ∷ [])) (reverse ms) (reverse evs)) (behind + 1) (es ++ e ∷ []) evs true tick
write_kept behind e es ms evs has tick k =
    rw (reversed es e, made_first behind e (reverse es) (reverse ms) (reverse evs)) (record {
      journal = rw (reversed es e) (ap (λ (j : List JournalEntry). e ∷ j) k.journal);
      event = k.event;
      has_entry = refl;
      has_ticked = k.has_ticked;
      counted = rw (length-append es (e ∷ [])) (omega (arith, k.counted));
    })

-- several entries are made, one after the other
add-zero : (n : ℕ) → n + 0 ≡ n
add-zero n = omega arith

abbrev after : List JournalEntry → ℕ → List JournalEntry → List Mark → List Event → History
after xs behind es ms evs = history_of (behind + length xs) (reverse (es ++ xs)) (reverse ms) (reverse evs)

made_later : (x : JournalEntry) (xs : List JournalEntry) (h : History) → made_all xs ++ Made x ∷ h ≡ made_all (x ∷ xs) ++ h
made_later x xs h =
    rw (reverse-append (x ∷ []) xs, map-append Made (reverse xs) (x ∷ []))
    (sym (append_assoc (map Made (reverse xs)) (Made x ∷ []) h))

next : (behind : ℕ) (x : JournalEntry) (xs es : List JournalEntry) (ms : List Mark) (evs : List Event)
    → after (x ∷ xs) behind es ms evs ≡ after xs (behind + 1) (es ++ x ∷ []) ms evs
next behind x xs es ms evs =
    let n : behind + length (x ∷ xs) ≡ behind + 1 + length xs = omega arith in
    rw (n, append_assoc es (x ∷ []) xs) refl

pub all_made : (xs : List JournalEntry) (behind : ℕ) (es : List JournalEntry) (ms : List Mark) (evs : List Event)
    → after xs behind es ms evs ≡ made_all xs ++ history_of behind (reverse es) (reverse ms) (reverse evs)
all_made [] behind es ms evs = rw (append-nil es, add-zero behind) refl
all_made (x ∷ xs) behind es ms evs =
    next behind x xs es ms evs ∙ all_made xs (behind + 1) (es ++ x ∷ []) ms evs
    ∙ ap (λ (h : History). made_all xs ++ h) (rw (reversed es x) (made_first behind x (reverse es) (reverse ms) (reverse evs)))
    ∙ made_later x xs (history_of behind (reverse es) (reverse ms) (reverse evs))

pub all_kept : (x : JournalEntry) (xs : List JournalEntry) (behind : ℕ) (es : List JournalEntry) (ms : List Mark) (evs : List Event) (has tick : Bool)
    → IsKept (history_of behind (reverse es) (reverse ms) (reverse evs)) behind es evs has tick
    → IsKept (after (x ∷ xs) behind es ms evs) (behind + length (x ∷ xs)) (es ++ x ∷ xs) evs true tick
all_kept x [] behind es ms evs has tick k = write_kept behind x es ms evs has tick k
all_kept x (y ∷ xs) behind es ms evs has tick k =
    let one : IsKept (history_of (behind + 1) (reverse (es ++ x ∷ [])) (reverse ms) (reverse evs)) (behind + 1) (es ++ x ∷ []) evs true tick =
    write_kept behind x es ms evs has tick k in
    let n : behind + length (x ∷ y ∷ xs) ≡ behind + 1 + length (y ∷ xs) = omega arith in
    rw (next behind x (y ∷ xs) es ms evs, n, sym (append_assoc es (x ∷ []) (y ∷ xs))) (all_kept y xs (behind + 1) (es ++ x ∷ []) ms evs true tick one)

pub some_kept : (xs : List JournalEntry) (count behind : ℕ) (es : List JournalEntry) (ms : List Mark) (evs : List Event) (has tick : Bool) → count ≡ length xs → 0 < count
    → IsKept (history_of behind (reverse es) (reverse ms) (reverse evs)) behind es evs has tick
    → IsKept (history_of (behind + count) (reverse (es ++ xs)) (reverse ms) (reverse evs)) (behind + count) (es ++ xs) evs true tick
some_kept [] count behind es ms evs has tick e l k = absurd (omega (arith, e, l))
some_kept (x ∷ xs) count behind es ms evs has tick e l k = rw e (all_kept x xs behind es ms evs has tick k)
