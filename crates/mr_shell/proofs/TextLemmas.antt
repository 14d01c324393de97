-- The text of entries, as they are written one after the other.
use Rattle.std.proofs.Common.{◌≡◌, ℕ, ◌+◌, ◌<◌, List, [], ◌∷◌, ◌++◌, Option, ap, sym, ◌∙◌, arith, length, length-append, take, drop, get_or, take-append-drop}
use Rattle.std.proofs.lemmas.List.{drop_more, take-append-le}
use Rattle.std.proofs.Math.Seq.{take-append-add}
use Rattle.std.specs.Io.KnownBytes.{append_known}
use Rattle.journal_text.specs.EntryText.{entry_text}
use Rattle.journal.specs.declared.entries.JournalEntry.{JournalEntry}
use Rattle.journal_text.specs.declared.modes.Mode.{Mode}
use Rattle.mr_shell.proofs.RunLemmas.{texts-append}
use Rattle.mr_shell.proofs.Written.{wrote-more}
use Rattle.mr_shell.specs.Texts.{ShowsSome, Wrote, WrotePart, texts}
use Rattle.mr_shell.specs.declared.outcome.End.TheVariants as ends

-- entries up to the one at i were written
pub some_entries : (mode : Mode) (names : List (List ℕ)) (entries : List JournalEntry) (i : ℕ) (start written : Option (List ℕ)) → Wrote start written (texts mode names (take i entries)) → ShowsSome ends.Memory mode names entries start written
some_entries mode names entries i start written w = (take i entries, drop i entries, sym (take-append-drop i entries), w)

-- the text of entries, up to one of them, its own, and what follows
split_texts : (mode : Mode) (names : List (List ℕ)) (entries : List JournalEntry) (i : ℕ) (e : JournalEntry) → i < length entries → e ≡ get_or entries i e → texts mode names entries ≡ texts mode names (take i entries) ++ (entry_text names mode e ++ texts mode names (drop (i + 1) entries))
split_texts mode names entries i e h is =
    ap (texts mode names) (sym (take-append-drop i entries)) ∙ (texts-append mode names (take i entries) (drop i entries) ∙ ap (λ (l : List ℕ). texts mode names (take i entries) ++ l) (ap (texts mode names) (drop_more entries i e h ∙ ap (λ (x : JournalEntry). x ∷ drop (i + 1) entries) (sym is))))

-- a write failed, of the entry at i
pub some_text : (mode : Mode) (names : List (List ℕ)) (entries : List JournalEntry) (i : ℕ) (e : JournalEntry) (text : List ℕ) (start mid written : Option (List ℕ)) → i < length entries → e ≡ get_or entries i e → text ≡ entry_text names mode e → Wrote start mid (texts mode names (take i entries)) → WrotePart mid written [] text → ShowsSome ends.Write mode names entries start written
some_text mode names entries i e text start mid written h is shows w p =
    let shown = texts mode names (take i entries) in
    let rest = texts mode names (drop (i + 1) entries) in
    let whole : texts mode names entries ≡ shown ++ (text ++ rest) = split_texts mode names entries i e h is ∙ ap (λ (l : List ℕ). shown ++ (l ++ rest)) (sym shows) in
    let front : take (length shown + p.0) (texts mode names entries) ≡ shown ++ take p.0 text =
    ap (take (length shown + p.0)) whole ∙ (take-append-add shown (text ++ rest) p.0 ∙ ap (λ (l : List ℕ). shown ++ l) (take-append-le p.0 text rest (omega (arith, p.1)))) in (
      length shown + p.0,
      omega (arith, p.1, ap (λ (l : List ℕ). length l) whole, length-append shown (text ++ rest), length-append text rest),
      wrote-more start mid written shown (take p.0 text) w p.2 ∙ ap (append_known start) (sym front),
    )

-- bytes up to one of them were written, and then what follows failed
pub part_at : (text : List ℕ) (i : ℕ) (start mid written : Option (List ℕ)) → i < length text → Wrote start mid (take i text) → written ≡ mid → WrotePart start written [] text
part_at text i start mid written h w same = (i, h, same ∙ w)
