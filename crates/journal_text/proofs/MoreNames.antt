use Rattle.std.proofs.Common.{◌≡◌, ℕ, ◌<◌, List, [], ◌∷◌, ◌++◌, length, refl, sym, ◌∙◌}
use Rattle.std.proofs.lemmas.List.{get_or_append_left}
use Rattle.std.proofs.lemmas.Option.{unwrap_or-slice_get}
use Rattle.mr_base.specs.declared.ids.TxnId.{TxnId}
use Rattle.journal_text.specs.EntryText.{answer_text, step_text, entry_text, EntryTextStays, TextsStay}
use Rattle.journal.specs.Names.{NamesWithin, name_of}
use Rattle.journal.specs.declared.entries.JournalEntry.{JournalEntry}
use Rattle.journal.specs.declared.entries.JournalEntry.TheVariants as entry
use Rattle.journal_text.specs.declared.modes.Mode.TheVariants as mode

-- a name stays where it is when more names follow
pub name_of-more : (names more : List (List ℕ)) (t : TxnId) → t.0 < length names → name_of (names ++ more) t ≡ name_of names t
name_of-more names more t h =
    unwrap_or-slice_get (names ++ more) t.0 [] ∙ (get_or_append_left names more [] t.0 h ∙ sym (unwrap_or-slice_get names t.0 []))

answer_text-more : (names more : List (List ℕ)) (e : JournalEntry) → NamesWithin names e → answer_text (names ++ more) e ≡ answer_text names e
unfolding answer_text
answer_text-more names more (entry.Ack txn ts results) h = rw (name_of-more names more txn (h txn refl)) refl
answer_text-more names more (entry.Fault txn ts state) h = rw (name_of-more names more txn (h txn refl)) refl
answer_text-more names more (entry.Refuse txn why) h = rw (name_of-more names more txn (h txn refl)) refl
answer_text-more names more (entry.Lost txn) h = rw (name_of-more names more txn (h txn refl)) refl
answer_text-more names more _ h = refl

step_text-more : (names more : List (List ℕ)) (e : JournalEntry) → NamesWithin names e → step_text (names ++ more) e ≡ step_text names e
unfolding step_text
step_text-more names more (entry.Begin txn attempt gateway start limit) h = rw (name_of-more names more txn (h txn refl)) refl
step_text-more names more (entry.Retry txn attempt cause) h = rw (name_of-more names more txn (h txn refl)) refl
step_text-more names more _ h = refl

-- an entry that names only transactions with a name keeps its text
pub entry_text-more : EntryTextStays
unfolding entry_text
entry_text-more names more mode.Answers e h = answer_text-more names more e h
entry_text-more names more mode.Trace e h = rw (step_text-more names more e h, answer_text-more names more e h) refl
entry_text-more names more mode.Summary e h = refl

-- the same of a list of entries
pub texts-more : TextsStay
texts-more names more m [] h = refl
texts-more names more m (e ∷ es) h = rw (entry_text-more names more m e h.0, texts-more names more m es h.1) refl
