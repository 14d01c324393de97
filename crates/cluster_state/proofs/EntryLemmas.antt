-- The entries of a log past so many, as they are copied one by one.
use Rattle.std.proofs.Common.{◌≡◌, ℕ, suc, ◌<◌, ◌+◌, ◌-◌, ◌≤◌, List, [], ◌∷◌, ◌++◌, length, take, drop, get_or, map, refl, sym, ap, ◌∙◌, subst, arith, Some, drop-cons, length-drop, length-take}
use Rattle.std.proofs.Common.{None}
use Rattle.std.specs.Prelude.{MatchOption, Option, reverse, slice_get}
use Rattle.std.proofs.lemmas.List.{reverse-append}
use Rattle.std.proofs.lemmas.Option.{get_or_from_slice_get}
use Rattle.journal.specs.declared.entries.JournalEntry.{JournalEntry}
use Rattle.journal.specs.declared.entries.JournalEntry.TheVariants as entry
use Rattle.mr_base.specs.declared.ids.RangeId.{RangeId}
use Rattle.node_states.specs.Appends.{appends}
use Rattle.range_log.specs.Facts.{first_entries}
use Rattle.range_log.specs.declared.entries.Entry.{Entry}
use Rattle.run_ledger.specs.LedgerValue.{made_all}
use Rattle.run_words.specs.History.{History, Made}

pub made_more : (items : List JournalEntry) (x : JournalEntry) → made_all (items ++ x ∷ []) ≡ Made x ∷ made_all items
made_more items x = ap (map Made) (reverse-append items (x ∷ []))

one_more : (x : ℕ) (es : List Entry) (e : Entry) → x < length es → slice_get es (length es - (x + 1)) ≡ Some e → first_entries (x + 1) es ≡ e ∷ first_entries x es
one_more x es e l s =
    let k : length es - (x + 1) < length es = omega (arith, l) in
    let n : suc (length es - (x + 1)) ≡ length es - x = omega (arith, l) in
    let at : get_or es (length es - (x + 1)) e ≡ e = get_or_from_slice_get es (length es - (x + 1)) e e s in
    drop-cons es (length es - (x + 1)) e k ∙ ap (λ (y : Entry). y ∷ drop (suc (length es - (x + 1))) es) at ∙ ap (λ (m : ℕ). e ∷ drop m es) n

appends_more : (j : RangeId) (before n : ℕ) (e : Entry) (f : List Entry) → n ≤ length f
    → appends j before (take (suc n) (e ∷ f)) ≡ Made (entry.Append j (before + n + 1) e) ∷ appends j before (take n f)
appends_more j before n e f l =
    let count : length (take n f) ≡ n = omega (arith, length-take n f, l) in
    ap (λ (k : ℕ). Made (entry.Append j (before + k + 1) e) ∷ appends j before (take n f)) count

-- one entry more was copied
pub entry_copied : (j : RangeId) (before x : ℕ) (es : List Entry) (e : Entry) (items : List JournalEntry) → before ≤ x → x < length es
    → slice_get es (length es - (x + 1)) ≡ Some e → made_all items ≡ appends j before (take (x - before) (first_entries x es))
    → made_all (items ++ entry.Append j (x + 1) e ∷ []) ≡ appends j before (take (x + 1 - before) (first_entries (x + 1) es))
entry_copied j before x es e items b l s old =
    let count : x + 1 - before ≡ suc (x - before) = omega (arith, b) in
    let index : x + 1 ≡ before + (x - before) + 1 = omega (arith, b) in
    let long : x - before ≤ length (first_entries x es) = omega (arith, length-drop (length es - x) es, l) in
    made_more items (entry.Append j (x + 1) e) ∙ ap (λ (h : History). Made (entry.Append j (x + 1) e) ∷ h) old
    ∙ ap (λ (k : ℕ). Made (entry.Append j k e) ∷ appends j before (take (x - before) (first_entries x es))) index
    ∙ sym (appends_more j before (x - before) e (first_entries x es) long)
    ∙ ap (λ (f : List Entry). appends j before (take (suc (x - before)) f)) (sym (one_more x es e l s))
    ∙ ap (λ (k : ℕ). appends j before (take k (first_entries (x + 1) es))) (sym count)

pub none_copied : (j : RangeId) (before : ℕ) (es : List Entry) → made_all [] ≡ appends j before (take (before - before) (first_entries before es))
none_copied j before es = let z : before - before ≡ 0 = omega arith in rw z refl

pub all_copied : (es : List Entry) → first_entries (length es) es ≡ es
all_copied es = let z : length es - length es ≡ 0 = omega arith in rw z refl

-- what was served stands behind what was appended
pub with_served : (served : Option JournalEntry) (all items : List JournalEntry) (shown appended : History) → MatchOption served (shown ≡ []) (λ e. shown ≡ Made e ∷ [])
    → MatchOption served (all ≡ items) (λ e. all ≡ items ++ e ∷ []) → made_all items ≡ appended → made_all all ≡ shown ++ appended
with_served None all items shown appended s a e = rw (s, a) e
with_served (Some x) all items shown appended s a e = rw (s, a) (made_more items x ∙ ap (λ (h : History). Made x ∷ h) e)
