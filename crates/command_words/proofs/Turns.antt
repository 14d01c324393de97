-- What the reader makes of one word.
use Rattle.std.proofs.Common.{◌≡◌, refl, true, false, Bool, List, [], ◌∷◌, Option, Some, None, codes}
use Rattle.clap.specs.Words.{Row, Text}
use Rattle.clap.specs.Walk.{walked, has_row}
use Rattle.clap.specs.Faults.{turn_fault}
use Rattle.clap.specs.declared.error.kind.ErrorKind.TheVariants as kind
use Rattle.command_words.proofs.WordForms.{IsPlain}
use Rattle.command_words.proofs.Reader.{reader_rules, reader_shape, standing, with_flag_row, with_held}

-- a word behind `--` is a name
pub trailing_walk : (behind : Bool) (rows : List Row) (name : Option Text) (word : Text)
    → walked reader_rules [] (standing true behind rows name) word ≡ standing true true (with_held name rows) (Some word)
unfolding walked
trailing_walk true rows None word = refl
trailing_walk true rows (Some n) word = refl
trailing_walk false rows None word = refl
trailing_walk false rows (Some n) word = refl

pub trailing_fault : (behind : Bool) (rows : List Row) (name : Option Text) (word : Text)
    → turn_fault reader_shape [] (standing true behind rows name) word ≡ []
trailing_fault true rows None word = refl
trailing_fault true rows (Some n) word = refl
trailing_fault false rows None word = refl
trailing_fault false rows (Some n) word = refl

-- `--`
pub end_walk : (behind : Bool) (rows : List Row) (name : Option Text)
    → walked reader_rules [] (standing false behind rows name) (codes "--") ≡ standing true behind rows name
unfolding walked
end_walk true rows None = refl
end_walk true rows (Some n) = refl
end_walk false rows None = refl
end_walk false rows (Some n) = refl

pub end_fault : (behind : Bool) (rows : List Row) (name : Option Text) → turn_fault reader_shape [] (standing false behind rows name) (codes "--") ≡ []
end_fault true rows None = refl
end_fault true rows (Some n) = refl
end_fault false rows None = refl
end_fault false rows (Some n) = refl

-- a flag
pub trace_walk : (behind : Bool) (rows : List Row) (name : Option Text)
    → walked reader_rules [] (standing false behind rows name) (codes "--trace") ≡ standing false false (with_flag_row (codes "trace") (with_held name rows)) None
unfolding walked
trace_walk true rows None = refl
trace_walk true rows (Some n) = refl
trace_walk false rows None = refl
trace_walk false rows (Some n) = refl

pub json_walk : (behind : Bool) (rows : List Row) (name : Option Text)
    → walked reader_rules [] (standing false behind rows name) (codes "--json") ≡ standing false false (with_flag_row (codes "json") (with_held name rows)) None
unfolding walked
json_walk true rows None = refl
json_walk true rows (Some n) = refl
json_walk false rows None = refl
json_walk false rows (Some n) = refl

-- which is refused where it was given before
pub trace_first : (behind : Bool) (rows : List Row) (name : Option Text) → has_row (codes "trace") (with_held name rows) ≡ false
    → turn_fault reader_shape [] (standing false behind rows name) (codes "--trace") ≡ []
trace_first true rows None e = rw e refl
trace_first true rows (Some n) e = rw e refl
trace_first false rows None e = rw e refl
trace_first false rows (Some n) e = rw e refl

pub trace_again : (behind : Bool) (rows : List Row) (name : Option Text) → has_row (codes "trace") (with_held name rows) ≡ true
    → turn_fault reader_shape [] (standing false behind rows name) (codes "--trace") ≡ kind.ArgumentConflict ∷ []
trace_again true rows None e = rw e refl
trace_again true rows (Some n) e = rw e refl
trace_again false rows None e = rw e refl
trace_again false rows (Some n) e = rw e refl

pub json_first : (behind : Bool) (rows : List Row) (name : Option Text) → has_row (codes "json") (with_held name rows) ≡ false
    → turn_fault reader_shape [] (standing false behind rows name) (codes "--json") ≡ []
json_first true rows None e = rw e refl
json_first true rows (Some n) e = rw e refl
json_first false rows None e = rw e refl
json_first false rows (Some n) e = rw e refl

pub json_again : (behind : Bool) (rows : List Row) (name : Option Text) → has_row (codes "json") (with_held name rows) ≡ true
    → turn_fault reader_shape [] (standing false behind rows name) (codes "--json") ≡ kind.ArgumentConflict ∷ []
json_again true rows None e = rw e refl
json_again true rows (Some n) e = rw e refl
json_again false rows None e = rw e refl
json_again false rows (Some n) e = rw e refl

-- a word that is not dashed
pub plain_walk : (behind : Bool) (rows : List Row) (name : Option Text) (word : Text) → IsPlain word
    → walked reader_rules [] (standing false behind rows name) word ≡ standing false true (with_held name rows) (Some word)
unfolding walked
plain_walk true rows None word p = rw (p.end, p.long, p.short) refl
plain_walk true rows (Some n) word p = rw (p.end, p.long, p.short) refl
plain_walk false rows None word p = rw (p.end, p.long, p.short) refl
plain_walk false rows (Some n) word p = rw (p.end, p.long, p.short) refl

pub plain_fault : (behind : Bool) (rows : List Row) (name : Option Text) (word : Text) → IsPlain word
    → turn_fault reader_shape [] (standing false behind rows name) word ≡ []
plain_fault true rows None word p = rw (p.end, p.long, p.short) refl
plain_fault true rows (Some n) word p = rw (p.end, p.long, p.short) refl
plain_fault false rows None word p = rw (p.end, p.long, p.short) refl
plain_fault false rows (Some n) word p = rw (p.end, p.long, p.short) refl
