-- What the matches of a parse show of flags and names.
use Rattle.std.proofs.Common.{◌≡◌, ◌∙◌, ap, true, false, Bool, List, [], map, option_map, Option, Some, None, codes}
use Rattle.std.specs.Prelude.{unwrap_or}
use Rattle.std.specs.Borrow.{Bor}
use Rattle.clap.specs.Values.{bool_text}
use Rattle.clap.specs.Matches.{matched_of, one_text, raw_values}
use Rattle.clap.specs.Walk.{Text, all_of, one_of, rows_of}
use Rattle.clap.specs.declared.parser.matches.Found.{Found}
use Rattle.clap.proofs.WalkLemmas.{one_text-rows, raw_values-rows}

-- a flag is read as it is written
flag_read : (given read : Bool) (text : Option Text) → text ≡ Some (bool_text given)
    → (text ≡ Some (codes "true") → read ≡ true) → (text ≡ Some (codes "false") → read ≡ false) → read ≡ given
flag_read true read text is as_true as_false = as_true is
flag_read false read text is as_true as_false = as_false is

pub flag_shown : (f : Found) (id : Text) (given read : Bool) → one_of id (rows_of f) ≡ Some (bool_text given)
    → (one_text f id ≡ Some (codes "true") → read ≡ true) → (one_text f id ≡ Some (codes "false") → read ≡ false) → read ≡ given
flag_shown f id given read row as_true as_false = flag_read given read (one_text f id) (one_text-rows f id ∙ row) as_true as_false

-- the texts of an id that has some, and none of an id that has none
pub names_shown : (f : Found) (id : Text) (lent : List (Bor Text)) (names : List Text) → unwrap_or (all_of id (rows_of f)) [] ≡ names
    → Some (map (λ v. v.now) lent) ≡ option_map raw_values (matched_of f id) → map (λ v. v.now) lent ≡ names
names_shown f id lent names row is = ap (λ o. unwrap_or o []) (is ∙ raw_values-rows f id) ∙ row

pub no_names_shown : (f : Found) (id : Text) (names : List Text) → unwrap_or (all_of id (rows_of f)) [] ≡ names
    → None ≡ option_map raw_values (matched_of f id) → [] ≡ names
no_names_shown f id names row is = ap (λ o. unwrap_or o []) (is ∙ raw_values-rows f id) ∙ row
