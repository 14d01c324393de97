-- What the rows of a parse say of an id after a use of this id or of another.
use Rattle.std.proofs.Common.{◌≡◌, ◌∙◌, ◌++◌, ◌||◌, ap, cond, refl, true, false, Bool, List, [], ◌∷◌, Option, Some, None, is_some}
use Rattle.std.specs.List.{find}
use Rattle.std.specs.Str.{bytes_eq}
use Rattle.std.proofs.lemmas.Slice.Eq.{bytes_eq-Decides}
use Rattle.clap.specs.Walk.{Row, Text, has_row, more_values, stronger, with_values, without}
use Rattle.clap.specs.declared.builder.value_parser.Reading.{Reading}
use Rattle.clap.specs.declared.parser.matches.ValueSource.{ValueSource}

-- the first row of an id
abbrev pub row_named : Text → List Row → Option Row
row_named id rows = find (λ r. bytes_eq r.id id) rows

-- the row that a use with these values leaves
abbrev pub used_row : Text → Reading → ValueSource → List Text → Option Row → Row
used_row id how s values None = record { id = id; values = values; count = None; source = Some s; reading = how }
used_row id how s values (Some r) = record r { values = r.values ++ values; source = Some (stronger r.source s) }

pub same_id : (id : Text) → bytes_eq id id ≡ true
same_id id = (bytes_eq-Decides id id).1 refl

pub has_row-named : (id : Text) (rows : List Row) → has_row id rows ≡ is_some (row_named id rows)
has_row-named id [] = refl
has_row-named id (r ∷ rs) = go (bytes_eq r.id id) (has_row-named id rs)
  where
    go : (b : Bool) → has_row id rs ≡ is_some (row_named id rs) → (b || has_row id rs) ≡ is_some (cond b (Some r) (row_named id rs))
    go true e = refl
    go false e = e

-- an id with no row has none to take out
pub without-absent : (id : Text) (rows : List Row) → row_named id rows ≡ None → without id rows ≡ rows
without-absent id [] e = refl
without-absent id (r ∷ rs) e = go (bytes_eq r.id id) e (without-absent id rs)
  where
    go : (b : Bool) → cond b (Some r) (row_named id rs) ≡ None → (row_named id rs ≡ None → without id rs ≡ rs) → cond b rs (r ∷ without id rs) ≡ r ∷ rs
    go true e next = cc
    go false e next = ap (λ rest. r ∷ rest) (next e)

-- a use leaves the row of its id so
pub row_named-used : (id : Text) (how : Reading) (s : ValueSource) (values : List Text) (rows : List Row)
    → row_named id (with_values id how s values rows) ≡ Some (used_row id how s values (row_named id rows))
row_named-used id how s values [] = rw (same_id id) refl
row_named-used id how s values (r ∷ rs) = go (bytes_eq r.id id) refl (row_named-used id how s values rs)
  where
    go : (b : Bool) → bytes_eq r.id id ≡ b → row_named id (with_values id how s values rs) ≡ Some (used_row id how s values (row_named id rs))
        → row_named id (cond b (more_values s values r ++ rs) (r ∷ with_values id how s values rs)) ≡ Some (used_row id how s values (cond b (Some r) (row_named id rs)))
    go true is next = rw is refl
    go false is next = rw is next

-- and the row of another id as it was
pub row_named-other : (other id : Text) (how : Reading) (s : ValueSource) (values : List Text) (rows : List Row) → bytes_eq id other ≡ false
    → row_named other (with_values id how s values rows) ≡ row_named other rows
row_named-other other id how s values [] apart = rw apart refl
row_named-other other id how s values (r ∷ rs) apart = go (bytes_eq r.id id) refl (row_named-other other id how s values rs apart)
  where
    go : (b : Bool) → bytes_eq r.id id ≡ b → row_named other (with_values id how s values rs) ≡ row_named other rs
        → row_named other (cond b (more_values s values r ++ rs) (r ∷ with_values id how s values rs)) ≡ row_named other (r ∷ rs)
    go true is next =
        let same : r.id ≡ id = (bytes_eq-Decides r.id id).0 is in
        let miss : bytes_eq r.id other ≡ false = ap (λ t. bytes_eq t other) same ∙ apart in
        rw miss refl
    go false is next = ap (cond (bytes_eq r.id other) (Some r)) next
