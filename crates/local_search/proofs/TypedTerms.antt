-- The terms of a statement whose check finds no fault are typed.
use Rattle.std.proofs.Common.{◌≡◌, ℕ, zero, suc, ◌<◌, ℤ, pos, negsuc, Bool, true, false, not, cond, List, [], ◌∷◌, length, refl, ap, ◌∙◌, arith}
use Rattle.std.specs.Prelude.{All, Option, Some, None, find, map, position, is_some, nat_lt, slice_get, option_and_then, IsSomeAnd, FitsSigned}
use Rattle.std.specs.Int.{w64}
use Rattle.std.specs.List.{AllByRecursion, position_or_len}
use Rattle.std.specs.Option.{option_or}
use Rattle.std.specs.Str.{bytes_eq}
use Rattle.std.proofs.lemmas.Bool.Decides.{nat_tests}
use Rattle.std.proofs.lemmas.List.Folds.{find_at}
use Rattle.std.proofs.lemmas.List.Elements.{All-from_recursion, recursion_from_All}
use Rattle.mr_base.specs.declared.states.SqlState.{SqlState}
use Rattle.region_sql.specs.TextLiterals.{IsUtf8Literal, TextsAreUtf8}
use Rattle.region_sql.specs.declared.region_statements.ColumnType.{ColumnType}
use Rattle.region_sql.specs.declared.region_statements.ColumnType.TheVariants as types
use Rattle.region_sql.specs.declared.row_statements.Literal.{Literal}
use Rattle.region_sql.specs.declared.row_statements.Literal.TheVariants as literals
use Rattle.region_sql.specs.declared.row_statements.RowStatement.{RowStatement}
use Rattle.region_sql.specs.declared.row_statements.RowStatement.TheVariants.{Select, Update, Delete}
use Rattle.region_sql.specs.declared.row_statements.Target.{Target}
use Rattle.region_sql.specs.declared.row_statements.Term.{Term}
use Rattle.region_sql.specs.declared.row_statements.Wanted.{Wanted}
use Rattle.descriptors.specs.declared.database.Database.{Database}
use Rattle.descriptors.specs.declared.table.Table.{Table}
use Rattle.row_locality.specs.Rows.{HasType, all_columns}
use Rattle.sql_eval.specs.Faults.{first_fault, unknown_fault, terms_fault, literal_fault, is_literal_of, named_literal_fault, term_literals_fault, column_named, columns_fault, shape_fault, literals_fault, targets_fault, wanted_fault, target_value_fault, check_fault}
use Rattle.sql_eval.specs.RowWords.{datum_of, fits_int, is_in_range, place_of}
use Rattle.local_search.specs.LookupOrder.{IsTypedTerm}

-- ---- where there is no fault, no part has one

pub no_fault : (a b : Option SqlState) → option_or a b ≡ None → (a ≡ None) × (b ≡ None)
no_fault None b e = (refl, e)
no_fault (Some s) b e = cc

none_of : {X : Type 0} (f : X → Option SqlState) (xs : List X) → first_fault (map f xs) ≡ None → AllByRecursion (λ x. f x ≡ None) xs
none_of f [] e = tt
none_of f (x ∷ xs) e =
    let p : (f x ≡ None) × (first_fault (map f xs) ≡ None) = no_fault (f x) (first_fault (map f xs)) e in
    (p.0, none_of f xs p.1)

-- ---- a literal of a column's type

int_fits : (n : ℤ) → fits_int n ≡ true → FitsSigned w64 n
int_fits (pos n) e = grind (arith, nat_tests)
int_fits (negsuc n) e = grind (arith, nat_tests)

has_type : (ty : ColumnType) (l : Literal) → is_literal_of ty l ≡ true → is_in_range (datum_of l) ≡ true → IsUtf8Literal l → HasType ty (datum_of l)
has_type types.Int (literals.Int n) e r u = int_fits n r
has_type types.Int (literals.Text s) e r u = absurd (cc)
has_type types.Int (literals.Bool b) e r u = absurd (cc)
has_type types.String (literals.Int n) e r u = absurd (cc)
has_type types.String (literals.Text s) e r u = u
has_type types.String (literals.Bool b) e r u = absurd (cc)
has_type types.Bool (literals.Int n) e r u = absurd (cc)
has_type types.Bool (literals.Text s) e r u = absurd (cc)
has_type types.Bool (literals.Bool b) e r u = tt

passes_both : (a b : Bool) (s r : SqlState) (o : Option SqlState) → cond (not a) (Some s) (cond (not b) (Some r) o) ≡ None → (a ≡ true) × (b ≡ true)
passes_both true true s r o e = (refl, refl)
passes_both true false s r o e = cc
passes_both false b s r o e = cc

literal_typed : (d : Database) (c : List ℕ × ColumnType) (l : Literal) → literal_fault d c l ≡ None → IsUtf8Literal l → HasType c.1 (datum_of l)
literal_typed d c l e u =
    let p : (is_literal_of c.1 l ≡ true) × (is_in_range (datum_of l) ≡ true) = passes_both (is_literal_of c.1 l) (is_in_range (datum_of l)) _ _ _ e in
    has_type c.1 l p.0 p.1 u

-- ---- a term

got : {X : Type 0} (xs : List X) (i : ℕ) → i < length xs → is_some (slice_get xs i) ≡ true
got [] i h = absurd (omega arith)
got (x ∷ xs) zero h = refl
got (x ∷ xs) (suc i) h = got xs i (omega arith)

some_if : {X : Type 0} (b : Bool) (x : X) → is_some (cond b (Some x) None) ≡ true → b ≡ true
some_if true x e = refl
some_if false x e = cc

placed : {X : Type 0} (p : X → Bool) (xs : List X) → is_some (position p xs) ≡ true → is_some (find p xs) ≡ true
placed p xs e =
    let at : nat_lt (position_or_len p xs) (length xs) ≡ true = some_if (nat_lt (position_or_len p xs) (length xs)) (position_or_len p xs) e in
    let within : position_or_len p xs < length xs = grind (arith, nat_tests) in
    ap is_some (find_at p xs) ∙ got xs (position_or_len p xs) within

known : (b : Bool) (s : SqlState) → cond b None (Some s) ≡ None → b ≡ true
known true s e = refl
known false s e = cc

typed_by : (d : Database) (l : Literal) (o : Option (List ℕ × ColumnType)) → is_some o ≡ true → option_and_then (λ c. literal_fault d c l) o ≡ None → IsUtf8Literal l
    → IsSomeAnd o (λ c. HasType c.1 (datum_of l))
typed_by d l None there e u = absurd (cc)
typed_by d l (Some c) there e u = literal_typed d c l e u

typed_term : (t : Table) (d : Database) (x : Term) → unknown_fault t x.column ≡ None → named_literal_fault t d x.column x.literal ≡ None → IsUtf8Literal x.literal → IsTypedTerm t x
typed_term t d x u e text =
    typed_by d x.literal (column_named t x.column)
    (placed (λ c. bytes_eq x.column c.0) (all_columns t) (known (is_some (place_of t x.column)) _ u)) e text

each_typed : (t : Table) (d : Database) (terms : List Term) → AllByRecursion (λ x. unknown_fault t x.column ≡ None) terms
    → AllByRecursion (λ x. named_literal_fault t d x.column x.literal ≡ None) terms → AllByRecursion (λ x. IsUtf8Literal x.literal) terms → AllByRecursion (IsTypedTerm t) terms
each_typed t d [] u e text = tt
each_typed t d (x ∷ xs) u e text = (typed_term t d x u.0 e.0 text.0, each_typed t d xs u.1 e.1 text.1)

pub typed_terms : (t : Table) (d : Database) (terms : List Term) → terms_fault t terms ≡ None → term_literals_fault t d terms ≡ None → All (λ x. IsUtf8Literal x.literal) terms
    → All (IsTypedTerm t) terms
typed_terms t d terms u e text =
    All-from_recursion (IsTypedTerm t) terms
    (each_typed t d terms (none_of (λ x. unknown_fault t x.column) terms u) (none_of (λ x. named_literal_fault t d x.column x.literal) terms e)
    (recursion_from_All (λ x. IsUtf8Literal x.literal) terms text))

-- ---- the terms of a statement

checked_parts : (t : Table) (d : Database) (s : RowStatement) → check_fault t d s ≡ None → (columns_fault t s ≡ None) × (literals_fault t d s ≡ None)
unfolding check_fault
checked_parts t d s e =
    let p = no_fault (columns_fault t s) (option_or (shape_fault t s) (literals_fault t d s)) e in
    (p.0, (no_fault (shape_fault t s) (literals_fault t d s) p.1).1)

pub select_is_typed : (t : Table) (d : Database) (table : List ℕ) (wanted : Wanted) (terms : List Term) → check_fault t d (Select table wanted terms) ≡ None
    → TextsAreUtf8 (Select table wanted terms) → All (IsTypedTerm t) terms
select_is_typed t d table wanted terms e text =
    let p = checked_parts t d (Select table wanted terms) e in
    typed_terms t d terms (no_fault (wanted_fault t wanted) (terms_fault t terms) p.0).1 p.1 text

pub update_is_typed : (t : Table) (d : Database) (table : List ℕ) (targets : List Target) (terms : List Term) → check_fault t d (Update table targets terms) ≡ None
    → TextsAreUtf8 (Update table targets terms) → All (IsTypedTerm t) terms
update_is_typed t d table targets terms e text =
    let p = checked_parts t d (Update table targets terms) e in
    typed_terms t d terms (no_fault (targets_fault t [] targets) (terms_fault t terms) p.0).1
    (no_fault (first_fault (map (target_value_fault t d) targets)) (term_literals_fault t d terms) p.1).1 text.1

pub delete_is_typed : (t : Table) (d : Database) (table : List ℕ) (terms : List Term) → check_fault t d (Delete table terms) ≡ None
    → TextsAreUtf8 (Delete table terms) → All (IsTypedTerm t) terms
delete_is_typed t d table terms e text =
    let p = checked_parts t d (Delete table terms) e in
    typed_terms t d terms p.0 p.1 text
