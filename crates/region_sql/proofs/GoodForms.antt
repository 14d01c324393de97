-- Each form can be read from the left by one token at a time.
use Rattle.std.proofs.Common.{◌≡◌, ℕ, true, false, cond, ◌||◌, [], ◌∷◌, Some, None, refl, nat_eq}
use Rattle.std.specs.Prelude.{is_some}
use Rattle.region_sql.specs.declared.row_statements.Comparison.TheVariants as comparisons
use Rattle.region_sql.specs.declared.tokens.Key.TheVariants as key
use Rattle.region_sql.specs.declared.tokens.Soft.TheVariants as soft
use Rattle.region_sql.specs.declared.tokens.Sign.TheVariants as sign
use Rattle.region_sql.specs.declared.tokens.Token.{Token}
use Rattle.region_sql.specs.declared.tokens.Token.TheVariants as token
use Rattle.region_sql.specs.Tokens.{kind_of}
use Rattle.region_sql.specs.Reading.{has}
use Rattle.region_sql.specs.Grammar.{of_kind, name_in, literal_in, comparison_in, integer_in, taken_in, name, literal, compare, integer, taken_away, names, term, terms, where_terms, literal_list, row, row_list, change, value, target, targets, wanted, insert, select, update, delete, row_statement, row_statements}
use Rattle.region_sql.proofs.Good.{Good}

pub kind-good : (kind : ℕ) → Good (of_kind kind)
kind-good kind t = elim (nat_eq kind (kind_of t)) as (λ b. is_some (cond b (Some (tt {0})) None) ≡ (b || false)) [ true ↦ refl | false ↦ refl ]

name-token : (t : Token) → is_some (name_in t) ≡ has (0 ∷ 50 ∷ 51 ∷ 52 ∷ []) (kind_of t)
name-token (token.Key key.Add) = refl
name-token (token.Sign sign.Open) = refl
name-token (token.Compare comparisons.Eq) = refl
name-token (token.Soft soft.Default) = refl
name-token _ = refl

pub name-good : Good name
unfolding name
name-good = name-token

literal-token : (t : Token) → is_some (literal_in t) ≡ has (2 ∷ 3 ∷ 4 ∷ 5 ∷ []) (kind_of t)
literal-token (token.Key key.Add) = refl
literal-token (token.Sign sign.Open) = refl
literal-token (token.Compare comparisons.Eq) = refl
literal-token (token.Soft soft.Default) = refl
literal-token _ = refl

pub literal-good : Good literal
unfolding literal
literal-good = literal-token

compare-token : (t : Token) → is_some (comparison_in t) ≡ has (10 ∷ 11 ∷ 12 ∷ 13 ∷ 14 ∷ 15 ∷ []) (kind_of t)
compare-token (token.Key key.Add) = refl
compare-token (token.Sign sign.Open) = refl
compare-token (token.Compare comparisons.Eq) = refl
compare-token (token.Soft soft.Default) = refl
compare-token _ = refl

pub compare-good : Good compare
unfolding compare
compare-good = compare-token

integer-token : (t : Token) → is_some (integer_in t) ≡ has (3 ∷ []) (kind_of t)
integer-token (token.Key key.Add) = refl
integer-token (token.Sign sign.Open) = refl
integer-token (token.Compare comparisons.Eq) = refl
integer-token (token.Soft soft.Default) = refl
integer-token _ = refl

pub integer-good : Good integer
unfolding integer
integer-good = integer-token

taken_away-token : (t : Token) → is_some (taken_in t) ≡ has (4 ∷ []) (kind_of t)
taken_away-token (token.Key key.Add) = refl
taken_away-token (token.Sign sign.Open) = refl
taken_away-token (token.Compare comparisons.Eq) = refl
taken_away-token (token.Soft soft.Default) = refl
taken_away-token _ = refl

pub taken_away-good : Good taken_away
unfolding taken_away
taken_away-good = taken_away-token

pub names-good : Good names
unfolding names name
names-good = (name-good, refl, refl)

pub term-good : Good term
unfolding term name compare literal
term-good = (name-good, (compare-good, literal-good, refl, refl), refl, refl)

pub terms-good : Good terms
unfolding terms name compare literal term
terms-good = (term-good, refl, refl)

pub where_terms-good : Good where_terms
unfolding where_terms name compare literal term terms
where_terms-good = ((kind-good _, terms-good, refl, refl), refl)

pub literal_list-good : Good literal_list
unfolding literal_list literal
literal_list-good = (literal-good, refl, refl)

pub row-good : Good row
unfolding row literal literal_list
row-good = (kind-good _, (literal_list-good, kind-good _, refl, refl), refl, refl)

pub row_list-good : Good row_list
unfolding row_list literal literal_list row
row_list-good = (row-good, refl, refl)

pub change-good : Good change
unfolding change integer taken_away
change-good = ((kind-good _, integer-good, refl, refl), ((kind-good _, integer-good, refl, refl), taken_away-good, refl, refl, refl), refl, refl, refl)

pub value-good : Good value
unfolding value literal name change integer taken_away
value-good = (literal-good, (name-good, (change-good, refl), refl, refl), refl, refl, refl)

pub target-good : Good target
unfolding target name value literal change integer taken_away
target-good = ((name-good, kind-good _, refl, refl), value-good, refl, refl)

pub targets-good : Good targets
unfolding targets name value literal change integer taken_away target
targets-good = (target-good, refl, refl)

pub wanted-good : Good wanted
unfolding wanted names name
wanted-good = (kind-good _, ((kind-good _, (kind-good _, (kind-good _, kind-good _, refl, refl), refl, refl), refl, refl), names-good, refl, refl, refl), refl, refl, refl)

pub insert-good : Good insert
unfolding insert name names row_list row literal_list literal
insert-good = ((kind-good _, (kind-good _, name-good, refl, refl), refl, refl), ((kind-good _, (names-good, kind-good _, refl, refl), refl, refl), (kind-good _, row_list-good, refl, refl), refl, refl), refl, refl)

pub select-good : Good select
unfolding select wanted names name where_terms terms term compare literal
select-good = ((kind-good _, wanted-good, refl, refl), ((kind-good _, name-good, refl, refl), where_terms-good, refl, refl), refl, refl)

pub update-good : Good update
unfolding update name targets target value literal change integer taken_away where_terms terms term compare
update-good = ((kind-good _, name-good, refl, refl), ((kind-good _, targets-good, refl, refl), where_terms-good, refl, refl), refl, refl)

pub delete-good : Good delete
unfolding delete name where_terms terms term compare literal
delete-good = ((kind-good _, (kind-good _, name-good, refl, refl), refl, refl), where_terms-good, refl, refl)

pub row_statement-good : Good row_statement
unfolding row_statement insert select update delete name names row_list row literal_list literal wanted where_terms terms term compare targets target value change integer taken_away
row_statement-good = (insert-good, (select-good, (update-good, delete-good, refl, refl, refl), refl, refl, refl), refl, refl, refl)

pub row_statements-good : Good row_statements
unfolding row_statements row_statement insert select update delete name names row_list row literal_list literal wanted where_terms terms term compare targets target value change integer taken_away
row_statements-good = (row_statement-good, refl, refl)
