-- Each region form can be read from the left by one token at a time.
use Rattle.std.proofs.Common.{◌≡◌, [], ◌∷◌, refl}
use Rattle.std.specs.Prelude.{is_some}
use Rattle.region_sql.specs.declared.row_statements.Comparison.TheVariants as comparisons
use Rattle.region_sql.specs.declared.tokens.Key.TheVariants as key
use Rattle.region_sql.specs.declared.tokens.Soft.TheVariants as soft
use Rattle.region_sql.specs.declared.tokens.Sign.TheVariants as sign
use Rattle.region_sql.specs.declared.tokens.Token.{Token}
use Rattle.region_sql.specs.declared.tokens.Token.TheVariants as token
use Rattle.region_sql.specs.Tokens.{kind_of}
use Rattle.region_sql.specs.Reading.{has}
use Rattle.region_sql.specs.Grammar.{type_in, column_type, goal, survive, not_null, column_key, column, item, item_list, table_home, locality, more_regions, maybe_survive, database_regions, new_database, new_table, create, restricted, alteration, altered_database, altered_table, alter, used, region_statement, statement, name, names, row_statement, insert, select, update, delete, row_list, row, literal_list, literal, wanted, where_terms, terms, term, compare, targets, target, value, change, integer, taken_away}
use Rattle.region_sql.proofs.Good.{Good}
use Rattle.region_sql.proofs.GoodForms.{kind-good, name-good, names-good, row_statement-good}

column_type-token : (t : Token) → is_some (type_in t) ≡ has (1 ∷ []) (kind_of t)
column_type-token (token.Key key.Add) = refl
column_type-token (token.Sign sign.Open) = refl
column_type-token (token.Compare comparisons.Eq) = refl
column_type-token (token.Soft soft.Default) = refl
column_type-token _ = refl

pub column_type-good : Good column_type
unfolding column_type
column_type-good = column_type-token

pub goal-good : Good goal
unfolding goal
goal-good = (kind-good _, kind-good _, refl, refl, refl)

pub survive-good : Good survive
unfolding survive goal
survive-good = (kind-good _, (goal-good, kind-good _, refl, refl), refl, refl)

pub not_null-good : Good not_null
unfolding not_null
not_null-good = ((kind-good _, kind-good _, refl, refl), refl)

pub column_key-good : Good column_key
unfolding column_key
column_key-good = (((kind-good _, kind-good _, refl, refl), kind-good _, refl, refl, refl), refl)

pub column-good : Good column
unfolding column name column_type not_null column_key
column-good = (((name-good, column_type-good, refl, refl), not_null-good, refl, refl), column_key-good, refl, refl)

pub item-good : Good item
unfolding item column name column_type not_null column_key names
item-good = ((kind-good _, (kind-good _, (kind-good _, (names-good, kind-good _, refl, refl), refl, refl), refl, refl), refl, refl), column-good, refl, refl, refl)

pub item_list-good : Good item_list
unfolding item_list item column name column_type not_null column_key names
item_list-good = (item-good, refl, refl)

pub table_home-good : Good table_home
unfolding table_home name
table_home-good = ((kind-good _, kind-good _, refl, refl), name-good, refl, refl, refl)

pub locality-good : Good locality
unfolding locality table_home name
locality-good = (kind-good _, (kind-good _, (kind-good _, (kind-good _, (kind-good _, (kind-good _, table_home-good, refl, refl), refl, refl), refl, refl, refl), refl, refl), refl, refl), refl, refl, refl)

pub more_regions-good : Good more_regions
unfolding more_regions names name
more_regions-good = ((kind-good _, names-good, refl, refl), refl)

pub maybe_survive-good : Good maybe_survive
unfolding maybe_survive survive goal
maybe_survive-good = (survive-good, refl)

pub database_regions-good : Good database_regions
unfolding database_regions name more_regions names maybe_survive survive goal
database_regions-good = (((kind-good _, (kind-good _, name-good, refl, refl), refl, refl), more_regions-good, refl, refl), maybe_survive-good, refl, refl)

pub new_database-good : Good new_database
unfolding new_database name database_regions more_regions names maybe_survive survive goal
new_database-good = ((kind-good _, name-good, refl, refl), (database_regions-good, refl), refl, refl)

pub new_table-good : Good new_table
unfolding new_table name item_list item column column_type not_null column_key names locality table_home
new_table-good = ((kind-good _, name-good, refl, refl), ((kind-good _, (item_list-good, kind-good _, refl, refl), refl, refl), ((kind-good _, locality-good, refl, refl), refl), refl, refl), refl, refl)

pub create-good : Good create
unfolding create new_database name database_regions more_regions names maybe_survive survive goal new_table item_list item column column_type not_null column_key locality table_home
create-good = (kind-good _, (new_database-good, new_table-good, refl, refl, refl), refl, refl)

pub restricted-good : Good restricted
unfolding restricted
restricted-good = (kind-good _, kind-good _, refl, refl, refl)

pub alteration-good : Good alteration
unfolding alteration name survive goal restricted
alteration-good = ((kind-good _, (kind-good _, (kind-good _, name-good, refl, refl), refl, refl), refl, refl), ((kind-good _, (kind-good _, name-good, refl, refl), refl, refl), ((kind-good _, (kind-good _, name-good, refl, refl), refl, refl), (survive-good, (kind-good _, restricted-good, refl, refl), refl, refl, refl), refl, refl, refl), refl, refl, refl), refl, refl, refl)

pub altered_database-good : Good altered_database
unfolding altered_database name alteration survive goal restricted
altered_database-good = ((kind-good _, name-good, refl, refl), alteration-good, refl, refl)

pub altered_table-good : Good altered_table
unfolding altered_table name locality table_home
altered_table-good = ((kind-good _, name-good, refl, refl), (kind-good _, (kind-good _, locality-good, refl, refl), refl, refl), refl, refl)

pub alter-good : Good alter
unfolding alter altered_database name alteration survive goal restricted altered_table locality table_home
alter-good = (kind-good _, (altered_database-good, altered_table-good, refl, refl, refl), refl, refl)

pub used-good : Good used
unfolding used name
used-good = (kind-good _, name-good, refl, refl)

pub region_statement-good : Good region_statement
unfolding region_statement create new_database name database_regions more_regions names maybe_survive survive goal new_table item_list item column column_type not_null column_key locality table_home alter altered_database alteration restricted altered_table used
region_statement-good = (create-good, (alter-good, used-good, refl, refl, refl), refl, refl, refl)

pub statement-good : Good statement
unfolding statement region_statement create new_database name database_regions more_regions names maybe_survive survive goal new_table item_list item column column_type not_null column_key locality table_home alter altered_database alteration restricted altered_table used row_statement insert select update delete row_list row literal_list literal wanted where_terms terms term compare targets target value change integer taken_away
statement-good = (region_statement-good, row_statement-good, refl, refl, refl)
