-- Tokens that fit each form.
use Rattle.std.proofs.Common.{[], refl, pos}
use Rattle.region_sql.specs.declared.region_statements.ColumnType.TheVariants as types
use Rattle.region_sql.specs.declared.row_statements.Comparison.TheVariants as comparisons
use Rattle.region_sql.specs.declared.row_statements.Literal.TheVariants as literals
use Rattle.region_sql.specs.declared.tokens.Key.TheVariants as key
use Rattle.region_sql.specs.declared.tokens.Soft.TheVariants as soft
use Rattle.region_sql.specs.declared.tokens.Sign.TheVariants as sign
use Rattle.region_sql.specs.declared.tokens.Token.TheVariants as token
use Rattle.region_sql.specs.Grammar.{name, literal, compare, integer, taken_away, column_type, names, term, terms, where_terms, literal_list, row, row_list, change, value, target, targets, wanted, insert, select, update, delete, row_statement, row_statements, goal, survive, not_null, column_key, column, item, item_list, table_home, locality, more_regions, maybe_survive, database_regions, new_database, new_table, create, restricted, alteration, altered_database, altered_table, alter, used, region_statement, statement}
use Rattle.region_sql.proofs.Outcomes.{Sampled}

pub name-sample : Sampled name
unfolding name
name-sample = (token.Name [], [], refl)

pub literal-sample : Sampled literal
unfolding literal
literal-sample = (token.Integer (pos 0), literals.Int (pos 0), refl)

pub compare-sample : Sampled compare
unfolding compare
compare-sample = (token.Compare comparisons.Eq, comparisons.Eq, refl)

pub integer-sample : Sampled integer
unfolding integer
integer-sample = (token.Integer (pos 0), pos 0, refl)

pub taken_away-sample : Sampled taken_away
unfolding taken_away
taken_away-sample = (token.Negative (pos 0) (pos 0), pos 0, refl)

pub column_type-sample : Sampled column_type
unfolding column_type
column_type-sample = (token.Type types.Int, types.Int, refl)

pub names-sample : Sampled names
unfolding names
names-sample = name-sample

pub term-sample : Sampled term
unfolding term
term-sample = (name-sample, (compare-sample, literal-sample))

pub terms-sample : Sampled terms
unfolding terms
terms-sample = term-sample

pub where_terms-sample : Sampled where_terms
unfolding where_terms
where_terms-sample = ((token.Key key.Where, tt, refl), terms-sample)

pub literal_list-sample : Sampled literal_list
unfolding literal_list
literal_list-sample = literal-sample

pub row-sample : Sampled row
unfolding row
row-sample = ((token.Sign sign.Open, tt, refl), (literal_list-sample, (token.Sign sign.Close, tt, refl)))

pub row_list-sample : Sampled row_list
unfolding row_list
row_list-sample = row-sample

pub change-sample : Sampled change
unfolding change
change-sample = (((token.Sign sign.Plus, tt, refl), integer-sample), (((token.Sign sign.Minus, tt, refl), integer-sample), taken_away-sample))

pub value-sample : Sampled value
unfolding value
value-sample = (literal-sample, (name-sample, change-sample))

pub target-sample : Sampled target
unfolding target
target-sample = ((name-sample, (token.Compare comparisons.Eq, tt, refl)), value-sample)

pub targets-sample : Sampled targets
unfolding targets
targets-sample = target-sample

pub wanted-sample : Sampled wanted
unfolding wanted
wanted-sample = ((token.Sign sign.Star, tt, refl), (((token.Key key.Count, tt, refl), ((token.Sign sign.Open, tt, refl), ((token.Sign sign.Star, tt, refl), (token.Sign sign.Close, tt, refl)))), names-sample))

pub insert-sample : Sampled insert
unfolding insert
insert-sample = (((token.Key key.Insert, tt, refl), ((token.Key key.Into, tt, refl), name-sample)), (((token.Sign sign.Open, tt, refl), (names-sample, (token.Sign sign.Close, tt, refl))), ((token.Key key.Values, tt, refl), row_list-sample)))

pub select-sample : Sampled select
unfolding select
select-sample = (((token.Key key.Select, tt, refl), wanted-sample), (((token.Key key.From, tt, refl), name-sample), where_terms-sample))

pub update-sample : Sampled update
unfolding update
update-sample = (((token.Key key.Update, tt, refl), name-sample), (((token.Key key.Set, tt, refl), targets-sample), where_terms-sample))

pub delete-sample : Sampled delete
unfolding delete
delete-sample = (((token.Key key.Delete, tt, refl), ((token.Key key.From, tt, refl), name-sample)), where_terms-sample)

pub row_statement-sample : Sampled row_statement
unfolding row_statement
row_statement-sample = (insert-sample, (select-sample, (update-sample, delete-sample)))

pub row_statements-sample : Sampled row_statements
unfolding row_statements
row_statements-sample = row_statement-sample

pub goal-sample : Sampled goal
unfolding goal
goal-sample = ((token.Key key.Zone, tt, refl), (token.Key key.Region, tt, refl))

pub survive-sample : Sampled survive
unfolding survive
survive-sample = ((token.Key key.Survive, tt, refl), (goal-sample, (token.Key key.Failure, tt, refl)))

pub not_null-sample : Sampled not_null
unfolding not_null
not_null-sample = ((token.Key key.Not, tt, refl), (token.Key key.Null, tt, refl))

pub column_key-sample : Sampled column_key
unfolding column_key
column_key-sample = (((token.Key key.Primary, tt, refl), (token.Key key.Key, tt, refl)), (token.Key key.Unique, tt, refl))

pub column-sample : Sampled column
unfolding column
column-sample = (((name-sample, column_type-sample), not_null-sample), column_key-sample)

pub item-sample : Sampled item
unfolding item
item-sample = (((token.Key key.Primary, tt, refl), ((token.Key key.Key, tt, refl), ((token.Sign sign.Open, tt, refl), (names-sample, (token.Sign sign.Close, tt, refl))))), column-sample)

pub item_list-sample : Sampled item_list
unfolding item_list
item_list-sample = item-sample

pub table_home-sample : Sampled table_home
unfolding table_home
table_home-sample = (((token.Key key.Primary, tt, refl), (token.Key key.Region, tt, refl)), name-sample)

pub locality-sample : Sampled locality
unfolding locality
locality-sample = ((token.Key key.Global, tt, refl), ((token.Key key.Regional, tt, refl), ((token.Key key.By, tt, refl), ((token.Key key.Row, tt, refl), ((token.Key key.Table, tt, refl), ((token.Key key.In, tt, refl), table_home-sample))))))

pub more_regions-sample : Sampled more_regions
unfolding more_regions
more_regions-sample = ((token.Key key.Regions, tt, refl), names-sample)

pub maybe_survive-sample : Sampled maybe_survive
unfolding maybe_survive
maybe_survive-sample = survive-sample

pub database_regions-sample : Sampled database_regions
unfolding database_regions
database_regions-sample = ((((token.Key key.Primary, tt, refl), ((token.Key key.Region, tt, refl), name-sample)), more_regions-sample), maybe_survive-sample)

pub new_database-sample : Sampled new_database
unfolding new_database
new_database-sample = (((token.Key key.Database, tt, refl), name-sample), database_regions-sample)

pub new_table-sample : Sampled new_table
unfolding new_table
new_table-sample = (((token.Key key.Table, tt, refl), name-sample), (((token.Sign sign.Open, tt, refl), (item_list-sample, (token.Sign sign.Close, tt, refl))), ((token.Key key.Locality, tt, refl), locality-sample)))

pub create-sample : Sampled create
unfolding create
create-sample = ((token.Key key.Create, tt, refl), (new_database-sample, new_table-sample))

pub restricted-sample : Sampled restricted
unfolding restricted
restricted-sample = ((token.Soft soft.Restricted, tt, refl), (token.Soft soft.Default, tt, refl))

pub alteration-sample : Sampled alteration
unfolding alteration
alteration-sample = (((token.Key key.Set, tt, refl), ((token.Key key.Primary, tt, refl), ((token.Key key.Region, tt, refl), name-sample))), (((token.Key key.Add, tt, refl), ((token.Key key.Region, tt, refl), name-sample)), (((token.Key key.Drop, tt, refl), ((token.Key key.Region, tt, refl), name-sample)), (survive-sample, ((token.Soft soft.Placement, tt, refl), restricted-sample)))))

pub altered_database-sample : Sampled altered_database
unfolding altered_database
altered_database-sample = (((token.Key key.Database, tt, refl), name-sample), alteration-sample)

pub altered_table-sample : Sampled altered_table
unfolding altered_table
altered_table-sample = (((token.Key key.Table, tt, refl), name-sample), ((token.Key key.Set, tt, refl), ((token.Key key.Locality, tt, refl), locality-sample)))

pub alter-sample : Sampled alter
unfolding alter
alter-sample = ((token.Key key.Alter, tt, refl), (altered_database-sample, altered_table-sample))

pub used-sample : Sampled used
unfolding used
used-sample = ((token.Key key.Use, tt, refl), name-sample)

pub region_statement-sample : Sampled region_statement
unfolding region_statement
region_statement-sample = (create-sample, (alter-sample, used-sample))

pub statement-sample : Sampled statement
unfolding statement
statement-sample = (region_statement-sample, row_statement-sample)
