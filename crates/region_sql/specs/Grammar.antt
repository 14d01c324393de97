-- The forms of statements. Source: CockroachDB's documentation of SQL statements and PostgreSQL's
-- forms of the same names, in this project's profile.
use Rattle.std.specs.Prelude.{ℕ, Bool, true, false, cond, List, [], ◌∷◌, Option, Some, None, nat_eq, ℤ}
use Rattle.region_sql.specs.declared.region_statements.ColumnKey.{ColumnKey}
use Rattle.region_sql.specs.declared.region_statements.ColumnKey.TheVariants as keys
use Rattle.region_sql.specs.declared.region_statements.ColumnType.{ColumnType}
use Rattle.region_sql.specs.declared.region_statements.Goal.{Goal}
use Rattle.region_sql.specs.declared.region_statements.Goal.TheVariants as goals
use Rattle.region_sql.specs.declared.region_statements.Item.{Item}
use Rattle.region_sql.specs.declared.region_statements.Item.TheVariants as items
use Rattle.region_sql.specs.declared.region_statements.Locality.{Locality}
use Rattle.region_sql.specs.declared.region_statements.Locality.TheVariants as localities
use Rattle.region_sql.specs.declared.region_statements.RegionStatement.{RegionStatement}
use Rattle.region_sql.specs.declared.region_statements.RegionStatement.TheVariants as regions
use Rattle.region_sql.specs.declared.statements.Statement.{Statement}
use Rattle.region_sql.specs.declared.statements.Statement.TheVariants as statements
use Rattle.region_sql.specs.declared.tokens.Soft.TheVariants as softs
use Rattle.region_sql.specs.declared.row_readers.Change.{Change}
use Rattle.region_sql.specs.declared.row_readers.Change.TheVariants as changes
use Rattle.region_sql.specs.declared.row_statements.Comparison.{Comparison}
use Rattle.region_sql.specs.declared.row_statements.Comparison.TheVariants as comparisons
use Rattle.region_sql.specs.declared.row_statements.Literal.{Literal}
use Rattle.region_sql.specs.declared.row_statements.Literal.TheVariants as literals
use Rattle.region_sql.specs.declared.row_statements.Term.{Term}
use Rattle.region_sql.specs.declared.row_statements.Value.{Value}
use Rattle.region_sql.specs.declared.row_statements.Value.TheVariants as values
use Rattle.region_sql.specs.declared.row_statements.Target.{Target}
use Rattle.region_sql.specs.declared.row_statements.Wanted.{Wanted}
use Rattle.region_sql.specs.declared.row_statements.Wanted.TheVariants as wants
use Rattle.region_sql.specs.declared.row_statements.RowStatement.{RowStatement}
use Rattle.region_sql.specs.declared.row_statements.RowStatement.TheVariants as rows
use Rattle.region_sql.specs.declared.tokens.Key.{Key}
use Rattle.region_sql.specs.declared.tokens.Key.TheVariants as key
use Rattle.region_sql.specs.declared.tokens.Soft.{Soft}
use Rattle.region_sql.specs.declared.tokens.Sign.{Sign}
use Rattle.region_sql.specs.declared.tokens.Sign.TheVariants as sign
use Rattle.region_sql.specs.declared.tokens.Token.{Token}
use Rattle.region_sql.specs.declared.tokens.Token.TheVariants as token
use Rattle.region_sql.specs.Tokens.{kind_of, key_number, soft_number, soft_text, sign_number, comparison_number}
use Rattle.region_sql.specs.Lexing.{IsSplit}
use Rattle.region_sql.specs.Forms.{Form, one, as_value, both, either, maybe, listed, ended, Fits}

-- ---- single tokens

-- Any token of this kind, which says no more.
abbrev pub of_kind : ℕ → Form (Unit {0})
of_kind kind = one (kind ∷ []) (λ t. cond (nat_eq kind (kind_of t)) (Some tt) None)

abbrev pub word : Key → Form (Unit {0})
word k = of_kind (key_number k)

abbrev pub soft : Soft → Form (Unit {0})
soft s = of_kind (soft_number s)

abbrev pub mark : Sign → Form (Unit {0})
mark s = of_kind (sign_number s)

abbrev pub equals : Form (Unit {0})
equals = of_kind (comparison_number comparisons.Eq)

abbrev pub name_in : Token → Option (List ℕ)
name_in (token.Name n) = Some n
name_in (token.Soft s) = Some (soft_text s)
name_in _ = None

-- A word that is no key word, or a quoted name.
unfoldable pub name : Form (List ℕ)
name = one (0 ∷ 50 ∷ 51 ∷ 52 ∷ []) name_in

abbrev pub literal_in : Token → Option Literal
literal_in (token.Integer n) = Some (literals.Int n)
literal_in (token.Negative n m) = Some (literals.Int n)
literal_in (token.Text t) = Some (literals.Text t)
literal_in (token.Bool b) = Some (literals.Bool b)
literal_in _ = None

unfoldable pub literal : Form Literal
literal = one (2 ∷ 3 ∷ 4 ∷ 5 ∷ []) literal_in

abbrev pub comparison_in : Token → Option Comparison
comparison_in (token.Compare c) = Some c
comparison_in _ = None

-- = < <= > >= <>
unfoldable pub compare : Form Comparison
compare = one (10 ∷ 11 ∷ 12 ∷ 13 ∷ 14 ∷ 15 ∷ []) comparison_in

abbrev pub integer_in : Token → Option ℤ
integer_in (token.Integer n) = Some n
integer_in _ = None

-- An integer without a sign of its own.
unfoldable pub integer : Form ℤ
integer = one (3 ∷ []) integer_in

abbrev pub taken_in : Token → Option ℤ
taken_in (token.Negative n m) = Some m
taken_in _ = None

-- A minus and an integer with nothing between them.
unfoldable pub taken_away : Form ℤ
taken_away = one (4 ∷ []) taken_in

-- ---- how forms are put together

-- A form whose value is that of its second part, or of its first.
infixr 12 ◌▸◌
abbrev pub ◌▸◌ : {A B : Type 0} → Form A → Form B → Form B
f ▸ g = both f g (λ a b. b)

infixr 13 ◌◂◌
abbrev pub ◌◂◌ : {A B : Type 0} → Form A → Form B → Form A
f ◂ g = both f g (λ a b. a)

abbrev pub three : {A B C D : Type 0} → Form A → Form B → Form C → (A → B → C → D) → Form D
three {B = B} {C = C} f g h make = both {B = B × C} f (both g h (λ b c. (b, c))) (λ a p. make a p.0 p.1)

abbrev pub with_commas : {A : Type 0} → Form A → Form (List A)
with_commas f = listed (sign_number sign.Comma) f

abbrev pub inside : {A : Type 0} → Form A → Form A
inside f = mark sign.Open ▸ f ◂ mark sign.Close

abbrev pub list_or_none : {A : Type 0} → Option (List A) → List A
list_or_none None = []
list_or_none (Some vs) = vs

-- ---- row statements

unfoldable pub names : Form (List (List ℕ))
names = with_commas name

-- name op literal
unfoldable pub term : Form Term
term = three name compare literal (λ column op value. record { column = column; op = op; literal = value })

unfoldable pub terms : Form (List Term)
terms = listed (key_number key.And) term

-- [WHERE term AND ..]
unfoldable pub where_terms : Form (List Term)
where_terms = as_value (maybe (word key.Where ▸ terms)) list_or_none

-- { literal }
unfoldable pub literal_list : Form (List Literal)
literal_list = with_commas literal

-- ( { literal } )
unfoldable pub row : Form (List Literal)
row = inside literal_list

unfoldable pub row_list : Form (List (List Literal))
row_list = with_commas row

-- + integer | - integer
unfoldable pub change : Form Change
change = either (mark sign.Plus ▸ as_value integer changes.Plus) (either (mark sign.Minus ▸ as_value integer changes.Minus) (as_value taken_away changes.Minus))

-- The value of a column that is changed, or taken as it stands.
abbrev pub changed : List ℕ → Option Change → Value
changed column None = values.Column column
changed column (Some (changes.Plus n)) = values.Plus column n
changed column (Some (changes.Minus n)) = values.Minus column n

-- literal | name | name + integer | name - integer
unfoldable pub value : Form Value
value = either (as_value literal values.Literal) (both name (maybe change) changed)

-- name = value
unfoldable pub target : Form Target
target = both (name ◂ equals) value (λ column what. record { column = column; value = what })

unfoldable pub targets : Form (List Target)
targets = with_commas target

-- * | count ( * ) | { name }
unfoldable pub wanted : Form Wanted
wanted = either (as_value (mark sign.Star) (λ _. wants.All))
    (either (word key.Count ▸ mark sign.Open ▸ mark sign.Star ▸ as_value (mark sign.Close) (λ _. wants.Count))
    (as_value names wants.Columns))

-- INSERT INTO name ( { name } ) VALUES { ( { literal } ) }
unfoldable pub insert : Form RowStatement
insert = three (word key.Insert ▸ word key.Into ▸ name) (inside names) (word key.Values ▸ row_list) rows.Insert

-- SELECT wanted FROM name [where]
unfoldable pub select : Form RowStatement
select = three (word key.Select ▸ wanted) (word key.From ▸ name) where_terms (λ what table conditions. rows.Select table what conditions)

-- UPDATE name SET { target } [where]
unfoldable pub update : Form RowStatement
update = three (word key.Update ▸ name) (word key.Set ▸ targets) where_terms rows.Update

-- DELETE FROM name [where]
unfoldable pub delete : Form RowStatement
delete = both (word key.Delete ▸ word key.From ▸ name) where_terms rows.Delete

unfoldable pub row_statement : Form RowStatement
row_statement = either insert (either select (either update delete))

-- ---- region statements

abbrev pub type_in : Token → Option ColumnType
type_in (token.Type t) = Some t
type_in _ = None

-- INT | INT8 | BIGINT | STRING | TEXT | BOOL
unfoldable pub column_type : Form ColumnType
column_type = one (1 ∷ []) type_in

-- ZONE | REGION
unfoldable pub goal : Form Goal
goal = either (as_value (word key.Zone) (λ _. goals.Zone)) (as_value (word key.Region) (λ _. goals.Region))

-- SURVIVE goal FAILURE
unfoldable pub survive : Form Goal
survive = word key.Survive ▸ goal ◂ word key.Failure

abbrev pub is_given : {A : Type 0} → Option A → Bool
is_given None = false
is_given (Some v) = true

-- [NOT NULL]
unfoldable pub not_null : Form Bool
not_null = as_value (maybe (word key.Not ▸ word key.Null)) is_given

abbrev pub key_or_plain : Option ColumnKey → ColumnKey
key_or_plain None = keys.Plain
key_or_plain (Some k) = k

-- [PRIMARY KEY | UNIQUE]
unfoldable pub column_key : Form ColumnKey
column_key = as_value (maybe (either (word key.Primary ▸ as_value (word key.Key) (λ _. keys.Primary)) (as_value (word key.Unique) (λ _. keys.Unique)))) key_or_plain

abbrev pub then : {A B : Type 0} → Form A → Form B → Form (A × B)
then f g = both f g (λ a b. (a, b))

-- name type [NOT NULL] [PRIMARY KEY | UNIQUE]
unfoldable pub column : Form Item
column = both (then (then name column_type) not_null) column_key (λ c k. items.Column c.0.0 c.0.1 c.1 k)

-- PRIMARY KEY ( { name } ) | column
unfoldable pub item : Form Item
item = either (word key.Primary ▸ word key.Key ▸ as_value (inside names) items.Key) column

unfoldable pub item_list : Form (List Item)
item_list = with_commas item

-- PRIMARY REGION | name
unfoldable pub table_home : Form Locality
table_home = either (word key.Primary ▸ as_value (word key.Region) (λ _. localities.InPrimary)) (as_value name localities.InRegion)

-- GLOBAL | REGIONAL BY ROW | REGIONAL BY TABLE IN home
unfoldable pub locality : Form Locality
locality = either (as_value (word key.Global) (λ _. localities.Global))
    (word key.Regional ▸ word key.By ▸ either (as_value (word key.Row) (λ _. localities.ByRow)) (word key.Table ▸ word key.In ▸ table_home))

-- [REGIONS { name }]
unfoldable pub more_regions : Form (List (List ℕ))
more_regions = as_value (maybe (word key.Regions ▸ names)) list_or_none

-- [SURVIVE goal FAILURE]
unfoldable pub maybe_survive : Form (Option Goal)
maybe_survive = maybe survive

-- PRIMARY REGION name [REGIONS { name }] [SURVIVE goal FAILURE]
unfoldable pub database_regions : Form ((List ℕ × List (List ℕ)) × Option Goal)
database_regions = then (then (word key.Primary ▸ word key.Region ▸ name) more_regions) maybe_survive

abbrev pub made_database : List ℕ → Option ((List ℕ × List (List ℕ)) × Option Goal) → RegionStatement
made_database name None = regions.CreateDatabase name None [] None
made_database name (Some r) = regions.CreateDatabase name (Some r.0.0) r.0.1 r.1

-- DATABASE name [regions], after CREATE
unfoldable pub new_database : Form RegionStatement
new_database = both (word key.Database ▸ name) (maybe database_regions) made_database

-- TABLE name ( { item } ) [LOCALITY locality], after CREATE
unfoldable pub new_table : Form RegionStatement
new_table = three (word key.Table ▸ name) (inside item_list) (maybe (word key.Locality ▸ locality)) regions.CreateTable

-- CREATE ..
unfoldable pub create : Form RegionStatement
create = word key.Create ▸ either new_database new_table

-- RESTRICTED | DEFAULT
unfoldable pub restricted : Form Bool
restricted = either (as_value (soft softs.Restricted) (λ _. true)) (as_value (soft softs.Default) (λ _. false))

-- What is done to a database, after its name: SET PRIMARY REGION name | ADD REGION name | DROP REGION
-- name | SURVIVE goal FAILURE | PLACEMENT RESTRICTED or DEFAULT
unfoldable pub alteration : Form (List ℕ → RegionStatement)
alteration = either (word key.Set ▸ word key.Primary ▸ word key.Region ▸ as_value name (λ r d. regions.SetPrimary d r))
    (either (word key.Add ▸ word key.Region ▸ as_value name (λ r d. regions.AddRegion d r))
    (either (word key.Drop ▸ word key.Region ▸ as_value name (λ r d. regions.DropRegion d r))
    (either (as_value survive (λ g d. regions.Survive d g))
    (soft softs.Placement ▸ as_value restricted (λ b d. regions.Placement d b)))))

-- DATABASE name alteration, after ALTER
unfoldable pub altered_database : Form RegionStatement
altered_database = both (word key.Database ▸ name) alteration (λ d change. change d)

-- TABLE name SET LOCALITY locality, after ALTER
unfoldable pub altered_table : Form RegionStatement
altered_table = both (word key.Table ▸ name) (word key.Set ▸ word key.Locality ▸ locality) regions.SetLocality

-- ALTER ..
unfoldable pub alter : Form RegionStatement
alter = word key.Alter ▸ either altered_database altered_table

-- USE name
unfoldable pub used : Form RegionStatement
used = word key.Use ▸ as_value name regions.Use

unfoldable pub region_statement : Form RegionStatement
region_statement = either create (either alter used)

-- ---- statements and lists

unfoldable pub statement : Form Statement
statement = either (as_value region_statement statements.Region) (as_value row_statement statements.Row)

-- Row statements with ; between each two, and maybe one after the last
unfoldable pub row_statements : Form (List RowStatement)
row_statements = ended (sign_number sign.Semicolon) row_statement

-- ---- texts

-- The text is a list of these row statements.
abbrev pub IsListText : List ℕ → List RowStatement → Type 0
IsListText text list = (ts : List Token) × IsSplit text ts × Fits row_statements list ts

-- The text is this statement.
abbrev pub IsStatementText : List ℕ → Statement → Type 0
IsStatementText text v = (ts : List Token) × IsSplit text ts × Fits statement v ts
