use Rattle.std.specs.Prelude.{ℕ, Bool, ◌&&◌, List, Option, find, slice_get, option_and_then}
use Rattle.std.specs.Str.{bytes_eq}
use Rattle.descriptors.specs.declared.database.Database.{Database}
use Rattle.descriptors.specs.declared.table.Table.{Table}

-- What a catalog holds: the regions of the cluster, the databases and the tables of all databases, each
-- in the order in which they were made, and the place of the current database. (This project's profile.)
pub record Contents : Type 0 where
  pub regions : List (List ℕ)
  pub databases : List Database
  pub tables : List Table
  pub current : Option ℕ

abbrev pub is_database : List ℕ → Database → Bool
is_database name d = bytes_eq name d.name

abbrev pub is_table : List ℕ → List ℕ → Table → Bool
is_table database name t = bytes_eq database t.database && bytes_eq name t.name

-- The database of a name.
abbrev pub database_named : List ℕ → List Database → Option Database
database_named name databases = find (is_database name) databases

-- The table of a name in a database.
abbrev pub table_named : List ℕ → List ℕ → List Table → Option Table
table_named database name tables = find (is_table database name) tables

-- CREATE DATABASE and USE set the current database. (CockroachDB's documentation of USE.)
abbrev pub current_database : Contents → Option Database
current_database c = option_and_then (slice_get c.databases) c.current

-- The table of a name in the current database.
abbrev pub current_table : Contents → List ℕ → Option Table
current_table c name = option_and_then (λ d. table_named d.name name c.tables) (current_database c)
