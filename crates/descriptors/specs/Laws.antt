use Rattle.std.specs.Prelude.{ℕ, List}
use Rattle.region_sql.specs.declared.region_statements.RegionStatement.{RegionStatement}
use Rattle.region_sql.specs.declared.statements.Statement.TheVariants.{Region}
use Rattle.region_sql.specs.Grammar.{IsStatementText}
use Rattle.descriptors.specs.Changes.{NewNamesAreUtf8}

-- The new names of a statement that some bytes are.
abbrev pub ReadNamesAreUtf8 : Type 0
ReadNamesAreUtf8 = (text : List ℕ) (s : RegionStatement) → IsStatementText text (Region s) → NewNamesAreUtf8 s
