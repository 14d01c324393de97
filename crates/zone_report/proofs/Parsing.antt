-- What a text is read as, by cases on the parser's answer.
use Rattle.std.proofs.Common.{◌≡◌, ℕ, subst, Err}
use Rattle.region_sql.specs.declared.region_statements.RegionStatement.{RegionStatement}
use Rattle.region_sql.specs.declared.row_statements.RowStatement.{RowStatement}
use Rattle.region_sql.specs.declared.statements.ParseFault.{ParseFault}
use Rattle.region_sql.specs.declared.statements.ParseFault.TheVariants as faults
use Rattle.region_sql.specs.declared.statements.Statement.{Statement}
use Rattle.region_sql.specs.declared.statements.Statement.TheVariants as statements
use Rattle.region_sql.specs.Faults.{IfSyntax}

pub if_syntax : (f : ParseFault) (at : ℕ) (P : ℕ → Type 0) → f ≡ faults.Syntax at → IfSyntax {A = Statement} (Err f) P → P at
if_syntax f at P e h = let Q : ParseFault → Type 0 = λ x. IfSyntax {A = Statement} (Err x) P in subst Q e h

pub no_region : (x : Statement) (r : RowStatement) (s : RegionStatement) → x ≡ statements.Row r → x ≡ statements.Region s → ⊥
no_region x r s h g = cc
