use Rattle.std.proofs.Common.{subst}
use Rattle.region_sql.specs.declared.statements.Statement.{Statement}
use Rattle.region_sql.specs.declared.statements.Statement.TheVariants.{Region}
use Rattle.region_sql.specs.Grammar.{IsStatementText}
use Rattle.zone_report.proofs.Parsing.{if_syntax, no_region}
use Rattle.zone_report.proofs.statements.read.Goals as goal

pub returns-in-Ok-Region-clause-names : goal.returns-in-Ok-Region-clause-names
returns-in-Ok-Region-clause-names c = c.new_names_are_utf8.ensures c.args.text.now c.in-Ok-Region.s (subst (IsStatementText c.args.text.now) c.in-Ok-Region.field-0-is c.in-Ok-Region.ensures.value)

pub returns-in-Ok-Row-clause-read : goal.returns-in-Ok-Row-clause-read
returns-in-Ok-Row-clause-read c = λ s h. no_region c.in-Ok-Row.field-0 c.in-Ok-Row.field-0-0 s c.in-Ok-Row.field-0-is (c.one_meaning.ensures.statement c.args.text.now c.in-Ok-Row.field-0 (Region s) c.in-Ok-Row.ensures.value h)

pub returns-in-Err-Syntax-clause-read : goal.returns-in-Err-Syntax-clause-read
returns-in-Err-Syntax-clause-read c = λ s h. if_syntax c.in-Err-Syntax.field-0 c.in-Err-Syntax.field-0-0 (λ at. (other : Statement) → IsStatementText c.args.text.now other → ⊥) c.in-Err-Syntax.field-0-is c.in-Err-Syntax.ensures.syntax (Region s) h
