use Rattle.region_sql.specs.Grammar.{statement, row_statements}
use Rattle.region_sql.proofs.GoodForms.{row_statements-good}
use Rattle.region_sql.proofs.GoodRegionForms.{statement-good}
use Rattle.region_sql.proofs.Texts.{one_value}
use Rattle.region_sql.proofs.parse.one_meaning.Goals as goal

pub returns-clause-list : goal.returns-clause-list
returns-clause-list c = λ text a b p q. one_value row_statements row_statements-good text a b p q

pub returns-clause-statement : goal.returns-clause-statement
returns-clause-statement c = λ text a b p q. one_value statement statement-good text a b p q
