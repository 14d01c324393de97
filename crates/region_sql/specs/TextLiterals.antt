-- The text literals of row statements are UTF-8, whatever bytes the statements were read from. (A text is
-- characters, as in PostgreSQL.)
use Rattle.std.specs.Prelude.{ℕ, ⊤, List, All, IsUtf8}
use Rattle.region_sql.specs.declared.row_statements.Literal.{Literal}
use Rattle.region_sql.specs.declared.row_statements.Literal.TheVariants as literals
use Rattle.region_sql.specs.declared.row_statements.Value.{Value}
use Rattle.region_sql.specs.declared.row_statements.Value.TheVariants as values
use Rattle.region_sql.specs.declared.row_statements.RowStatement.{RowStatement}
use Rattle.region_sql.specs.declared.row_statements.RowStatement.TheVariants as statements
use Rattle.region_sql.specs.Grammar.{IsListText}

-- A literal that is a text is UTF-8.
abbrev pub IsUtf8Literal : Literal → Type 0
IsUtf8Literal (literals.Int n) = ⊤
IsUtf8Literal (literals.Text s) = IsUtf8 s
IsUtf8Literal (literals.Bool b) = ⊤

abbrev pub IsUtf8Value : Value → Type 0
IsUtf8Value (values.Literal l) = IsUtf8Literal l
IsUtf8Value (values.Column name) = ⊤
IsUtf8Value (values.Plus name by) = ⊤
IsUtf8Value (values.Minus name by) = ⊤

-- Each text literal of a statement is UTF-8.
abbrev pub TextsAreUtf8 : RowStatement → Type 0
TextsAreUtf8 (statements.Insert table columns rows) = All (All IsUtf8Literal) rows
TextsAreUtf8 (statements.Select table wanted terms) = All (λ x. IsUtf8Literal x.literal) terms
TextsAreUtf8 (statements.Update table targets terms) = All (λ x. IsUtf8Value x.value) targets × All (λ x. IsUtf8Literal x.literal) terms
TextsAreUtf8 (statements.Delete table terms) = All (λ x. IsUtf8Literal x.literal) terms

-- The text literals of a list that some bytes are.
abbrev pub ReadTextsAreUtf8 : Type 0
ReadTextsAreUtf8 = (text : List ℕ) (list : List RowStatement) → IsListText text list → All TextsAreUtf8 list
