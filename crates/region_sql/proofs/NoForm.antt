use Rattle.std.proofs.Common.{ℕ, ℤ, List}
use Rattle.region_sql.specs.OneColumnForms.{IsOneColumnText}
use Rattle.region_sql.specs.declared.one_column_forms.OneColumnStatement.{OneColumnStatement}
use Rattle.region_sql.specs.declared.one_column_forms.OneColumnStatement.TheVariants.{Insert, SelectAll}

-- a text that is neither of the two forms is no statement
pub no_form : (text : List ℕ) → ((n : ℤ) → ¬ IsOneColumnText text (Insert n)) → ¬ IsOneColumnText text SelectAll → (s : OneColumnStatement) → ¬ IsOneColumnText text s
no_form text a b (Insert n) h = a n h
no_form text a b SelectAll h = b h
