-- When a row may be put under another locality of its table. Source: this project's profile.
use Rattle.std.specs.Prelude.{◌≡◌, ℕ, List, IsUtf8}
use Rattle.mr_base.specs.declared.rows.Datum.{Datum}
use Rattle.descriptors.specs.declared.table.Table.{Table}
use Rattle.row_locality.specs.Rows.{Fits}

-- The row fits the old table, the new one declares the same columns, and the primary region is a text.
pub record CanReshape (old new : Table) (primary : List ℕ) (row : List Datum) : Type 0 where
  pub fits : Fits old row
  pub same_columns : new.columns ≡ old.columns
  pub is_text : IsUtf8 primary
