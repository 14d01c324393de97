use Rattle.std.specs.Prelude.{◌≡◌, ◌↔◌, ℕ, Option}
use Rattle.descriptors.specs.declared.database.Database.{Database}
use Rattle.descriptors.specs.declared.table.Table.{Table}
use Rattle.descriptors.specs.Sound.{IsSoundDatabase, IsSoundIn}
use Rattle.zone_compile.specs.declared.config.ZoneConfig.{ZoneConfig}
use Rattle.zone_compile.specs.Configuration.{HasForm, IsPartitionOf, configuration}

-- The configuration of a range of a table in a database, both as the catalog keeps them.
pub record IsOfTable (c : ZoneConfig) : Type 0 where
  pub database : Database
  pub table : Table
  pub partition : Option ℕ
  pub sound_database : IsSoundDatabase database
  pub sound_table : IsSoundIn database table
  pub is_partition : IsPartitionOf database table.locality partition
  pub same : c ≡ configuration database table.locality partition

-- The configurations that have a form are those of the ranges of tables.
abbrev pub FormsAreOfTables : Type 0
FormsAreOfTables = (c : ZoneConfig) → HasForm c ↔ IsOfTable c
