-- The tables of statements in a sound setting.
use Rattle.std.proofs.Common.{◌≡◌, ℕ, List}
use Rattle.std.specs.Prelude.{Some}
use Rattle.descriptors.specs.Sound.{IsSoundTable}
use Rattle.sql_eval.specs.Evaluation.{Setting}
use Rattle.sql_eval.specs.Execution.{Named, named_table}
use Rattle.sql_eval.specs.Laws.{IsSoundSetting}
use Rattle.answer_laws.proofs.KeepsValid.{is_named}
use Rattle.answer_laws.proofs.RangesOfTables.{table_sound}

pub named_sound : (s : Setting) (name : List ℕ) (n : Named) → IsSoundSetting s → named_table s.layout.catalog name ≡ Some n → IsSoundTable n.table
named_sound s name n sound e = table_sound s.layout.catalog n.place n.table sound.layout.catalog (is_named s.layout.catalog name n e).at
