use Rattle.std.specs.Prelude.{ℕ, List, codes}
use Rattle.mr_base.specs.declared.states.SqlState.{SqlState}
use Rattle.mr_base.specs.declared.states.SqlState.TheVariants.{S0A000, S22003, S22P02, S23502, S23505, S25006, S3D000, S42601, S42701, S42703, S42804, S42P01, S42P04, S42P07, S54000}

-- The five characters of a SQLSTATE code.
abbrev pub code_of : SqlState → List ℕ
code_of S0A000 = codes "0A000"
code_of S22003 = codes "22003"
code_of S22P02 = codes "22P02"
code_of S23502 = codes "23502"
code_of S23505 = codes "23505"
code_of S25006 = codes "25006"
code_of S3D000 = codes "3D000"
code_of S42601 = codes "42601"
code_of S42701 = codes "42701"
code_of S42703 = codes "42703"
code_of S42804 = codes "42804"
code_of S42P01 = codes "42P01"
code_of S42P04 = codes "42P04"
code_of S42P07 = codes "42P07"
code_of S54000 = codes "54000"
