use Rattle.std.proofs.Common.{◌≡◌, ℕ, false, arith, refl}
use Rattle.mr_base.specs.Timestamps.{ts_lt}
use Rattle.mr_base.specs.declared.timestamps.Reading.{Reading}
use Rattle.mr_base.specs.declared.timestamps.Ts.{Ts}
use Rattle.one_node.specs.Bounds.{IsBehind, IsAhead}
use Rattle.one_node.specs.Laying.{laid}
use Rattle.std.proofs.lemmas.Bool.Decides.{nat_tests}

-- what isn't ahead of a reading isn't above a timestamp that is
pub not_above : (kept : Reading) (count : ℕ) (start floor : Ts) → IsBehind kept count floor → IsAhead kept start → ts_lt start floor ≡ false
not_above kept count start floor behind ahead = grind (arith, nat_tests, behind.wall, behind.logical)

-- so a put that asks for it is laid there
pub laid_there : (owner : ℕ) (start floor : Ts) → ts_lt start floor ≡ false → laid start floor owner ≡ start
laid_there owner start floor e = rw e refl
