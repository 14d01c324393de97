use Rattle.std.proofs.Common.{◌≡◌, ℕ, ◌<◌, List, get_or}
use Rattle.zone_compile.proofs.forming.are_ones.Given as goal

abbrev pub invariant-loop-count : goal.invariant-loop-count
invariant-loop-count l = (k : ℕ) (d : List ℕ × ℕ) → k < l.count-index → (get_or l.counts k d).1 ≡ 1
