use Rattle.std.proofs.Common.{◌≡◌, ◌++◌, ℕ, List, map, take, drop}
use Rattle.std.specs.FinMap.Entries.{put}
use Rattle.row_locality.specs.Pairs.{bytes_cmp, key_value}
use Rattle.planner.proofs.looking.place_of.Given as goal

abbrev pub invariant-loop-i : goal.invariant-loop-i
invariant-loop-i l =
    (v : List ℕ) → put bytes_cmp l.key v (map key_value l.pairs) ≡ map key_value (take l.i l.pairs) ++ put bytes_cmp l.key v (map key_value (drop l.i l.pairs))
