use Rattle.std.proofs.Common.{◌≡◌, map, drop}
use Rattle.std.specs.Map.{lookup}
use Rattle.std.specs.Str.{bytes_eq}
use Rattle.region_sql.proofs.words.look_up.Given as goal

abbrev pub invariant-loop-entry : goal.invariant-loop-entry
invariant-loop-entry g l = lookup (bytes_eq l.word) (map (λ w. (w.0.now, w.1)) (drop l.entry-index l.words)) ≡ lookup (bytes_eq l.word) (map (λ w. (w.0.now, w.1)) l.words)
