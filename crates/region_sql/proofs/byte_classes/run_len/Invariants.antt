use Rattle.std.proofs.Common.{◌≡◌, ℕ, ◌<◌, get_or, true}
use Rattle.region_sql.specs.Lexing.{is_in_class}
use Rattle.region_sql.proofs.byte_classes.run_len.Given as goal

abbrev pub invariant-loop-i : goal.invariant-loop-i
invariant-loop-i l = (k : ℕ) → k < l.i → is_in_class l.class (get_or l.bytes k 0) ≡ true
