use Rattle.std.proofs.Common.{◌≤◌, length}
use Rattle.region_sql.specs.Lexing.{Lexes}
use Rattle.region_sql.proofs.lexing.lex.Given as goal

abbrev pub invariant-loop-front : goal.invariant-loop-front
invariant-loop-front l = Lexes (length l.text) l.text l.tokens.items l.ends.items l.rest × (length l.rest ≤ length l.text)

abbrev pub decreases-loop-front : goal.decreases-loop-front
decreases-loop-front l = length l.rest
