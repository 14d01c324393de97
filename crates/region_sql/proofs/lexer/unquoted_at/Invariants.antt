use Rattle.std.proofs.Common.{◌≡◌, ◌+◌, ◌≤◌, length}
use Rattle.region_sql.specs.Lexing.{unquoted_at}
use Rattle.region_sql.proofs.Bytes.{with_bytes}
use Rattle.region_sql.proofs.lexer.unquoted_at.Given as goal

abbrev pub invariant-loop : goal.invariant-loop
invariant-loop l = (with_bytes l.text.items (unquoted_at l.rest) ≡ unquoted_at l.bytes) × (length l.rest + l.counter ≤ length l.bytes)
