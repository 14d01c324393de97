use Rattle.std.proofs.Common.{◌≡◌, ◌-◌, length}
use Rattle.region_sql.specs.Grammar.{row_statement}
use Rattle.region_sql.specs.Reading.{ended_at, first, parse}
use Rattle.region_sql.proofs.Loops.{with_front}
use Rattle.region_sql.proofs.lists.statements_of.Given as goal

abbrev pub invariant-loop : goal.invariant-loop
invariant-loop l =
    with_front l.statements.items (ended_at (length l.tokens - l.counter) 23 (first row_statement) (λ us. parse row_statement us) l.rest)
    ≡ ended_at (length l.tokens) 23 (first row_statement) (λ us. parse row_statement us) l.tokens
