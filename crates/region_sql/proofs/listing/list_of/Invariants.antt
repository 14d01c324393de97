use Rattle.std.proofs.Common.{◌≡◌, ◌-◌, length}
use Rattle.region_sql.specs.Reading.{listed_at}
use Rattle.region_sql.proofs.Loops.{with_front}
use Rattle.region_sql.proofs.listing.list_of.Given as goal

abbrev pub invariant-loop : goal.invariant-loop
invariant-loop g l = with_front l.items.items (listed_at (length l.tokens - l.counter) g.T.Listed.separator g.T.Listed.reading l.rest) ≡ listed_at (length l.tokens) g.T.Listed.separator g.T.Listed.reading l.tokens
