use Rattle.std.proofs.Common.{◌≡◌, [], length}
use Rattle.row_locality.specs.Reading.{unescaped_at}
use Rattle.row_locality.proofs.key_reading.unescaped_at.Given as goal

abbrev pub invariant-loop-text : goal.invariant-loop-text
invariant-loop-text l = unescaped_at l.text.items l.rest ≡ unescaped_at [] l.bytes

abbrev pub decreases-loop-text : goal.decreases-loop-text
decreases-loop-text l = length l.rest
