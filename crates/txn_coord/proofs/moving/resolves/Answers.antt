use Rattle.std.proofs.Common.{arith, ap, length, inl, inr}
use Rattle.txn_coord.proofs.moving.resolves.Goals as goal

-- Something was laid, so the script is done, and its writes are known.
pub returns : goal.returns
returns g c = elim c.requires [
  | inl e ↦ let none = ap length e in absurd (omega (arith, none, c.len-laid.ensures, c.if-laid-t.false))
  | inr w ↦ rw (← c.len-laid.ensures, ← c.writes-writes.ensures w.done) c.resolve.ensures
]
