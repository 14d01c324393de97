use Rattle.row_locality.specs.Keys.{types_at}
use Rattle.row_locality.proofs.KeyReadingSteps.{no_key, other_key, key_ended, key_broken}
use Rattle.row_locality.proofs.key_reading.is_key.Goals as goal

pub returns-in_default : goal.returns-in_default
returns-in_default c = no_key c.args.t.now c.args.number c.args.key.now c.in_default.len_below

pub returns-then-first-number : goal.returns-then-first-number
returns-then-first-number c = other_key c.args.t.now c.args.number c.args.key.now c.in-len1-up.len_at_least c.if-first-number.true

pub returns-in-Ok : goal.returns-in-Ok
returns-in-Ok c =
    key_ended c.args.t.now c.args.number (types_at c.args.t.now c.args.places.now) c.args.key.now c.in-Ok.rest.now c.is_empty.result c.in-len1-up.len_at_least c.if-first-number.false c.requires c.in-Ok.ensures c.is_empty.ensures

pub returns-in-Err-Malformed : goal.returns-in-Err-Malformed
returns-in-Err-Malformed c =
    key_broken c.args.t.now c.args.number (types_at c.args.t.now c.args.places.now) c.args.key.now c.in-len1-up.len_at_least c.if-first-number.false c.requires
    (rw c.in-Err-Malformed.field-0-is at c.in-Err-Malformed.ensures)
