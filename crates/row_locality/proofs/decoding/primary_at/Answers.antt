use Rattle.std.proofs.Common.{◌∙◌, ap, arith, refl}
use Rattle.row_locality.specs.Keys.{index_types}
use Rattle.row_locality.specs.Rows.{index_of}
use Rattle.row_locality.proofs.EncodingLemmas.{few_unique}
use Rattle.row_locality.proofs.KeyPartLemmas.{tested_key, tested_no_key, index_types_of}
use Rattle.row_locality.proofs.decoding.primary_at.Goals as goal

pub index_of-requires : goal.index_of-requires
index_of-requires c = few_unique c.args.t.now c.requires.sound

pub is_key-requires : goal.is_key-requires
is_key-requires c = ap (index_types c.args.t.now) c.index_of.ensures ∙ index_types_of c.args.t.now c.args.column c.requires.column

pub returns-then-not-branch-clause-fault : goal.returns-then-not-branch-clause-fault
returns-then-not-branch-clause-fault c = λ pair.
    tested_no_key c.args.t.now c.index_of.result (index_of c.args.t.now c.args.column) c.args.key.now c.in_ok-is_key.field-0 (λ i. omega (arith, c.type_inv.key i)) c.index_of.ensures c.in_ok-is_key.ensures c.if-not-branch.true pair.0

pub returns-then-not-branch-2-clause-fault : goal.returns-then-not-branch-2-clause-fault
returns-then-not-branch-2-clause-fault c = λ pair.
    tested_no_key c.args.t.now 0 0 c.args.value.now c.in_ok-is_key-2.field-0 (λ i. omega (arith, c.type_inv.value i)) refl c.in_ok-is_key-2.ensures c.if-not-branch-2.true pair.1

pub returns-clause-keys : goal.returns-clause-keys
returns-clause-keys c = (
  tested_key c.args.t.now c.index_of.result (index_of c.args.t.now c.args.column) c.args.key.now c.in_ok-is_key.field-0 (λ i. omega (arith, c.type_inv.key i)) c.index_of.ensures c.in_ok-is_key.ensures c.if-not-branch.false,
  tested_key c.args.t.now 0 0 c.args.value.now c.in_ok-is_key-2.field-0 (λ i. omega (arith, c.type_inv.value i)) refl c.in_ok-is_key-2.ensures c.if-not-branch-2.false,
)
