use Rattle.std.proofs.Common.{arith}
use Rattle.std.specs.Global.{Vec}
use Rattle.std.specs.Option.{option_copied}
use Rattle.mr_base.specs.declared.rows.Datum.{Datum}
use Rattle.row_locality.proofs.RowLemmas.{row_found, none_found}
use Rattle.row_locality.proofs.decoding.row_of_bytes.Goals as goal

pub returns-clause-row : goal.returns-clause-row
returns-clause-row c =
    row_found (λ (row : Vec Datum). row.items) c.row_at.result c.args.t.now (option_copied c.args.region) (c.args.key.now, c.args.value.now) c.requires (λ i. omega (arith, c.type_inv.value i)) c.row_at.ensures

pub returns-clause-fault : goal.returns-clause-fault
returns-clause-fault c = none_found (λ (row : Vec Datum). row.items) c.row_at.result c.args.t.now (option_copied c.args.region) (c.args.key.now, c.args.value.now) c.row_at.ensures
