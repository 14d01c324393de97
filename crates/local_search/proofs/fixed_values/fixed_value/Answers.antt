use Rattle.std.proofs.Common.{sym}
use Rattle.local_search.proofs.FixedColumns.{found_in_range}
use Rattle.local_search.proofs.fixed_values.fixed_value.Goals as goal

pub datum_of-requires : goal.datum_of-requires
datum_of-requires c = found_in_range _ c.args.terms.now c.in-Some.term.now c.requires (sym c.in-Some.ensures)
