use Rattle.std.proofs.Common.{◌∙◌, sym, subst}
use Rattle.std.specs.List.{AllZip}
use Rattle.row_locality.specs.Keys.{index_types}
use Rattle.row_locality.specs.Rows.{HasType}
use Rattle.local_search.proofs.FixedColumns.{index_is_typed}
use Rattle.local_search.proofs.row_searches.row_search.Goals as goal

pub key_span-requires-clause-index : goal.key_span-requires-clause-index
key_span-requires-clause-index c =
    (index_is_typed c.args.t.now c.args.terms.now (c.in-Some.index, c.in-Some.values) c.requires.sound c.requires.typed (sym c.in_ok-index_for.ensures ∙ c.in-Some.is)).number

pub key_span-requires-clause-typed : goal.key_span-requires-clause-typed
key_span-requires-clause-typed c =
    subst (AllZip HasType (index_types c.args.t.now c.in-Some.index)) (sym c.as_slice-in-Some-2.ensures)
    (index_is_typed c.args.t.now c.args.terms.now (c.in-Some.index, c.in-Some.values) c.requires.sound c.requires.typed (sym c.in_ok-index_for.ensures ∙ c.in-Some.is)).typed
