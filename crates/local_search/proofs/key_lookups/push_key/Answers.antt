use Rattle.std.proofs.Common.{◌∙◌, sym, subst}
use Rattle.std.specs.List.{AllZip}
use Rattle.row_locality.specs.Keys.{index_types}
use Rattle.row_locality.specs.Rows.{HasType}
use Rattle.row_locality.proofs.TypeLemmas.{index_typed}
use Rattle.local_search.proofs.key_lookups.push_key.Goals as goal

pub key_span-requires-clause-typed : goal.key_span-requires-clause-typed
key_span-requires-clause-typed c =
    subst (AllZip HasType (index_types c.args.t.now c.args.index)) (sym (c.deref.ensures.value ∙ c.in_ok-values.ensures))
    (index_typed c.args.t.now c.args.row.now c.args.index c.columns_of.result.now c.requires.sound c.requires.fits c.columns_of.ensures)
