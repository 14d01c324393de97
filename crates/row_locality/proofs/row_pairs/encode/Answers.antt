use Rattle.std.proofs.Common.{All, subst, sym, ◌∙◌}
use Rattle.row_locality.specs.Values.{HasLength}
use Rattle.row_locality.proofs.EncodingLemmas.{small_lengths}
use Rattle.row_locality.proofs.row_pairs.encode.Goals as goal

pub pair_of-requires : goal.pair_of-requires
pair_of-requires c = subst (All HasLength) c.declared.ensures (small_lengths c.declared.result.now (sym c.if-not-is_short.false ∙ c.is_short.ensures))
