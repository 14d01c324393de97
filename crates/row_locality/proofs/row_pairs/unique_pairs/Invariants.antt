use Rattle.std.proofs.Common.{◌≡◌, ◌+◌, ◌++◌, map, drop}
use Rattle.row_locality.specs.Pairs.{key_value, index_pairs}
use Rattle.row_locality.proofs.EncodingLemmas.{pairs_from}
use Rattle.row_locality.proofs.row_pairs.unique_pairs.Given as goal

abbrev pub invariant-loop-column : goal.invariant-loop-column
invariant-loop-column l =
    (l.number ≡ 1 + l.column-index) × (map key_value l.pairs.items ++ pairs_from l.t l.row l.number (drop l.column-index l.t.unique) ≡ index_pairs l.t l.row)
