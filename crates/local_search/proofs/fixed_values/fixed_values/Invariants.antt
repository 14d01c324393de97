use Rattle.std.proofs.Common.{◌≡◌, ◌++◌, drop}
use Rattle.std.specs.Prelude.{option_map}
use Rattle.sql_eval.specs.Lookups.{fixed_values}
use Rattle.local_search.proofs.fixed_values.fixed_values.Given as goal

abbrev pub invariant-loop-place : goal.invariant-loop-place
invariant-loop-place l =
    option_map (λ vs. l.values ++ vs) (fixed_values l.t l.terms (drop l.place-index l.places)) ≡ fixed_values l.t l.terms l.places
