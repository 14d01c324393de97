use Rattle.std.proofs.Common.{◌≡◌, ◌++◌, map}
use Rattle.std.specs.BTreeMap.Range.{entries_between}
use Rattle.std.specs.declared.ops.Bound.TheVariants.{Excluded, Included}
use Rattle.sql_eval.specs.OwnWrites.{place_cmp}
use Rattle.planner.proofs.own_writes.values_between.Given as goal

-- the values so far with those that are left are all
abbrev pub invariant-loop-place : goal.invariant-loop-place
invariant-loop-place l =
    l.values ++ map (λ x. (x.0.1, x.1.last)) l.place-iterator ≡ map (λ x. (x.0.1, x.1.last)) (entries_between place_cmp (Included l.from) (Excluded l.to) l.places.entries)
