use Rattle.std.proofs.Common.{◌≡◌, arith, rules, drop, get_or, map, subst, ◌∙◌}
use Rattle.row_locality.specs.Pairs.{key_value}
use Rattle.sql_eval.specs.OwnWrites.{reads_through}
use Rattle.sql_eval.specs.Reads.{served_reads}
use Rattle.planner.proofs.SearchLemmas.{each_at, leads_one, needs_one, no_pairs, passes_all, passes_one, row_there, some_pairs}
use Rattle.planner.specs.Searches.{row_lookup, sought_rows}
use Rattle.planner.specs.Turns.{IsNeeded}
use Rattle.planner.proofs.index_search.seek.Goals as goal

pub returns-in_default : goal.returns-in_default
returns-in_default c =
    let known = reads_through c.args.own.now (served_reads c.args.known.now) in (
      omega (arith),
      c.loop-i.invariant,
      (λ terms. subst (IsNeeded (sought_rows c.args.t.now terms c.args.index (drop c.loop-i.i c.args.lookups.now) known)) (search rules)
          (needs_one known c.args.t.now c.args.index c.args.lookups.now c.loop-i.i c.index-lookups-i.result (omega (arith)) (search rules) terms)),
    )

pub returns-then-not-is_empty : goal.returns-then-not-is_empty
returns-then-not-is_empty c =
    let known = reads_through c.args.own.now (served_reads c.args.known.now) in (
      leads_one known c.args.t.now c.args.index c.args.lookups.now c.loop-i.i c.index-lookups-i.result (omega (arith)) (map key_value c.in-Some.pairs)
          c.in_ok-row_lookup.field-0 (search rules) (some_pairs (get_or c.args.lookups.now c.loop-i.i c.index-lookups-i.result) c.in-Some.pairs (search rules))
          (each_at (λ x. x.index ≡ c.args.index) c.args.lookups.now c.loop-i.i c.index-lookups-i.result (omega (arith)) c.requires.of_index)
          (c.in_ok-row_lookup.ensures ∙ (λ j. row_lookup c.args.t.now (c.index-lookups-i.is j) (map key_value (c.as_slice.ensures j)))) c.loop-i.invariant,
      (λ d a. row_there d c.args.t.now c.args.lookups.now c.loop-i.i c.index-lookups-i.result (map key_value c.in-Some.pairs) c.in_ok-row_lookup.field-0 (omega (arith))
          (c.in_ok-row_lookup.ensures ∙ (λ j. row_lookup c.args.t.now (c.index-lookups-i.is j) (map key_value (c.as_slice.ensures j)))) a),
    )

pub loop-i-preserved : goal.loop-i-preserved
loop-i-preserved c =
    let known = reads_through c.args.own.now (served_reads c.args.known.now) in
    passes_one known c.args.t.now c.args.index c.args.lookups.now c.loop-i.i c.index-lookups-i.result (omega (arith))
    (no_pairs c.in-Some.pairs _ (search rules) (search rules)) c.loop-i.invariant

pub returns : goal.returns
returns c = (
  passes_all (reads_through c.args.own.now (served_reads c.args.known.now)) c.args.t.now c.args.index c.args.lookups.now c.loop-i.i (omega (arith)) c.loop-i.invariant,
  (λ d a. tt),
)
