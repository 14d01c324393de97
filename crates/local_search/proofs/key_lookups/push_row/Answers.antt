use Rattle.std.proofs.Common.{◌+◌, ◌≤◌, ◌++◌, ◌∙◌, ℕ, List, map, sym, ap, subst}
use Rattle.std.specs.Option.{option_copied}
use Rattle.row_locality.specs.Plain.{Partition}
use Rattle.sql_eval.specs.Lookups.{key_lookup}
use Rattle.local_search.specs.ChangedKeys.{index_values}
use Rattle.local_search.proofs.LookupSteps.{key_is_new, key_is_old, all_keys_seen}
use Rattle.local_search.proofs.key_lookups.push_row.Goals.{then-branch+in_ok-push_key, else-branch}
use Rattle.local_search.proofs.key_lookups.push_row.Goals as goal

pub loop-index-preserved : goal.loop-index-preserved
loop-index-preserved c =
    let t = c.args.t.now in
    let ps = c.args.partitions.now in
    let old = option_copied c.args.old in
    let new = c.args.new.now in
    let i = c.loop-index.index in
    let before = c.loop-index.lookups in
    elim c.if-branch.branch [
      | then-branch+in_ok-push_key w ↦
          key_is_new t ps old new i c.columns_of.result.now c.args.lookups.now before c.if-branch.lookups c.columns_of.ensures (sym w.if-branch.true ∙ c.in_ok-is_new_in.ensures)
          c.loop-index.invariant
          (w.lookups-is ∙ w.in_ok-push_key.ensures
          ∙ ap (λ (ordered : List Partition). before ++ map (key_lookup i (index_values t i new)) ordered) (w.as_slice.ensures ∙ c.in_ok-ordered.ensures))
      | else-branch w ↦
          key_is_old t ps old new i c.columns_of.result.now c.args.lookups.now c.if-branch.lookups c.columns_of.ensures (sym w.if-branch.false ∙ c.in_ok-is_new_in.ensures)
          (w.lookups-is ∙ c.loop-index.invariant)
    ]

pub returns : goal.returns
returns c =
    all_keys_seen c.args.t.now c.args.partitions.now (option_copied c.args.old) c.args.new.now c.loop-index.index c.args.lookups.now c.loop-index.lookups
    (subst (λ (n : ℕ). n + 1 ≤ c.loop-index.index) c.len-index-end.ensures c.loop-index-test.false) c.loop-index.invariant
