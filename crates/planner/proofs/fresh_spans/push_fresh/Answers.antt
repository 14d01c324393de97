use Rattle.std.proofs.Common.{List, ◌++◌, ◌∷◌, [], sym, ap, ◌∙◌}
use Rattle.std.specs.Prelude.{slice_get}
use Rattle.std.specs.Option.{option_copied}
use Rattle.std.proofs.lemmas.Result.{on_ok_weaker}
use Rattle.mr_base.specs.declared.spans.Ask.{Ask}
use Rattle.row_locality.specs.Plain.{Partition}
use Rattle.sql_eval.specs.Lookups.{index_for, row_lookups, searched_partitions}
use Rattle.sql_eval.specs.Search.{Lookup}
use Rattle.planner.proofs.FreshLemmas.{first_looked_at}
use Rattle.planner.proofs.fresh_spans.push_fresh.Goals as goal

pub returns : goal.returns
returns c =
    on_ok_weaker c.push.result
    (λ e.
    e
    ∙ ap (λ (l : List Ask). c.args.asks.now ++ l)
    (ap (λ (a : Ask). a ∷ []) c.in_ok-looked_at.ensures
    ∙ first_looked_at c.args.t.now c.args.terms.now c.args.partition.now [] c.in_ok-search.search.index c.in_ok-search.search.lookups c.in-Some.lookup.now
    c.in_ok-search.ensures.index
    (c.in_ok-search.ensures.lookups ∙ ap (λ (ps : List Partition). row_lookups [] (index_for c.args.t.now c.args.terms.now) (searched_partitions c.args.terms.now ps)) c.from_ref.ensures.value)
    (sym (ap option_copied c.in-Some.is) ∙ c.first_of.ensures ∙ ap (λ (ls : List Lookup). slice_get ls 0) c.as_slice.ensures)))
    c.push.ensures.ok
