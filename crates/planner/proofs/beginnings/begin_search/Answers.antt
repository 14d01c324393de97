use Rattle.std.proofs.Common.{◌∙◌}
use Rattle.sql_eval.specs.Tables.{named}
use Rattle.planner.proofs.BeginningLemmas.{partitions_for, scan_begins, search_begins}
use Rattle.planner.proofs.TableLemmas.{named_sound}
use Rattle.planner.proofs.beginnings.begin_search.Goals as goal

pub row_search-requires-clause-sound : goal.row_search-requires-clause-sound
row_search-requires-clause-sound c = named_sound c.args.setting.now c.args.table.now (named c.args.n.now) c.requires.sound c.requires.table

pub returns-in-None : goal.returns-in-None
returns-in-None c =
    let s = c.args.setting.now in
    let n = named c.args.n.now in
    scan_begins s.layout s.region n c.args.terms.now (partitions_for s c.args.table.now n c.requires.sound c.requires.table)
    c.in_ok-search.search.lookups c.in_ok-search.search.index c.region.result.now c.as_slice.result.now c.new.result
    c.region.ensures (c.as_slice.ensures ∙ c.in_ok-partitions.ensures) c.in_ok-search.ensures.index c.in-None.is c.in_ok-search.ensures.lookups c.new.ensures

pub returns : goal.returns
returns c =
    let s = c.args.setting.now in
    let n = named c.args.n.now in
    search_begins s.layout s.region n c.args.terms.now (partitions_for s c.args.table.now n c.requires.sound c.requires.table)
    c.in_ok-search.search.lookups c.in_ok-search.search.index c.in-Some.index c.region.result.now c.as_slice.result.now
    (named_sound s c.args.table.now n c.requires.sound c.requires.table) c.requires.typed
    c.region.ensures (c.as_slice.ensures ∙ c.in_ok-partitions.ensures) c.in_ok-search.ensures.index c.in-Some.is c.in_ok-search.ensures.lookups
