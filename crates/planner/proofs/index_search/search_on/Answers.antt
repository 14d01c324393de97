use Rattle.std.proofs.Common.{◌∙◌, List, ap, drop, subst}
use Rattle.sql_eval.specs.OwnWrites.{reads_through}
use Rattle.sql_eval.specs.Reads.{served_reads}
use Rattle.sql_eval.specs.Search.{Lookup}
use Rattle.planner.proofs.SearchLemmas.{asks_next, goes_on}
use Rattle.planner.specs.Searches.{IsSought}
use Rattle.planner.specs.declared.index_search.Sought.TheVariants as sought
use Rattle.planner.proofs.index_search.search_on.Goals as goal

pub returns-in-Asks : goal.returns-in-Asks
returns-in-Asks c =
    let t = c.args.t.now in
    let w = c.args.w in
    let known = reads_through c.args.own.now (served_reads c.args.known.now) in
    let s : IsSought t w.index known (drop w.passed w.lookups) (sought.Asks c.in-Asks.more c.in-Asks.ask) =
    subst (λ (ls : List Lookup). IsSought t w.index known ls (sought.Asks c.in-Asks.more c.in-Asks.ask)) (c.rest_of-lookups.ensures ∙ ap (drop w.passed) c.as_slice.ensures)
    (subst (IsSought t w.index known c.rest_of-lookups.result.now) c.in-Asks.is c.in_ok-more.ensures) in
    λ d sound. asks_next d t known w c.with_passed.result c.in-Asks.more c.in-Asks.ask c.with_passed.ensures sound s

pub returns-in_ok-scan_of-in-Leads : goal.returns-in_ok-scan_of-in-Leads
returns-in_ok-scan_of-in-Leads c =
    let t = c.args.t.now in
    let w = c.args.w in
    let known = reads_through c.args.own.now (served_reads c.args.known.now) in
    let s : IsSought t w.index known (drop w.passed w.lookups) (sought.Leads c.in-Leads.row) =
    subst (λ (ls : List Lookup). IsSought t w.index known ls (sought.Leads c.in-Leads.row)) (c.rest_of-lookups.ensures ∙ ap (drop w.passed) c.as_slice.ensures)
    (subst (IsSought t w.index known c.rest_of-lookups.result.now) c.in-Leads.is c.in_ok-more.ensures) in
    λ d sound. goes_on d t known w c.in_ok-scan_of-in-Leads.field-0 c.in-Leads.row c.in_ok-scan_of-in-Leads.ensures sound s
