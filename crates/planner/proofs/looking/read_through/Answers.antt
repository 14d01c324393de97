use Rattle.std.proofs.Common.{sym, ap, ◌∙◌, map}
use Rattle.std.specs.Prelude.{option_map}
use Rattle.row_locality.specs.Pairs.{key_value}
use Rattle.sql_eval.specs.Reads.{served_reads}
use Rattle.planner.proofs.ThroughLemmas.{rows_read, unread}
use Rattle.planner.proofs.looking.read_through.Goals as goal

pub returns-in-None : goal.returns-in-None
returns-in-None c = unread c.args.own.now (served_reads c.args.known.now) c.args.ask.now (sym (ap (option_map (map key_value)) c.in-None.is) ∙ c.in_ok-served.ensures)

pub returns-in_ok-patched-in-Some : goal.returns-in_ok-patched-in-Some
returns-in_ok-patched-in-Some c =
    rows_read c.args.own.now (served_reads c.args.known.now) c.args.ask.now c.as_slice.result.now c.in-Some.rows _
    (sym (ap (option_map (map key_value)) c.in-Some.is) ∙ c.in_ok-served.ensures)
    (c.as_slice.ensures ∙ c.in_ok-written-in-Some.ensures)
    c.in_ok-patched-in-Some.ensures
