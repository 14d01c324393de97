use Rattle.std.proofs.Common.{rules, ◌∙◌, sym, ap}
use Rattle.std.specs.Option.{option_copied}
use Rattle.sql_eval.specs.Tables.{named}
use Rattle.planner.proofs.RowWriteLemmas.{range_is, range_is_there}
use Rattle.planner.proofs.row_writes.range_of.Goals as goal

pub returns-in-Some : goal.returns-in-Some
returns-in-Some c = λ l h.
    c.range.ensures
    ∙ range_is l (named c.args.n.now) c.args.partitions.now c.args.row.now c.place_of_region-place.result c.in-Some.partition.now
    (search rules) (sym (ap option_copied c.in-Some.is) ∙ c.partition_at.ensures) h

pub returns-in-None : goal.returns-in-None
returns-in-None c = λ l h.
    range_is_there l (named c.args.n.now) c.args.partitions.now c.args.row.now c.place_of_region-place.result _
    (search rules) (sym (ap option_copied c.in-None.is) ∙ c.partition_at.ensures) h
