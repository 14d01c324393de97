use Rattle.std.proofs.Common.{sym, ap, ◌∙◌}
use Rattle.std.specs.Option.{option_copied}
use Rattle.std.proofs.lemmas.Result.{IfOk-weaker}
use Rattle.sql_eval.specs.Tables.{named}
use Rattle.planner.proofs.SettingLemmas.{first_is_there, has_room, partitions_are}
use Rattle.planner.proofs.setting.partitions_of.Goals as goal

pub partitions-requires : goal.partitions-requires
partitions-requires c =
    has_room c.args.setting.now c.args.name.now (named c.args.n.now) c.requires.sound c.requires.table c.in-Some.first.now (sym (ap option_copied c.in-Some.is) ∙ c.first_range.ensures)

pub unreachable-requires : goal.unreachable-requires
unreachable-requires c =
    first_is_there c.args.setting.now c.args.name.now (named c.args.n.now) c.requires.sound c.requires.table (sym (ap option_copied c.in-None.is) ∙ c.first_range.ensures)

pub returns : goal.returns
returns c =
    IfOk-weaker c.partitions.result _ _
    (λ ps are. partitions_are c.args.setting.now c.args.name.now (named c.args.n.now) c.requires.sound c.requires.table c.in-Some.first.now ps
    (sym (ap option_copied c.in-Some.is) ∙ c.first_range.ensures) are)
    c.partitions.ensures
