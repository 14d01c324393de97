use Rattle.std.proofs.Common.{codes, ◌∙◌, ◌++◌, ap}
use Rattle.std.specs.Option.{option_copied}
use Rattle.zone_compile.specs.Text.{config_text}
use Rattle.zone_report.specs.Report.{config_line, range_name}
use Rattle.zone_report.proofs.Lines.{three_parts}
use Rattle.zone_report.proofs.report.put_config.Goals as goal

pub returns : goal.returns
unfolding config_line
returns c =
    three_parts (range_name c.args.number c.args.table.now (option_copied c.args.partition)) (config_text c.args.config.now) (codes "\n")
    c.args.out.now.items c.put_name.new.out.items c.put.new.out.items c.put-2.new.out.items
    c.in_ok-put_name.ensures
    (c.in_ok-put.ensures ∙ ap (λ l. c.put_name.new.out.items ++ l) (c.as_slice.ensures ∙ c.in_ok-text.ensures))
    c.in_ok-put-2.ensures
