use Rattle.std.proofs.Common.{◌≡◌, ◌++◌, take}
use Rattle.zone_compile.specs.Text.{more_text}
use Rattle.zone_compile.proofs.text_form.put_more.Given as goal

abbrev pub invariant-loop-count : goal.invariant-loop-count
invariant-loop-count l = l.out.items ≡ l.fn.out.items ++ more_text (take l.count-index l.counts)
