use Rattle.std.proofs.Common.{◌≡◌, ◌≤◌, ◌+◌, length, ap, ◌∙◌, arith}
use Rattle.scenario.specs.declared.seen.Seen.{Seen}
use Rattle.scenario.proofs.AfterLemmas.{counted_stays, one_name_more}
use Rattle.scenario.proofs.reader.Scenario.read_line.Goals as goal

pub overflow_add-self : goal.overflow_add-self
overflow_add-self g c =
    let same : c.take.new.seen.counted ≡ c.self.inside.seen.counted = ap (λ (s : Seen). s.counted) c.in_ok-line.ensures.ok ∙ counted_stays c.self.inside.seen c.in_ok-form.form in
    let few = c.in_ok-form.ensures.counts in
    omega arith

pub invariant_of-self-2 : goal.invariant_of-self-2
invariant_of-self-2 g c =
    let same : c.take.new.seen.counted ≡ c.self.inside.seen.counted = ap (λ (s : Seen). s.counted) c.in_ok-line.ensures.ok ∙ counted_stays c.self.inside.seen c.in_ok-form.form in
    let names : length c.take.new.seen.names ≤ length c.self.inside.seen.names + 1 = rw c.in_ok-line.ensures.ok (one_name_more c.self.inside.seen c.in_ok-form.form) in
    let before = c.self.invariant in
    omega arith
